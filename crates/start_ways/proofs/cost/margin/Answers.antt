use Rattle.std.proofs.Common.{arith}
use Rattle.std.proofs.lemmas.Int.{ints}
use Rattle.start_ways.proofs.cost.margin.Goals as goal

pub returns-clause-value : goal.returns-clause-value
returns-clause-value c =
    omega (arith, ints, c.from.ensures, c.from-2.ensures, c.from-3.ensures, c.source_cost.ensures.value, c.source_cost.ensures.size, c.carriage.ensures.value, c.carriage.ensures.size, c.product_price-price.ensures.value, c.product_price-price.ensures.size)

pub returns-clause-size : goal.returns-clause-size
returns-clause-size c =
    omega (arith, ints, c.from.ensures, c.from-2.ensures, c.from-3.ensures, c.source_cost.ensures.value, c.source_cost.ensures.size, c.carriage.ensures.value, c.carriage.ensures.size, c.product_price-price.ensures.value, c.product_price-price.ensures.size)
