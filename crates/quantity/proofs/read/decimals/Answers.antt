use Rattle.std.proofs.Common.{arith}
use Rattle.quantity.proofs.Digits.{decimals_below}
use Rattle.quantity.proofs.read.decimals.Goals as goal

pub returns-else-not-are_digits-clause-below : goal.returns-else-not-are_digits-clause-below
returns-else-not-are_digits-clause-below c = decimals_below c.number_of.result c.power_of_ten.result _
    (omega (arith, c.number_of.ensures.value, c.number_of.ensures.below)) (omega arith) c.power_of_ten.ensures
