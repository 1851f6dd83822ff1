use Rattle.std.proofs.Common.{below_more, rules}
use Rattle.network_parts.specs.Parts.{product_row}
use Rattle.network_parts.specs.Faults.{IsProductInRange, no_product_row}
use Rattle.network_parts.proofs.Mapped.{holds_at}
use Rattle.network_checks.proofs.ranges.check_products.Goals as goal

pub loop-n-preserved : goal.loop-n-preserved
loop-n-preserved c =
    below_more _ _ c.loop-n.invariant (holds_at IsProductInRange product_row c.args.rows.now c.loop-n.n c.index-rows-n.result no_product_row c.loop-n-test.true c.index-rows-n.is (search rules))
