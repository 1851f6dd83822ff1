use Rattle.std.proofs.Common.{below_more, rules}
use Rattle.network_parts.specs.Parts.{arc_row}
use Rattle.network_parts.specs.Faults.{IsArcInRange, no_arc_row}
use Rattle.network_parts.proofs.Mapped.{holds_at}
use Rattle.network_checks.proofs.ranges.check_carriage.Goals as goal

pub loop-n-preserved : goal.loop-n-preserved
loop-n-preserved c =
    below_more _ _ c.loop-n.invariant (holds_at IsArcInRange arc_row c.args.rows.now c.loop-n.n c.index-rows-n.result no_arc_row c.loop-n-test.true c.index-rows-n.is (search rules))
