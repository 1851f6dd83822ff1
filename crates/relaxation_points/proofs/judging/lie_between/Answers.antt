use Rattle.std.proofs.Common.{below_more}
use Rattle.relaxation_points.proofs.judging.lie_between.Goals as goal

pub loop-var-preserved : goal.loop-var-preserved
loop-var-preserved c = below_more _ _ c.loop-var.invariant (c.lies_between.ensures.0 c.if-not-lies_between.false)
