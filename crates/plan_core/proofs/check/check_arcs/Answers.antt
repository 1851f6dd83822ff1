use Rattle.std.proofs.Common.{arith}
use Rattle.plan_core.proofs.check.check_arcs.Goals as goal

pub returns-clause-keeps : goal.returns-clause-keeps
returns-clause-keeps c = λ a broken. c.loop-arc.invariant a (omega (arith, broken.0)) broken
