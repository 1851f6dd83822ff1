use Rattle.std.proofs.Common.{below_more, arith}
use Rattle.std.proofs.lemmas.Bool.{false≢true}
use Rattle.network_checks.proofs.arcs.check_repeats.Goals as goal

pub loop-n-preserved : goal.loop-n-preserved
loop-n-preserved c = below_more _ _ c.loop-n.invariant (λ repeat. absurd (false≢true (c.if-is_among.ensures.1 repeat.1)))

pub returns-clause-none : goal.returns-clause-none
returns-clause-none c = λ n repeat. c.loop-n.invariant n (omega (arith, repeat.0, c.loop-n-test.false)) repeat
