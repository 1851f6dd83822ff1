use Rattle.std.proofs.Common.{arith}
use Rattle.exact_pivots.specs.Views.{program_of, state_of}
use Rattle.exact_pivots.proofs.Running.{reaches_more, ends_pivots}
use Rattle.exact_pivots.proofs.run.run_of.Goals as goal

pub loop-preserved : goal.loop-preserved
loop-preserved c = (
  reaches_more (program_of c.args.program.now) c.loop.counter (state_of c.loop.tableau) (state_of c.step.new.self) c.loop.invariant.0 c.in-Ok.ensures.step,
  c.in-Ok.ensures.fits,
)

pub returns-then-has_candidate : goal.returns-then-has_candidate
returns-then-has_candidate c =
    ends_pivots (program_of c.args.program.now) c.args.pivots c.loop.counter (state_of c.loop.tableau) c.in-Some-leaving.leaving
    (omega (arith, c.loop-test.false, c.loop.auto.counter-end)) c.loop.invariant.0 c.in-Some-leaving.ensures (c.has_candidate.ensures.some c.if-has_candidate.true)
