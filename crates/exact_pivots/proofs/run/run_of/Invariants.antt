use Rattle.exact_run.specs.Runs.{Reaches}
use Rattle.exact_pivots.specs.Views.{program_of, state_of}
use Rattle.exact_pivots.specs.Fits.{Fits}
use Rattle.exact_pivots.proofs.run.run_of.Given as goal

abbrev pub invariant-loop : goal.invariant-loop
invariant-loop l = Reaches (program_of l.program) l.counter (state_of l.tableau) × Fits (program_of l.program) l.tableau
