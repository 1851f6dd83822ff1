use Rattle.exact_pivots.specs.Views.{program_of, state_of}
use Rattle.exact_pivots.specs.Choices.{IsLeavingOf}
use Rattle.exact_pivots.proofs.tableau.Tableau.leaving.Given as goal

abbrev pub invariant-loop-place : goal.invariant-loop-place
invariant-loop-place l = IsLeavingOf (program_of l.program) (state_of l.self) l.place l.found
