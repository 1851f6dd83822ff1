use Rattle.std.proofs.Common.{ℕ, length}
use Rattle.exact_pivots.specs.Views.{program_of, state_of}
use Rattle.exact_pivots.specs.Weighing.{IsWeighed}
use Rattle.exact_pivots.proofs.Choosing.{IsLookedTo}
use Rattle.exact_pivots.proofs.tableau.Tableau.entering.Given as goal

abbrev pub invariant-loop-entry : goal.invariant-loop-entry
invariant-loop-entry l = (from : ℕ) × IsLookedTo (state_of l.self) l.leaving.place l.rest from × IsWeighed (program_of l.program) (state_of l.self) l.leaving from l.best

abbrev pub decreases-loop-entry : goal.decreases-loop-entry
decreases-loop-entry l = length l.rest
