use Rattle.std.proofs.Common.{ℕ, length}
use Rattle.exact_num.specs.Views.{shown_frac}
use Rattle.exact_pivots.proofs.Solving.{IsSolvedTo}
use Rattle.exact_pivots.proofs.factors.Factors.solved.Given as goal

abbrev pub invariant-loop-entry : goal.invariant-loop-entry
invariant-loop-entry l = (from : ℕ) × IsSolvedTo l.self.entries.items (shown_frac l.by) l.entering l.leaving l.rest l.solved.entries.items from

abbrev pub decreases-loop-entry : goal.decreases-loop-entry
decreases-loop-entry l = length l.rest
