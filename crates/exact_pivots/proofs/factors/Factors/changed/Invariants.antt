use Rattle.std.proofs.Common.{ℕ, ◌+◌, length}
use Rattle.exact_num.specs.Views.{shown_frac}
use Rattle.exact_pivots.proofs.Merged.{IsMerged}
use Rattle.exact_pivots.proofs.factors.Factors.changed.Given as goal

abbrev pub invariant-loop-column : goal.invariant-loop-column
invariant-loop-column l = (from : ℕ) × IsMerged l.self.entries.items l.own.entries.items (shown_frac l.scale) l.entering l.left l.right l.changed.entries.items from

abbrev pub decreases-loop-column : goal.decreases-loop-column
decreases-loop-column l = length l.left + length l.right
