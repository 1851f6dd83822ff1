use Rattle.std.proofs.Common.{ℕ, ◌<◌}
use Rattle.branching.specs.Rows.{IsOpenAt}
use Rattle.branching.proofs.view.LeafView.has_open.Given as goal

abbrev pub invariant-loop-row : goal.invariant-loop-row
invariant-loop-row l = (j : ℕ) → j < l.row-index → ¬ IsOpenAt l.rows j
