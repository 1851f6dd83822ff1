use Rattle.std.proofs.Common.{ℕ, ◌<◌}
use Rattle.branching.specs.Rows.{IsOpenAt}
use Rattle.branching.proofs.known.first_open.Given as goal

abbrev pub invariant-loop-place : goal.invariant-loop-place
invariant-loop-place l = (j : ℕ) → j < l.place → ¬ IsOpenAt l.rows j
