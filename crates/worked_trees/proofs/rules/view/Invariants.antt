use Rattle.std.proofs.Common.{◌≡◌, ℕ, ◌<◌, length}
use Rattle.branching.specs.Rows.{row_at, AreRows}
use Rattle.worked_trees.proofs.rules.view.Given as goal

abbrev pub invariant-loop-width : goal.invariant-loop-width
invariant-loop-width l = record {
  counted : l.coord ≡ length l.rows.items;
  counts : length l.rows.items ≡ l.width-index;
  are : AreRows l.rows.items;
  below : (i : ℕ) → i < length l.rows.items → (row_at l.rows.items i).coord < l.coord;
}
