-- Rows, one after another.
use Rattle.std.proofs.Common.{ℕ, ◌<◌, List, [], ◌∷◌, ◌++◌, length, arith}
use Rattle.std.proofs.lemmas.Grind.{common_steps}
use Rattle.branching.specs.declared.view.CoordRow.{CoordRow}
use Rattle.branching.specs.Rows.{row_at, IsRow, AreRows}

-- one more row, of a coordinate that none before it is of
pub AreRows-push : (rows : List CoordRow) (r : CoordRow) → AreRows rows → IsRow r → ((i : ℕ) → i < length rows → (row_at rows i).coord < r.coord) → AreRows (rows ++ r ∷ [])
AreRows-push rows r are is below = record {
  each = λ i h. grind (arith, common_steps, are.each i);
  distinct = λ i j h k. grind (arith, common_steps, are.distinct i j, below i);
}
