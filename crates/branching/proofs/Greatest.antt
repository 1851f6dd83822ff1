-- The first of the greatest open rows, place by place.
use Rattle.std.proofs.Common.{ℕ, ◌+◌, ◌<◌, List, below_more}
use Rattle.branching.specs.declared.view.CoordRow.{CoordRow}
use Rattle.branching.specs.Rows.{row_at, IsOpenAt}

-- of the open rows below a count this is one of the greatest, and all before it are less
pub record IsGreatestBelow (IsLess : CoordRow → CoordRow → Type 0) (rows : List CoordRow) (count best : ℕ) : Type 0 where
  pub is_open : IsOpenAt rows best
  pub greatest : (j : ℕ) → j < count → IsOpenAt rows j → ¬ IsLess (row_at rows best) (row_at rows j)
  pub first : (j : ℕ) → j < best → IsOpenAt rows j → IsLess (row_at rows j) (row_at rows best)

-- of two open rows only one is less, and what is at most as great as a lesser row is less
pub record IsWeakOrder (IsLess : CoordRow → CoordRow → Type 0) (rows : List CoordRow) : Type 0 where
  pub asymmetric : (i j : ℕ) → IsOpenAt rows i → IsOpenAt rows j → IsLess (row_at rows i) (row_at rows j) → ¬ IsLess (row_at rows j) (row_at rows i)
  pub trans : (i j k : ℕ) → IsOpenAt rows i → IsOpenAt rows j → IsOpenAt rows k
      → ¬ IsLess (row_at rows j) (row_at rows i) → IsLess (row_at rows j) (row_at rows k) → IsLess (row_at rows i) (row_at rows k)

-- one more row, which is open and greater
pub with_greater : (IsLess : CoordRow → CoordRow → Type 0) (rows : List CoordRow) (count best : ℕ) → IsWeakOrder IsLess rows → IsGreatestBelow IsLess rows count best
    → IsOpenAt rows count → IsLess (row_at rows best) (row_at rows count) → IsGreatestBelow IsLess rows (count + 1) count
with_greater L rows count best order so here more = record {
  is_open = here;
  greatest = below_more (λ j. IsOpenAt rows j → ¬ L (row_at rows count) (row_at rows j)) count
      (λ j below there less. so.greatest j below there (order.trans best count j so.is_open here there (order.asymmetric best count so.is_open here more) less))
      (λ there less. order.asymmetric count count here here less less);
  first = λ j below there. order.trans j best count there so.is_open here (so.greatest j below there) more;
}

-- one more row, which is not open or not greater
pub with_other : (IsLess : CoordRow → CoordRow → Type 0) (rows : List CoordRow) (count best : ℕ) → IsGreatestBelow IsLess rows count best
    → (IsOpenAt rows count → ¬ IsLess (row_at rows best) (row_at rows count)) → IsGreatestBelow IsLess rows (count + 1) best
with_other L rows count best so other = record {
  is_open = so.is_open;
  greatest = below_more (λ j. IsOpenAt rows j → ¬ L (row_at rows best) (row_at rows j)) count so.greatest other;
  first = so.first;
}
