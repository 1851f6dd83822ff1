-- A leaf as a cut rule sees it.
use Rattle.std.specs.Prelude.{◌≢◌, ℕ, ◌^◌, ◌<◌, List, length, get_or, ℤ, pos, neg_ℤ, ◌+ℤ◌, ◌-ℤ◌, ◌≤ℤ◌}
use Rattle.std.specs.Int.RustNames.{int_div}
use Rattle.branching.specs.declared.view.CoordRow.{CoordRow}

-- the node, and a row for each coordinate that a rule may pick
pub record View : Type 0 where
  pub node : ℕ
  pub rows : List CoordRow

-- what stands behind the last row
abbrev pub no_row : CoordRow
no_row = record { coord = 0; cuts = 0; low = pos 0; high = pos 0; root_width = pos 0; miss = 0 }

abbrev pub row_at : List CoordRow → ℕ → CoordRow
row_at rows i = get_or rows i no_row

abbrev pub width_of : CoordRow → ℤ
width_of r = r.high -ℤ r.low

-- The ends are in order, at most 2^61 from 0, and no further apart than in the root box. The last three are so of every row that
-- a program can hold.
pub record IsRow (r : CoordRow) : Type 0 where
  pub in_order : r.low ≤ℤ r.high
  pub low : neg_ℤ (pos (2 ^ 61)) ≤ℤ r.low
  pub high : r.high ≤ℤ pos (2 ^ 61)
  pub within : width_of r ≤ℤ r.root_width
  pub numbered : r.coord < 2 ^ 32
  pub counted : r.cuts < 2 ^ 32
  pub missed : r.miss < 2 ^ 64

-- each is a row, and no two are of one coordinate
pub record AreRows (rows : List CoordRow) : Type 0 where
  pub each : (i : ℕ) → i < length rows → IsRow (row_at rows i)
  pub distinct : (i j : ℕ) → i < j → j < length rows → (row_at rows i).coord ≢ (row_at rows j).coord

-- the ends are at least 2 apart, so that there is room for a cut
abbrev pub IsOpen : CoordRow → Type 0
IsOpen r = (r.low +ℤ pos 2) ≤ℤ r.high

-- the place of an open row
pub record IsOpenAt (rows : List CoordRow) (i : ℕ) : Type 0 where
  pub there : i < length rows
  pub is_open : IsOpen (row_at rows i)

-- some row is open
abbrev pub HasOpen : List CoordRow → Type 0
HasOpen rows = (i : ℕ) × IsOpenAt rows i

-- the middle of a row: half its width, which is at least 0, rounded down
abbrev pub middle_of : CoordRow → ℤ
middle_of r = r.low +ℤ int_div (width_of r) (pos 2)
