-- Which row the known rules pick.
use Rattle.std.specs.Prelude.{ℕ, ◌<◌, List, ◌*ℤ◌, ◌<ℤ◌}
use Rattle.branching.specs.declared.name.RuleName.{RuleName}
use Rattle.branching.specs.declared.name.RuleName.TheVariants.{First, Widest, Violated, Fewest}
use Rattle.branching.specs.declared.view.CoordRow.{CoordRow}
use Rattle.branching.specs.Rows.{row_at, width_of, IsOpenAt}

-- the first open row
pub record IsFirstOpen (rows : List CoordRow) (i : ℕ) : Type 0 where
  pub is_open : IsOpenAt rows i
  pub first : (j : ℕ) → j < i → ¬ IsOpenAt rows j

-- of the open rows the first of the greatest, by an order
pub record IsFirstGreatest (IsLess : CoordRow → CoordRow → Type 0) (rows : List CoordRow) (i : ℕ) : Type 0 where
  pub is_open : IsOpenAt rows i
  pub greatest : (j : ℕ) → IsOpenAt rows j → ¬ IsLess (row_at rows i) (row_at rows j)
  pub first : (j : ℕ) → j < i → IsOpenAt rows j → IsLess (row_at rows j) (row_at rows i)

-- A row is narrower than another: its width over that in the root box is less, multiplied out.
abbrev pub IsNarrower : CoordRow → CoordRow → Type 0
IsNarrower r s = (width_of r *ℤ s.root_width) <ℤ (width_of s *ℤ r.root_width)

-- a row is missed by less than another
abbrev pub IsLessMissed : CoordRow → CoordRow → Type 0
IsLessMissed r s = r.miss < s.miss

-- more splits are on a row's coordinate than on another's
abbrev pub IsMoreCut : CoordRow → CoordRow → Type 0
IsMoreCut r s = s.cuts < r.cuts

-- The row that the rule of a name picks: the first open one, or of the open ones the first of the widest, of the most violated, or of
-- those with the fewest splits on their coordinate.
abbrev pub IsPickedBy : RuleName → List CoordRow → ℕ → Type 0
IsPickedBy First rows i = IsFirstOpen rows i
IsPickedBy Widest rows i = IsFirstGreatest IsNarrower rows i
IsPickedBy Violated rows i = IsFirstGreatest IsLessMissed rows i
IsPickedBy Fewest rows i = IsFirstGreatest IsMoreCut rows i
