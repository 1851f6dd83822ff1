-- What is kept of a cut rule, and what is made of its answer.
use Rattle.std.specs.Prelude.{◌≡◌, ℕ, ◌<ℤ◌}
use denote.Ref.{Bor}
use Rattle.box_space.specs.declared.coordinates.Split.{Split}
use Rattle.branching.specs.Rows.{View, AreRows, HasOpen, IsOpenAt, row_at, middle_of}

-- A closure, by what it may be called at and what it may answer there: it may be called at every view that has an open row, and
-- whatever it answers is the place of an open row.
pub record PicksOpen (pre : Bor View → Type 0) (post : Bor View → ℕ → Type 0) : Type 0 where
  pub callable : (v : Bor View) → AreRows v.now.rows → HasOpen v.now.rows → pre v
  pub open_row : (v : Bor View) (i : ℕ) → AreRows v.now.rows → HasOpen v.now.rows → post v i → IsOpenAt v.now.rows i

-- the closure may answer this place at the view
pub record Answers (post : Bor View → ℕ → Type 0) (v : View) (i : ℕ) : Type 0 where
  pub shown : Bor View
  pub shows : shown.now ≡ v
  pub says : post shown i

-- the split of the view's node in the middle of the row at this place, strictly inside
pub record IsSplitAt (v : View) (place : ℕ) (split : Split) : Type 0 where
  pub node : split.leaf ≡ v.node
  pub coord : split.coord ≡ (row_at v.rows place).coord
  pub middle : split.cut ≡ middle_of (row_at v.rows place)
  pub above : (row_at v.rows place).low <ℤ split.cut
  pub below : split.cut <ℤ (row_at v.rows place).high

-- the split at a place that the closure answers, which is the place of an open row
pub record IsPick (post : Bor View → ℕ → Type 0) (v : View) (split : Split) : Type 0 where
  pub place : ℕ
  pub answered : Answers post v place
  pub is_open : IsOpenAt v.rows place
  pub split_at : IsSplitAt v place split
