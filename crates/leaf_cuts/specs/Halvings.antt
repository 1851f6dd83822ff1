-- A leaf that is solved, and cuts of it with the proofs of their halves.
use Rattle.std.specs.Prelude.{ℕ, ◌≤◌, ◌^◌, option_map, ℤ, pos, ◌+ℤ◌, ◌-ℤ◌, unsigned_abs}
use Rattle.std.specs.Int.RustNames.{int_div}
use Rattle.pool_model.specs.Network.{Net}
use Rattle.row_model.specs.Boxes.{Box, left_of, right_of}
use Rattle.row_model.specs.Multipliers.{bound}
use Rattle.box_space.specs.Views.{shown_proof}
use Rattle.box_space.specs.declared.coordinates.Form.{Form}
use Rattle.leaf_cuts.specs.declared.halving.Halving.{Halving}
use Rattle.leaf_cuts.specs.Given.{IsGiven}

-- the middle of a box's ends at a coordinate, rounded down
abbrev pub middle_at : Box → ℕ → ℤ
middle_at b c = b.low c +ℤ int_div (b.high c -ℤ b.low c) (pos 2)

-- the proofs are what rounding gives for the halves of the box, cut in the middle of the coordinate, above a bound
pub record IsHalvingOf (n : Net) (form : Form) (b : Box) (least : ℤ) (h : Halving) : Type 0 where
  pub left : IsGiven n form (left_of b h.coord (middle_at b h.coord)) (bound least) (option_map shown_proof h.left)
  pub right : IsGiven n form (right_of b h.coord (middle_at b h.coord)) (bound least) (option_map shown_proof h.right)

-- two numbers are at most 10^12 in size
pub record AreNear (low high : ℤ) : Type 0 where
  pub least : unsigned_abs low ≤ 10 ^ 12
  pub greatest : unsigned_abs high ≤ 10 ^ 12
