-- The pieces of a box: the outer quarters of its coordinates.
use Rattle.std.specs.Prelude.{ℕ, ◌<◌, IsTrue, ℤ, pos, ◌+ℤ◌, ◌-ℤ◌, ◌≤ℤ◌}
use Rattle.std.specs.Int.RustNames.{int_div}
use Rattle.pool_model.specs.Network.{Net}
use Rattle.row_model.specs.Boxes.{Box, coords, coord_at, left_of, right_of}
use Rattle.box_space.specs.Forms.{cuts}
use Rattle.box_space.specs.declared.coordinates.Form.{Form}
use Rattle.box_squeeze.specs.declared.piece.Side.{Side}
use Rattle.box_squeeze.specs.declared.piece.Side.TheVariants.{Left, Right}

-- a quarter of a box's width at a coordinate, rounded down
abbrev pub quarter : Box → ℕ → ℤ
quarter b c = int_div (b.high c -ℤ b.low c) (pos 4)

-- where the piece of a side is cut off: a quarter above the low end, or below the high end
abbrev pub cut_at : Box → Side → ℕ → ℤ
cut_at b Left c = b.low c +ℤ quarter b c
cut_at b Right c = b.high c -ℤ quarter b c

-- the part of a box on one side of a cut
abbrev pub part_of : Box → Side → ℕ → ℤ → Box
part_of b Left c cut = left_of b c cut
part_of b Right c cut = right_of b c cut

abbrev pub other : Side → Side
other Left = Right
other Right = Left

-- the piece of a side
abbrev pub piece_of : Box → Side → ℕ → Box
piece_of b side c = part_of b side c (cut_at b side c)

-- what is kept when the piece of a side is cut off
abbrev pub kept_of : Box → Side → ℕ → Box
kept_of b side c = part_of b (other side) c (cut_at b side c)

-- a box has a piece on each side of a coordinate of the form whose ends are at least 4 apart
pub record HasPieces (n : Net) (form : Form) (b : Box) (c : ℕ) : Type 0 where
  pub known : c < coords n
  pub of_form : IsTrue (cuts form (coord_at n c))
  pub wide : (b.low c +ℤ pos 4) ≤ℤ b.high c
