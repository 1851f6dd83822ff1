-- The data that the types of this crate stand for, and what is said of boxes that code holds.
use Rattle.std.specs.Prelude.{◌≡◌, ℕ, ◌<◌, length, map, get_or, pos, ℤ, slice_set}
use Rattle.pool_model.specs.Network.{Net}
use Rattle.row_model.specs.Boxes as boxes
use Rattle.row_model.specs.Boxes.{Box, Agree, coords, IsProper, root}
use Rattle.row_model.specs.Catalogue as catalogue
use Rattle.row_model.specs.Multipliers as multipliers
use Rattle.row_model.specs.Trees as trees
use Rattle.box_space.specs.declared.boxes.BoxEnds.{BoxEnds}
use Rattle.box_space.specs.declared.boxes.BoxView.{BoxView}
use Rattle.box_space.specs.declared.coordinates.Coord.{Coord}
use Rattle.box_space.specs.declared.coordinates.Coord.TheVariants.{Prop, Qual, Flow}
use Rattle.box_space.specs.declared.coordinates.Split.{Split}
use Rattle.linear_program.specs.declared.multipliers.Part.{Part}
use Rattle.linear_program.specs.declared.multipliers.Proof.{Proof}
use Rattle.box_space.specs.declared.rows.RowKind.{RowKind}
use Rattle.box_space.specs.declared.rows.RowKind.TheVariants.{AtLeast, Equal}

abbrev pub shown_coord : Coord → boxes.Coord
shown_coord (Prop e) = boxes.prop e
shown_coord (Qual l k) = boxes.qual l k
shown_coord (Flow o) = boxes.flow o

abbrev pub shown_split : Split → trees.Split
shown_split s = record { leaf = s.leaf; coord = s.coord; cut = s.cut }

abbrev pub shown_kind : RowKind → catalogue.Kind
shown_kind AtLeast = catalogue.at_least
shown_kind Equal = catalogue.equal

abbrev pub shown_part : Part → multipliers.Part
shown_part p = record { row = p.row; mult = p.mult }

abbrev pub shown_proof : Proof → multipliers.Proof
shown_proof p = record { scale = p.scale; parts = map shown_part p.parts.items }

-- ---- boxes

-- the box that a view shows
abbrev pub shown_box : BoxView → Box
shown_box v = record { low = λ c. get_or v.low.now c (pos 0); high = λ c. get_or v.high.now c (pos 0) }

-- A view is proper for a network: it has an end for each coordinate, in order, and within those of the root.
pub record IsView (n : Net) (v : BoxView) : Type 0 where
  pub lows : length v.low.now ≡ coords n
  pub highs : length v.high.now ≡ coords n
  pub proper : IsProper n (shown_box v)

-- the same of a box that is held
abbrev pub shown_box_ends : BoxEnds → Box
shown_box_ends b = record { low = λ c. get_or b.low.items c (pos 0); high = λ c. get_or b.high.items c (pos 0) }

pub record AreEnds (n : Net) (b : BoxEnds) : Type 0 where
  pub lows : length b.low.items ≡ coords n
  pub highs : length b.high.items ≡ coords n
  pub proper : IsProper n (shown_box_ends b)

-- the ends that are held are those of a box
pub record AreEndsOf (n : Net) (box : Box) (b : BoxEnds) : Type 0 where
  pub proper : AreEnds n b
  pub agree : Agree n (shown_box_ends b) box

-- the box of all plans that obey
pub record AreRoot (n : Net) (b : BoxEnds) : Type 0 where
  pub lows : length b.low.items ≡ coords n
  pub highs : length b.high.items ≡ coords n
  pub low : (c : ℕ) → c < coords n → get_or b.low.items c (pos 0) ≡ (root n).low c
  pub high : (c : ℕ) → c < coords n → get_or b.high.items c (pos 0) ≡ (root n).high c

-- The halves of a box that is cut at a coordinate: the left one ends at the cut, and the right one begins there.
pub record AreHalves (b left right : BoxEnds) (coord : ℕ) (cut : ℤ) : Type 0 where
  pub left_low : left.low.items ≡ b.low.items
  pub left_high : left.high.items ≡ slice_set b.high.items coord cut
  pub right_low : right.low.items ≡ slice_set b.low.items coord cut
  pub right_high : right.high.items ≡ b.high.items
