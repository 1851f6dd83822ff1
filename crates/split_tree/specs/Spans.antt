-- The ends of a box at one coordinate, and a half of a box that is cut.
use Rattle.std.specs.Prelude.{◌≡◌, ℕ, List, ℤ, pos}
use Rattle.pool_model.specs.Network.{Net}
use Rattle.row_model.specs.Boxes.{Box, left_of, right_of}
use Rattle.row_model.specs.Trees.{Split, box_of}
use Rattle.split_tree.specs.declared.span.Span.{Span}
use Rattle.split_tree.specs.declared.span.Side.{Side}
use Rattle.split_tree.specs.declared.span.Side.TheVariants.{Left, Right}

-- what stands behind the end of a list of them
abbrev pub no_span : Span
no_span = record { low = pos 0; high = pos 0 }

-- the ends of a box at a coordinate
pub record IsSpanOf (b : Box) (coord : ℕ) (s : Span) : Type 0 where
  pub low : s.low ≡ b.low coord
  pub high : s.high ≡ b.high coord

-- the ends that a split cuts between, in the tree of these splits
abbrev pub CutsBetween : Net → List Split → Split → Span → Type 0
CutsBetween n splits s = IsSpanOf (box_of n splits s.leaf) s.coord

-- a half of a box that is cut at a coordinate
abbrev pub half_of : Side → Box → ℕ → ℤ → Box
half_of Left b coord cut = left_of b coord cut
half_of Right b coord cut = right_of b coord cut

-- the half of the box that a split cuts, in the tree of these splits
abbrev pub half_at : Net → List Split → Split → Side → Box
half_at n splits s side = half_of side (box_of n splits s.leaf) s.coord s.cut
