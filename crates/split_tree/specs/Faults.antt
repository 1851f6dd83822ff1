-- When a split has a fault after the splits before it, and which of its faults is the first.
use Rattle.std.specs.Prelude.{ℕ, ◌≤◌, List, [], ◌∷◌, length, ◌<ℤ◌}
use Rattle.faults.specs.First.{IsFirst}
use Rattle.pool_model.specs.Network.{Net}
use Rattle.row_model.specs.Boxes.{Box, coords}
use Rattle.row_model.specs.Trees.{Split, IsLeaf, box_of, most_splits}
use Rattle.split_tree.specs.declared.fault.SplitFault.{SplitFault}
use Rattle.split_tree.specs.declared.fault.SplitFault.TheVariants.{NotALeaf, BadCoord, CutOutside, TooManySplits}

-- the cut lies strictly inside the box
pub record IsInside (b : Box) (s : Split) : Type 0 where
  pub low : b.low s.coord <ℤ s.cut
  pub high : s.cut <ℤ b.high s.coord

-- the split has this fault after these splits
abbrev pub Holds : Net → List Split → Split → SplitFault → Type 0
Holds n splits s NotALeaf = ¬ IsLeaf splits s.leaf
Holds n splits s BadCoord = coords n ≤ s.coord
Holds n splits s CutOutside = ¬ IsInside (box_of n splits s.leaf) s
Holds n splits s TooManySplits = most_splits ≤ length splits

-- the number of a fault, in the order in which they are looked for
abbrev pub number : SplitFault → ℕ
number NotALeaf = 1
number BadCoord = 2
number CutOutside = 3
number TooManySplits = 4

abbrev pub rank : SplitFault → List ℕ
rank f = number f ∷ []

-- a fault that the split has, where it has none before it
abbrev pub IsFirstFault : Net → List Split → Split → SplitFault → Type 0
IsFirstFault n splits s = IsFirst rank (Holds n splits s)
