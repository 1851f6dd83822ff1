-- Splits whose halves are asked for a greater bound: what becomes of their proofs, and what is known of the halves then.
use Rattle.std.specs.Prelude.{◌≡◌, ◌⊎◌, ℕ, zero, suc, ◌<◌, Option, None, Some, option_map, ℤ}
use Rattle.pool_model.specs.Network.{Net}
use Rattle.row_model.specs.Boxes.{Agree, Box, left_of, right_of}
use Rattle.row_model.specs.Multipliers.{Proof, shown_by}
use Rattle.row_model.specs.Trees.{Split, Tree, box_of, node_bound, raised}
use Rattle.row_model.specs.Entries.{Entry, root_proof, split_of, improve}
use Rattle.box_space.specs.Views.{shown_proof}
use Rattle.box_space.specs.declared.coordinates.Form.{Form}
use Rattle.relaxation_points.specs.Points.{Point, IsWitness}
use Rattle.leaf_marks.specs.Marks.{IsMark}
use Rattle.leaf_marks.specs.declared.mark.Mark.{Mark}
use Rattle.leaf_marks.specs.declared.mark.Mark.TheVariants.{Tight, Raised, Empty, Loose}
use Rattle.leaf_marks.specs.declared.mark.Reason.{Reason}
use Rattle.tight_leaf.specs.Ends.{ComesOf}

-- ---- what becomes of a half's proof

-- The mark that a box gets for a bound, without a plan; it is asked of a box with the same ends at each coordinate.
pub record IsMarkOf (n : Net) (form : Form) (b : Box) (low : ℤ) (pivots : ℕ) (mark : Mark) : Type 0 where
  pub seen : Box
  pub agree : Agree n seen b
  pub says : IsMark n form seen low pivots mark
  pub comes : ComesOf n form seen low None pivots mark

-- what a mark leaves of a half's proof: that of a mark that raises the bound, or shows that there is no plan, comes in its place
abbrev pub proof_by : Mark → Option Proof → Option Proof
proof_by (Tight q) proof = proof
proof_by (Raised better q) proof = Some (shown_proof better)
proof_by (Empty none) proof = Some (shown_proof none)
proof_by (Loose reason) proof = proof

-- a half of this bound has what the mark for that bound leaves of its proof; one that holds no plan keeps its own
abbrev pub IsMarked : Net → Form → Box → ℕ → Option ℤ → (old new : Option Proof) → Type 0
IsMarked n form b pivots None old new = new ≡ old
IsMarked n form b pivots (Some low) old new = (mark : Mark) × IsMarkOf n form b low pivots mark × (new ≡ proof_by mark old)

-- the bound of a half: that of its leaf, or what its proof shows, where that is greater
abbrev pub half_bound : Net → Box → (above : Option ℤ) → Option Proof → Option ℤ
half_bound n b above proof = raised above (option_map (shown_by n b) proof)

-- a half, below a leaf of this bound, with the proof that it had and the one that it gets
abbrev pub IsRaisedHalf : Net → Form → Box → ℕ → (above : Option ℤ) → (old new : Option Proof) → Type 0
IsRaisedHalf n form b pivots above old new = IsMarked n form b pivots (half_bound n b above old) old new

-- ---- what is known of a half

-- A light point meets the box, by its ends at each coordinate, and the form's rows there, at a cost of less than one pico above the bound.
pub record HasWitness (n : Net) (form : Form) (b : Box) (low : ℤ) : Type 0 where
  pub seen : Box
  pub agree : Agree n seen b
  pub point : Point
  pub best : IsWitness n form seen low point

-- the run of the box, with so many pivots, gives a reason for which nothing is said of the bound
abbrev pub HasReason : Net → Form → Box → ℤ → ℕ → Type 0
HasReason n form b low pivots = (reason : Reason) × IsMarkOf n form b low pivots (Loose reason)

-- The bound of a box is the best that the form's rows allow there, as a point shows; or the run of the box gives a reason. Nothing is to be
-- said where the box holds no plan.
abbrev pub IsBest : Net → Form → Box → ℕ → Option ℤ → Type 0
IsBest n form b pivots None = Unit {0}
IsBest n form b pivots (Some low) = HasWitness n form b low ⊎ HasReason n form b low pivots

-- the same of a node of a tree
abbrev pub IsBestAt : Net → Form → ℕ → Tree → ℕ → Type 0
IsBestAt n form pivots tree node = IsBest n form (box_of n tree.splits node) pivots (node_bound n tree node)

-- ---- entries

-- both halves of a split with the proofs that they had and those that they get
pub record AreRaised (n : Net) (form : Form) (pivots : ℕ) (tree : Tree) (split : Split) (left right new_left new_right : Option Proof) : Type 0 where
  pub left_half : IsRaisedHalf n form (left_of (box_of n tree.splits split.leaf) split.coord split.cut) pivots (node_bound n tree split.leaf) left new_left
  pub right_half : IsRaisedHalf n form (right_of (box_of n tree.splits split.leaf) split.coord split.cut) pivots (node_bound n tree split.leaf) right new_right

-- what an entry becomes: a split is one of the same leaf at the same cut, and its halves get their proofs; another entry stays as it is
abbrev pub IsRaisedTo : Net → Form → ℕ → Tree → (old new : Entry) → Type 0
IsRaisedTo n form pivots tree (root_proof proof) new = new ≡ root_proof proof
IsRaisedTo n form pivots tree (improve plan) new = new ≡ improve plan
IsRaisedTo n form pivots tree (split_of split left right) new =
    (new_left : Option Proof) × (new_right : Option Proof) × (new ≡ split_of split new_left new_right) × AreRaised n form pivots tree split left right new_left new_right

-- without pivots nothing is asked, and each entry stays as it is
abbrev pub IsRaisedBy : Net → Form → ℕ → Tree → (old new : Entry) → Type 0
IsRaisedBy n form zero tree old new = new ≡ old
IsRaisedBy n form (suc pivots) tree old new = IsRaisedTo n form (suc pivots) tree old new

-- of both halves of a split so much is known
pub record AreBest (n : Net) (form : Form) (pivots : ℕ) (tree : Tree) (split : Split) (left right : Option Proof) : Type 0 where
  pub left_half : IsBest n form (left_of (box_of n tree.splits split.leaf) split.coord split.cut) pivots
      (half_bound n (left_of (box_of n tree.splits split.leaf) split.coord split.cut) (node_bound n tree split.leaf) left)
  pub right_half : IsBest n form (right_of (box_of n tree.splits split.leaf) split.coord split.cut) pivots
      (half_bound n (right_of (box_of n tree.splits split.leaf) split.coord split.cut) (node_bound n tree split.leaf) right)

-- so of an entry, where pivots are asked for
abbrev pub IsBestEntry : Net → Form → ℕ → Tree → Entry → Type 0
IsBestEntry n form pivots tree (root_proof proof) = Unit {0}
IsBestEntry n form pivots tree (improve plan) = Unit {0}
IsBestEntry n form pivots tree (split_of split left right) = 0 < pivots → AreBest n form pivots tree split left right
