-- When what is said of the leaves of a tree holds.
use Rattle.std.specs.Prelude.{◌≡◌, ℕ, List, map, All, Bool, true, false, Option, None, Some, option_map, ℤ, ◌≤ℤ◌, count_by}
use Rattle.std.specs.List.{Contains}
use Rattle.pool_model.specs.Network.{Net}
use Rattle.row_model.specs.Boxes.{Box}
use Rattle.row_model.specs.Multipliers.{Proof, shown_by}
use Rattle.row_model.specs.Trees.{Tree, box_of, leaf_bound, raised}
use Rattle.box_space.specs.Views.{shown_proof}
use Rattle.box_space.specs.declared.coordinates.Form.{Form}
use Rattle.leaf_order.specs.declared.leaf.OpenLeaf.{OpenLeaf}
use Rattle.certificate_leaves.specs.Leaves.{AreLeaves}
use Rattle.leaf_marks.specs.Marks.{IsMark}
use Rattle.leaf_marks.specs.declared.mark.Mark.{Mark}
use Rattle.leaf_marks.specs.declared.mark.Mark.TheVariants.{Tight, Raised, Empty, Loose}
use Rattle.tight_texts.specs.declared.marks.LeafMark.{LeafMark}
use Rattle.tight_texts.specs.declared.marks.TightText.{TightText}
use Rattle.tight_checks.specs.declared.verdict.TightVerdict.{TightVerdict}

-- ---- leaves

-- the nodes that lines name
abbrev pub nodes_of : List LeafMark → List ℕ
nodes_of lines = map (λ line. line.node) lines

-- the nodes of leaves
abbrev pub leaf_nodes : List OpenLeaf → List ℕ
leaf_nodes leaves = map (λ leaf. leaf.node) leaves

-- the lines name the leaves of the tree that may hold a plan, each once, in order
pub record NamesLeaves (n : Net) (tree : Tree) (lines : List LeafMark) : Type 0 where
  pub leaves : List OpenLeaf
  pub are : AreLeaves n tree leaves
  pub named : nodes_of lines ≡ leaf_nodes leaves

-- ---- marks

-- the line is of a leaf that may hold a plan, and its mark says what is so of the form's rows in the leaf's box, for the leaf's bound
pub record LineHolds (n : Net) (tree : Tree) (form : Form) (pivots : ℕ) (line : LeafMark) : Type 0 where
  pub low : ℤ
  pub bound_is : leaf_bound n tree line.node ≡ Some low
  pub mark : IsMark n form (box_of n tree.splits line.node) low pivots line.mark

-- ---- the bound

-- the proof of a mark, where it has one
abbrev pub mark_proof : Mark → Option Proof
mark_proof (Tight q) = None
mark_proof (Raised proof q) = Some (shown_proof proof)
mark_proof (Empty proof) = Some (shown_proof proof)
mark_proof (Loose reason) = None

-- a bound of a box, with what a proof shows there, where there is one: None is that the box holds no plan
abbrev pub bound_shown : Net → Box → Option ℤ → Option Proof → Option ℤ
bound_shown n b low proof = raised low (option_map (shown_by n b) proof)

-- a bound of a box, with what the proof of a mark shows there
abbrev pub bound_with : Net → Box → Option ℤ → Mark → Option ℤ
bound_with n b low mark = bound_shown n b low (mark_proof mark)

-- the bound of a leaf, with what the proof of its mark shows
abbrev pub marked_bound : Net → Tree → LeafMark → Option ℤ
marked_bound n tree line = bound_with n (box_of n tree.splits line.node) (leaf_bound n tree line.node) line.mark

-- a bound is no less, where it is there
abbrev pub IsAtLeast : ℤ → Option ℤ → Type 0
IsAtLeast low bound = (b : ℤ) → bound ≡ Some b → low ≤ℤ b

-- the least of the bounds that are there: None where none is
abbrev pub IsLeast : List (Option ℤ) → Option ℤ → Type 0
IsLeast bounds None = All (λ bound. bound ≡ None) bounds
IsLeast bounds (Some low) = Contains bounds (Some low) × All (IsAtLeast low) bounds

-- the least bound that the marks of lines leave
abbrev pub IsMarkedBound : Net → Tree → List LeafMark → Option ℤ → Type 0
IsMarkedBound n tree lines bound = IsLeast (map (marked_bound n tree) lines) bound

-- ---- the whole

-- What is said of the leaves of a tree holds: its lines name the leaves that may hold a plan, each mark says what is so, and the bound is the
-- least that the marks leave.
pub record Holds (n : Net) (tree : Tree) (text : TightText) : Type 0 where
  pub leaves : NamesLeaves n tree text.marks.items
  pub marks : All (LineHolds n tree text.form text.pivots) text.marks.items
  pub bound : IsMarkedBound n tree text.marks.items text.bound

-- ---- how many marks of each kind

abbrev pub is_tight : Mark → Bool
is_tight (Tight q) = true
is_tight (Raised proof q) = false
is_tight (Empty proof) = false
is_tight (Loose reason) = false

abbrev pub is_raised : Mark → Bool
is_raised (Tight q) = false
is_raised (Raised proof q) = true
is_raised (Empty proof) = false
is_raised (Loose reason) = false

abbrev pub is_empty : Mark → Bool
is_empty (Tight q) = false
is_empty (Raised proof q) = false
is_empty (Empty proof) = true
is_empty (Loose reason) = false

abbrev pub is_loose : Mark → Bool
is_loose (Tight q) = false
is_loose (Raised proof q) = false
is_loose (Empty proof) = false
is_loose (Loose reason) = true

-- how many leaves have each kind of mark, and the bound
pub record IsVerdict (text : TightText) (verdict : TightVerdict) : Type 0 where
  pub tight : verdict.tight ≡ count_by (λ line. is_tight line.mark) text.marks.items
  pub raised : verdict.raised ≡ count_by (λ line. is_raised line.mark) text.marks.items
  pub empty : verdict.empty ≡ count_by (λ line. is_empty line.mark) text.marks.items
  pub loose : verdict.loose ≡ count_by (λ line. is_loose line.mark) text.marks.items
  pub bound : verdict.bound ≡ text.bound
