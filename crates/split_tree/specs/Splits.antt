-- Splits with the ends that they cut between, and when they are a network's.
use Rattle.std.specs.Prelude.{◌≡◌, ℕ, ◌<◌, ◌≤◌, List, [], ◌∷◌, ◌++◌, length, get_or, Bool, false, None}
use Rattle.pool_model.specs.Network.{Net}
use Rattle.row_model.specs.Trees.{Split, Tree, split_at, nodes, most_splits, is_cut, CutsLeaf, box_of, IsSplitInOrder}
use Rattle.split_tree.specs.declared.span.Span.{Span}
use Rattle.split_tree.specs.Spans.{no_span, CutsBetween}

-- the splits, and for each the ends of its leaf at its coordinate
pub record Splits : Type 0 where
  pub list : List Split
  pub spans : List Span

-- a split may come next: it cuts a leaf of the tree of these splits, at a coordinate, strictly inside the leaf's box
abbrev pub MayCome : Net → List Split → Split → Type 0
MayCome n splits s = CutsLeaf n splits (box_of n splits s.leaf) s

-- one split more at the end, with its ends
abbrev pub with_split : Splits → Split → Span → Splits
with_split t split span = record { list = t.list ++ split ∷ []; spans = t.spans ++ span ∷ [] }

-- the tree of splits, without proofs
abbrev pub tree_of : List Split → Tree
tree_of splits = record { splits = splits; proof = λ node. None }

-- The splits are a network's: there are no more than there may be, each is in order, and the ends are those of its leaf.
pub record IsOf (n : Net) (t : Splits) : Type 0 where
  pub few : length t.list ≤ most_splits
  pub in_order : (i : ℕ) → i < length t.list → IsSplitInOrder n t.list i
  pub spanned : length t.spans ≡ length t.list
  pub spans : (i : ℕ) → i < length t.list → CutsBetween n t.list (split_at t.list i) (get_or t.spans i no_span)

-- there are no more splits than there may be, ends for each, and for each node a mark that says whether a split cuts it
pub record AreKept (splits : List Split) (spans : List Span) (cuts : List Bool) : Type 0 where
  pub few : length splits ≤ most_splits
  pub spanned : length spans ≡ length splits
  pub marked : length cuts ≡ nodes splits
  pub marks : (node : ℕ) → get_or cuts node false ≡ is_cut splits node
