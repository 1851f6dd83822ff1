-- Trees of boxes: splits of the root box, proofs on their nodes, and the bound that they show together.
use Rattle.std.specs.Prelude.{◌≡◌, ◌≢◌, ℕ, zero, suc, ◌+◌, ◌*◌, ◌<◌, ◌≤◌, List, length, take, get_or, Bool, false, ◌||◌, ◌==◌, if◌then◌else◌, Option, None, Some, option_map, ℤ, pos, ◌<ℤ◌}
use Rattle.std.specs.Int.{int_max}
use Rattle.std.specs.List.{list_any}
use Rattle.pool_model.specs.Network.{Net}
use Rattle.pool_model.specs.Starting.{least_below, reach_bound}
use Rattle.row_model.specs.Boxes.{Box, coords, root, left_of, right_of}
use Rattle.row_model.specs.Multipliers.{Proof, IsInOrder, Shown, bound, no_plan, shown_by}

-- a node, the coordinate at which its box is cut, and the cut
pub record Split : Type 0 where
  pub leaf : ℕ
  pub coord : ℕ
  pub cut : ℤ

-- Node 0 is the root. Split number t, from 0, cuts its node into the nodes 2t + 1, left, and 2t + 2, right. A node may have
-- a proof.
pub record Tree : Type 0 where
  pub splits : List Split
  pub proof : ℕ → Option Proof

-- what stands behind the end of a list of splits
abbrev pub no_split : Split
no_split = record { leaf = 0; coord = 0; cut = pos 0 }

abbrev pub split_at : List Split → ℕ → Split
split_at splits t = get_or splits t no_split

-- ---- nodes

abbrev pub left_node : ℕ → ℕ
left_node t = 2 * t + 1

abbrev pub right_node : ℕ → ℕ
right_node t = 2 * t + 2

-- how many nodes there are
abbrev pub nodes : List Split → ℕ
nodes splits = 2 * length splits + 1

-- the greatest number of splits
abbrev pub most_splits : ℕ
most_splits = 200000

-- a split cuts the node
abbrev pub is_cut : List Split → ℕ → Bool
is_cut splits node = list_any (λ s. s.leaf == node) splits

-- a node that no split cuts
pub record IsLeaf (splits : List Split) (node : ℕ) : Type 0 where
  pub there : node < nodes splits
  pub uncut : is_cut splits node ≡ false

-- ---- boxes

-- the box of a node, in the tree of the first so many splits
abbrev pub box_after : Net → List Split → ℕ → ℕ → Box
box_after n splits zero node = root n
box_after n splits (suc t) node =
    if node == left_node t then left_of (box_after n splits t (split_at splits t).leaf) (split_at splits t).coord (split_at splits t).cut
    else (if node == right_node t then right_of (box_after n splits t (split_at splits t).leaf) (split_at splits t).coord (split_at splits t).cut
    else box_after n splits t node)

-- the box of a node
abbrev pub box_of : Net → List Split → ℕ → Box
box_of n splits node = box_after n splits (length splits) node

-- ---- splits in order

-- a split cuts a leaf of the tree of these splits, at a coordinate, strictly inside the leaf's box
pub record CutsLeaf (n : Net) (splits : List Split) (b : Box) (s : Split) : Type 0 where
  pub leaf : IsLeaf splits s.leaf
  pub coord : s.coord < coords n
  pub low : b.low s.coord <ℤ s.cut
  pub high : s.cut <ℤ b.high s.coord

-- a split is in order: it cuts a leaf of the tree of the splits before it
abbrev pub IsSplitInOrder : Net → List Split → ℕ → Type 0
IsSplitInOrder n splits t = CutsLeaf n (take t splits) (box_after n splits t (split_at splits t).leaf) (split_at splits t)

-- each split is in order, there are no more than there may be, and each proof is a node's and in order in its box
pub record IsTree (n : Net) (tree : Tree) : Type 0 where
  pub few : length tree.splits ≤ most_splits
  pub splits : (t : ℕ) → t < length tree.splits → IsSplitInOrder n tree.splits t
  pub placed : (node : ℕ) (proof : Proof) → tree.proof node ≡ Some proof → node < nodes tree.splits
  pub proofs : (node : ℕ) (proof : Proof) → tree.proof node ≡ Some proof → IsInOrder n (box_of n tree.splits node) proof

-- ---- bounds

-- what a proof adds to a bound: None is that there is no plan
abbrev pub raised : Option ℤ → Option Shown → Option ℤ
raised None shown = None
raised (Some low) None = Some low
raised (Some low) (Some (bound z)) = Some (int_max low z)
raised (Some low) (Some no_plan) = None

-- what a node's own proof shows in its box
abbrev pub own : Net → Tree → ℕ → Option Shown
own n tree node = option_map (shown_by n (box_of n tree.splits node)) (tree.proof node)

-- the bound of a node of the tree of the first so many splits: the root's is at least the reach bound, a child's at least
-- its parent's; None where the node or one above it holds no plan
abbrev pub bound_after : Net → Tree → ℕ → ℕ → Option ℤ
bound_after n tree zero node = raised (Some (reach_bound n)) (own n tree node)
bound_after n tree (suc t) node =
    if (node == left_node t) || (node == right_node t)
    then raised (bound_after n tree t (split_at tree.splits t).leaf) (own n tree node)
    else bound_after n tree t node

abbrev pub node_bound : Net → Tree → ℕ → Option ℤ
node_bound n tree node = bound_after n tree (length tree.splits) node

-- a leaf's bound, and nothing for a node that is cut
abbrev pub leaf_bound : Net → Tree → ℕ → Option ℤ
leaf_bound n tree node = if is_cut tree.splits node then None else node_bound n tree node

-- the least bound of the leaves that may hold a plan: None where every leaf holds none
abbrev pub tree_bound : Net → Tree → Option ℤ
tree_bound n tree = least_below (leaf_bound n tree) (nodes tree.splits)

-- the leaf of the least bound, of the lowest number at a tie
pub record IsLeastLeaf (n : Net) (tree : Tree) (node : ℕ) : Type 0 where
  pub leaf : IsLeaf tree.splits node
  pub least : leaf_bound n tree node ≡ tree_bound n tree
  pub holds : leaf_bound n tree node ≢ None
  pub first : (other : ℕ) → other < node → leaf_bound n tree other ≢ tree_bound n tree
