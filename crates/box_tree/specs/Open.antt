-- The leaves that may hold a plan, by bound and then by number.
use Rattle.std.specs.Prelude.{◌≡◌, ◌≢◌, ◌⊎◌, ◌↔◌, ℕ, ◌<◌, List, length, take, get_or, if◌then◌else◌, Option, Some, None, ℤ, ◌<ℤ◌}
use Rattle.std.specs.List.{Contains}
use Rattle.leaf_order.specs.declared.leaf.OpenLeaf.{OpenLeaf}
use Rattle.pool_model.specs.Network.{Net}
use Rattle.row_model.specs.Trees.{Split, Tree, nodes, is_cut, leaf_bound}

-- ---- in a tree

-- a leaf that may hold a plan: it has a bound
pub record MayHold (n : Net) (tree : Tree) (node : ℕ) : Type 0 where
  pub there : node < nodes tree.splits
  pub bounded : leaf_bound n tree node ≢ None

-- One leaf is cut before another: by its bound, and at a tie by its number.
abbrev pub IsBefore : Net → Tree → ℕ → ℕ → Type 0
IsBefore n tree a b = (x y : ℤ) → leaf_bound n tree a ≡ Some x → leaf_bound n tree b ≡ Some y → (x <ℤ y) ⊎ ((x ≡ y) × (a < b))

-- all leaves that may hold a plan, in the order in which they are cut
pub record AreOpenLeaves (n : Net) (tree : Tree) (leaves : List ℕ) : Type 0 where
  pub members : (node : ℕ) → Contains leaves node ↔ MayHold n tree node
  pub ordered : (i j : ℕ) → i < j → j < length leaves → IsBefore n tree (get_or leaves i 0) (get_or leaves j 0)

-- the first so many of them, or all where there are fewer
pub record AreFirstOpen (n : Net) (tree : Tree) (most : ℕ) (leaves : List ℕ) : Type 0 where
  pub all : List ℕ
  pub are : AreOpenLeaves n tree all
  pub first : leaves ≡ take most all

-- ---- as they are kept

-- a node's bound where no split cuts it, and nothing else
abbrev pub bound_at : List Split → List (Option ℤ) → ℕ → Option ℤ
bound_at splits bounds node = if is_cut splits node then None else get_or bounds node None

-- a node with its bound, where it may hold a plan
abbrev pub open_leaf : ℕ → Option ℤ → Option OpenLeaf
open_leaf node None = None
open_leaf node (Some bound) = Some (record { bound = bound; node = node })

-- the set has one pair for each leaf that may hold a plan, with its bound, and no other
-- Promise: The set that the tree keeps has a pair for each leaf that may hold a plan, with its bound, and no other
pub record AreIndexed (splits : List Split) (bounds : List (Option ℤ)) (leaves : List OpenLeaf) : Type 0 where
  pub members : (leaf : OpenLeaf) → Contains leaves leaf ↔ (bound_at splits bounds leaf.node ≡ Some leaf.bound)
