-- The leaves of a tree by their boxes and bounds, whatever their numbers.
use Rattle.std.specs.Prelude.{◌≡◌, ℕ, ◌↔◌, List, Option, ℤ}
use Rattle.std.specs.List.{Contains}
use Rattle.pool_model.specs.Network.{Net}
use Rattle.row_model.specs.Boxes.{Box}
use Rattle.row_model.specs.Trees.{Tree, IsLeaf, box_of, node_bound}
use Rattle.row_model.specs.Entries.{Entry, Searched, AreInOrderFrom}
use Rattle.work_units.specs.Units.{Splits}

-- the tree has a leaf with this box and this bound, None where it holds no plan
pub record HasLeaf (n : Net) (tree : Tree) (b : Box) (bound : Option ℤ) : Type 0 where
  pub node : ℕ
  pub leaf : IsLeaf tree.splits node
  pub box : box_of n tree.splits node ≡ b
  pub bounded : node_bound n tree node ≡ bound

-- two trees have the same leaves
abbrev pub HaveSameLeaves : Net → Tree → Tree → Type 0
HaveSameLeaves n t u = (b : Box) (bound : Option ℤ) → HasLeaf n t b bound ↔ HasLeaf n u b bound

-- Each entry is a split of a leaf of the tree that they start from, and is in order after those before it: so no two split the same leaf.
pub record AreLeafSplits (n : Net) (s : Searched) (es : List Entry) : Type 0 where
  pub splits : (e : Entry) → Contains es e → (node : ℕ) × IsLeaf s.tree.splits node × Splits node e
  pub in_order : AreInOrderFrom n s es

-- two lists have the same entries, in any order
abbrev pub HaveSameEntries : List Entry → List Entry → Type 0
HaveSameEntries es fs = (e : Entry) → Contains es e ↔ Contains fs e
