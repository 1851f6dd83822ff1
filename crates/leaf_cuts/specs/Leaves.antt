-- Leaves, solved.
use Rattle.std.specs.Prelude.{◌≡◌, ℕ, List, Some, vec_len, ℤ}
use Rattle.pool_model.specs.Network.{Net}
use Rattle.row_model.specs.Trees.{Split, box_of, tree_bound, IsLeastLeaf}
use Rattle.row_model.specs.Entries.{Searched}
use Rattle.row_model.specs.Variables.{variables}
use Rattle.box_space.specs.Views.{AreEndsOf}
use Rattle.leaf_cuts.specs.declared.leaf.Leaf.{Leaf}

-- the leaf is the least one, with its bound and the ends of its box, and the point of its advice has a number for each variable
pub record IsSolvedLeaf (n : Net) (s : Searched) (leaf : Leaf) : Type 0 where
  pub least : IsLeastLeaf n s.tree leaf.node
  pub bounded : tree_bound n s.tree ≡ Some leaf.bound
  pub ends : AreEndsOf n (box_of n s.tree.splits leaf.node) leaf.ends
  pub point : vec_len leaf.advice.point ≡ variables n

-- the leaf is this node, with this bound and the ends of its box, and the point of its advice has a number for each variable
pub record IsSolved (n : Net) (splits : List Split) (number : ℕ) (least : ℤ) (leaf : Leaf) : Type 0 where
  pub node : leaf.node ≡ number
  pub bound : leaf.bound ≡ least
  pub ends : AreEndsOf n (box_of n splits number) leaf.ends
  pub point : vec_len leaf.advice.point ≡ variables n
