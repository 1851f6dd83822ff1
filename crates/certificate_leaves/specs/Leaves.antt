-- The leaves of a tree that may hold a plan, each with its bound, by the numbers of their nodes.
use Rattle.std.specs.Prelude.{◌≡◌, ◌↔◌, ℕ, ◌<◌, List, [], ◌∷◌, length, Option, None, Some, ℤ, pos, ◌*ℤ◌, ◌≤ℤ◌}
use Rattle.std.specs.List.{Contains}
use Rattle.pool_model.specs.Network.{Net}
use Rattle.pool_model.specs.Plan.{Plan, cost_of}
use Rattle.pool_model.specs.Starting.{lesser}
use Rattle.row_model.specs.Boxes.{LiesIn}
use Rattle.row_model.specs.Trees.{Tree, nodes, box_of, leaf_bound}
use Rattle.leaf_order.specs.Order.{leaf_at}
use Rattle.leaf_order.specs.declared.leaf.OpenLeaf.{OpenLeaf}

-- each node below a count that has a bound, with its bound, and no other; the nodes rise
pub record AreListed (bounds : ℕ → Option ℤ) (count : ℕ) (leaves : List OpenLeaf) : Type 0 where
  pub members : (leaf : OpenLeaf) → Contains leaves leaf ↔ ((leaf.node < count) × (bounds leaf.node ≡ Some leaf.bound))
  pub rising : (i j : ℕ) → i < j → j < length leaves → (leaf_at leaves i).node < (leaf_at leaves j).node

-- a node with its bound, where it has one
abbrev pub listed : ℕ → Option ℤ → List OpenLeaf
listed node None = []
listed node (Some bound) = record { bound = bound; node = node } ∷ []

-- each leaf of a tree that may hold a plan, with its bound, and no other, by the numbers of their nodes
abbrev pub AreLeaves : Net → Tree → List OpenLeaf → Type 0
AreLeaves n tree = AreListed (leaf_bound n tree) (nodes tree.splits)

-- the least of the bounds of leaves; None where there is no leaf
abbrev pub least_bound : List OpenLeaf → Option ℤ
least_bound [] = None
least_bound (leaf ∷ leaves) = lesser (Some leaf.bound) (least_bound leaves)

-- the plan lies in the box of one of the leaves, and costs at least this leaf's bound
pub record LiesInOne (n : Net) (tree : Tree) (leaves : List OpenLeaf) (p : Plan) : Type 0 where
  pub leaf : OpenLeaf
  pub listed : Contains leaves leaf
  pub lies : LiesIn n p (box_of n tree.splits leaf.node)
  pub costs : (leaf.bound *ℤ pos p.base) ≤ℤ cost_of n p
