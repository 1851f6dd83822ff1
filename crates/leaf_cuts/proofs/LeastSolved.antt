-- The least leaf, solved as a node.
use Rattle.std.proofs.Common.{◌≡◌, ℕ, ℤ, Some, sym, subst}
use Rattle.pool_model.specs.Network.{Net}
use Rattle.row_model.specs.Trees.{box_of, tree_bound, IsLeastLeaf}
use Rattle.row_model.specs.Entries.{Searched}
use Rattle.box_space.specs.Views.{AreEndsOf}
use Rattle.leaf_cuts.specs.Leaves.{IsSolved, IsSolvedLeaf}
use Rattle.leaf_cuts.specs.declared.leaf.Leaf.{Leaf}

pub least-solved : (n : Net) (s : Searched) (node : ℕ) (least : ℤ) (leaf : Leaf) → IsLeastLeaf n s.tree node → tree_bound n s.tree ≡ Some least
    → IsSolved n s.tree.splits node least leaf → IsSolvedLeaf n s leaf
least-solved n s node least leaf is bounded solved = record {
  least = subst (λ (k : ℕ). IsLeastLeaf n s.tree k) (sym solved.node) is;
  bounded = subst (λ (z : ℤ). tree_bound n s.tree ≡ Some z) (sym solved.bound) bounded;
  ends = subst (λ (k : ℕ). AreEndsOf n (box_of n s.tree.splits k) leaf.ends) (sym solved.node) solved.ends;
  point = solved.point;
}
