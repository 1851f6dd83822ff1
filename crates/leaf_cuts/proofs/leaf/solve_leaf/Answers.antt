use Rattle.std.proofs.Common.{◌≡◌, ℤ, Some, sym, subst, rules, FitsSigned, to_z, of_z, to_z-of_z}
use mir.Syntax.{w128}
use Rattle.std.proofs.lemmas.Result.{IfOk-weaker}
use Rattle.pool_model.specs.Network.{net_of}
use Rattle.row_model.specs.Trees.{tree_bound}
use Rattle.box_tree.specs.Kept.{searched_of}
use Rattle.leaf_cuts.specs.Leaves.{IsSolved, IsSolvedLeaf}
use Rattle.leaf_cuts.proofs.LeastSolved.{least-solved}
use Rattle.leaf_cuts.proofs.leaf.solve_leaf.Goals as goal

pub returns-clause-leaf : goal.returns-clause-leaf
returns-clause-leaf c =
    let n = net_of c.args.net.now in
    let s = searched_of c.args.tree.now.kept in
    let fits : FitsSigned w128 c.args.bound = search rules in
    let bounded = subst (λ (z : ℤ). tree_bound n s.tree ≡ Some z) (sym (to_z-of_z fits)) c.requires.bound in
    IfOk-weaker c.solve_node.result (λ l. IsSolved n s.tree.splits c.in-Some.node (to_z w128 (of_z w128 c.args.bound)) l.0) (λ l. IsSolvedLeaf n s l.0)
    (λ l is. least-solved n s c.in-Some.node (to_z w128 (of_z w128 c.args.bound)) l.0 (c.in-Some.ensures n c.requires.tree) bounded is)
    c.solve_node.ensures.node
