-- One node more.
use Rattle.std.proofs.Common.{◌≡◌, ◌+◌, List, length, get_or, Option, None, if◌then◌else◌, ℕ, ℤ, sym, subst, arith}
use Rattle.row_model.specs.Trees.{is_cut}
use Rattle.leaf_order.specs.declared.leaf.OpenLeaf.{OpenLeaf}
use Rattle.certificate_leaves.specs.Leaves.{AreListed}
use Rattle.certificate_leaves.proofs.Listed.{listed-next}
use Rattle.certificate_leaves.proofs.listing.open_leaves.Goals as goal

pub loop-node-preserved : goal.loop-node-preserved
loop-node-preserved c =
    let f : ℕ → Option ℤ = λ node. if is_cut c.args.tree.now.list node then None else get_or c.args.bounds.now node None in
    let node : ℕ = c.loop-node.node in
    subst (λ (xs : List OpenLeaf). AreListed f (node + 1) xs) (sym c.in_ok-list.ensures)
    (listed-next f node c.loop-node.leaves.items c.loop-node.invariant c.leaf_bound.result (sym c.leaf_bound.ensures))

pub returns : goal.returns
returns c =
    let f : ℕ → Option ℤ = λ node. if is_cut c.args.tree.now.list node then None else get_or c.args.bounds.now node None in
    let last : c.loop-node.node ≡ length c.args.bounds.now = omega (arith, c.loop-node-test.false, c.loop-node.auto.node-end) in
    subst (λ (k : ℕ). AreListed f k c.loop-node.leaves.items) last c.loop-node.invariant
