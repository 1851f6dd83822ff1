use Rattle.std.proofs.Common.{subst}
use Rattle.box_tree.specs.Kept.{Held}
use Rattle.box_tree.specs.Open.{AreIndexed}
use Rattle.box_tree.proofs.Scans.{first-open}
use Rattle.box_tree.proofs.tree.Tree.open_leaves.Goals as goal

pub returns : goal.returns
returns c =
    let k = c.args.self.now.kept in
    let order = c.self.inside.order in
    let are = subst (λ (t : Held). AreIndexed t.kept.splits.list t.kept.bounds order) c.self.view_is c.self.invariant.1 in
    λ n is. first-open n k order is.kept are c.in_ok-nodes.ensures.ordered c.args.most c.in_ok-nodes.field-0.items c.in_ok-nodes.ensures.nodes
