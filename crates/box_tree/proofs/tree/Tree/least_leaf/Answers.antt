use Rattle.std.proofs.Common.{sym, subst, ◌∙◌}
use Rattle.box_tree.specs.Kept.{Held}
use Rattle.box_tree.specs.Open.{AreIndexed}
use Rattle.box_tree.proofs.Scans.{kept-bound, least-found, none-least, first-is, first-there, first-least, first-first}
use Rattle.box_tree.proofs.tree.Tree.least_leaf.Goals as goal

pub returns-in-None : goal.returns-in-None
returns-in-None c =
    let k = c.args.self.now.kept in
    let are = subst (λ (t : Held). AreIndexed t.kept.splits.list t.kept.bounds c.self.inside.order) c.self.view_is c.self.invariant.1 in
    λ n is. sym (kept-bound n k is.kept) ∙ none-least k.splits.list k.bounds c.self.inside.order are c.in-None.ensures

pub returns-in-Some : goal.returns-in-Some
returns-in-Some c =
    let k = c.args.self.now.kept in
    let order = c.self.inside.order in
    let leaf = c.in-Some.leaf in
    let first = c.in-Some.ensures in
    let are = subst (λ (t : Held). AreIndexed t.kept.splits.list t.kept.bounds order) c.self.view_is c.self.invariant.1 in
    λ n is. least-found n k leaf.node leaf.bound is.kept (first-there k.splits.list k.bounds order are leaf first) (first-least k.splits.list k.bounds order are leaf first)
    (first-is k.splits.list k.bounds order are leaf first) (first-first k.splits.list k.bounds order are leaf first)
