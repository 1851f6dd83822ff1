use Rattle.std.proofs.Common.{rules, sym, subst}
use Rattle.std.specs.Option.{ForSome}
use Rattle.pool_model.specs.Network.{net_of}
use Rattle.row_model.specs.Entries.{improve}
use Rattle.plan_core.specs.Views.{shown_plan}
use Rattle.box_tree.specs.Kept.{Kept, searched_of}
use Rattle.box_tree.specs.Taken.{IsTaken}
use Rattle.box_tree.proofs.Improving.{IsLess, dearer-kept, plan-taken}
use Rattle.box_tree.proofs.Refusals.{not-better}
use Rattle.box_tree.proofs.tree.Tree.improve.Goals as goal

pub returns-then-not-is_cheaper-clause-fault : goal.returns-then-not-is_cheaper-clause-fault
returns-then-not-is_cheaper-clause-fault c =
    let n = net_of c.args.net.now in
    let k = c.args.self.now.kept in
    let cost = c.in_ok-cost.ensures.ok in
    let dearer : ¬ ForSome k.cost (IsLess c.in_ok-cost.cost) = search rules in
    λ _. not-better n (searched_of k) (shown_plan c.args.plan) cost.written cost.obeys (dearer-kept n (shown_plan c.args.plan) c.in_ok-cost.cost k.best k.cost cost c.requires.kept.cost dearer)

pub returns-clause-taken : goal.returns-clause-taken
returns-clause-taken c =
    let n = net_of c.args.net.now in
    let w = shown_plan c.args.plan in
    let k = c.args.self.now.kept in
    let less : ForSome k.cost (IsLess c.in_ok-cost.cost) = search rules in
    subst (λ (z : Kept). IsTaken n (improve w) k z) (sym c.set_best.ensures.kept) (plan-taken n k w c.in_ok-cost.cost c.requires.kept c.in_ok-cost.ensures.ok less)
