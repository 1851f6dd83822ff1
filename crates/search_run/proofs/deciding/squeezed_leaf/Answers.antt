use Rattle.std.proofs.Common.{◌≡◌, ◌^◌, ℤ, pos, neg_ℤ, ◌-ℤ◌, ◌<ℤ◌, length, arith, rules, IsTrue, FitsSigned, to_z, of_z, to_z-of_z, sym, ap, subst, ◌∙◌}
use mir.Syntax.{w128}
use Rattle.pool_model.specs.Network.{net_of}
use Rattle.row_model.specs.Trees.{IsLeaf, box_of}
use Rattle.row_model.specs.Entries.{IsEntryInOrder}
use Rattle.box_tree.specs.Kept.{Held, IsOf, searched_of}
use Rattle.box_tree.specs.Views.{shown_entry}
use Rattle.search_core.specs.Searches.{searched}
use Rattle.text_pieces.specs.Rounding.{rounded_up}
use Rattle.box_squeeze.specs.Squeezes.{HasNoEmpty, IsSqueezeOf}
use Rattle.search_run.proofs.Owing.{best-told, none-told, gap-fits, base-above, num-fits, target-is, target-high, owes-unplanned, owes-none}
use Rattle.search_run.proofs.Squeezing.{squeeze-entry}
use Rattle.search_run.proofs.deciding.squeezed_leaf.Goals as goal

pub returns-in_default-clause-none : goal.returns-in_default-clause-none
returns-in_default-clause-none c =
    let n = net_of c.args.net.now in
    let s = c.args.search.now in
    owes-unplanned n c.args.orders (searched s) c.args.leaf c.requires.start (none-told n s c.requires.search _ _ c.tree-tree.ensures c.best_cost.ensures c.in_default.is)

pub target_of-target-requires-clause-base : goal.target_of-target-requires-clause-base
target_of-target-requires-clause-base c =
    let n = net_of c.args.net.now in
    let best = best-told n c.args.search.now c.requires.search _ _ c.in-Some.cost c.tree-tree.ensures c.best_cost.ensures c.in-Some.is in
    base-above n c.requires.search.limited best.plan c.in-Some.cost best.costs

pub target_of-target-requires-clause-size : goal.target_of-target-requires-clause-size
target_of-target-requires-clause-size c =
    let n = net_of c.args.net.now in
    let best = best-told n c.args.search.now c.requires.search _ _ c.in-Some.cost c.tree-tree.ensures c.best_cost.ensures c.in-Some.is in
    num-fits n c.requires.search.limited best.plan c.in-Some.cost best.costs

pub squeeze_looked-requires-clause-tree : goal.squeeze_looked-requires-clause-tree
squeeze_looked-requires-clause-tree c = subst (λ (h : Held). IsOf (net_of c.args.net.now) h) (sym c.tree-tree.ensures) c.requires.search.tree

pub squeeze_looked-requires-clause-few : goal.squeeze_looked-requires-clause-few
squeeze_looked-requires-clause-few c = omega (arith, c.requires.few, c.requires.asked.few, ap (λ (h : Held). length h.kept.splits.list) c.tree-tree.ensures)

pub squeeze_looked-requires-clause-leaf : goal.squeeze_looked-requires-clause-leaf
squeeze_looked-requires-clause-leaf c = subst (λ (h : Held). IsLeaf h.kept.splits.list c.args.leaf) (sym c.tree-tree.ensures) c.requires.leaf.leaf

pub squeeze_looked-requires-clause-target : goal.squeeze_looked-requires-clause-target
squeeze_looked-requires-clause-target c =
    let n = net_of c.args.net.now in
    let best = best-told n c.args.search.now c.requires.search _ _ c.in-Some.cost c.tree-tree.ensures c.best_cost.ensures c.in-Some.is in
    let fits : FitsSigned w128 c.args.orders.gap = gap-fits c.args.orders.gap c.requires.asked.least c.requires.asked.most in
    let is = subst (λ (z : ℤ). c.target_of-target.result ≡ rounded_up c.in-Some.cost.num c.in-Some.cost.base -ℤ z) (to_z-of_z fits) c.target_of-target.ensures in
    let target_fits : FitsSigned w128 c.target_of-target.result = search rules in
    subst (λ (z : ℤ). neg_ℤ (pos (2 ^ 120)) <ℤ z) (sym (to_z-of_z target_fits))
    (target-high n c.requires.search.limited best.plan c.in-Some.cost best.costs c.args.orders.gap c.target_of-target.result c.requires.asked.most is)

pub returns-in-Some-squeezed-clause-some : goal.returns-in-Some-squeezed-clause-some
returns-in-Some-squeezed-clause-some c =
    let n = net_of c.args.net.now in
    let s = c.args.search.now in
    let o = c.args.orders in
    let found = c.in-Some-squeezed.found in
    let target = c.target_of-target.result in
    let target_fits : FitsSigned w128 target = search rules in
    let asked : IsTrue o.squeeze = search rules in
    let best = best-told n s c.requires.search _ _ c.in-Some.cost c.tree-tree.ensures c.best_cost.ensures c.in-Some.is in
    let fits : FitsSigned w128 o.gap = gap-fits o.gap c.requires.asked.least c.requires.asked.most in
    let is = subst (λ (z : ℤ). target ≡ rounded_up c.in-Some.cost.num c.in-Some.cost.base -ℤ z) (to_z-of_z fits) c.target_of-target.ensures in
    squeeze-entry n o (searched s) c.args.leaf found.kept target best.plan asked c.requires.few c.requires.leaf best.is
    (is ∙ target-is n c.requires.search.limited best.plan c.in-Some.cost best.costs o.gap) found.entry
    (subst (λ (z : ℤ). IsSqueezeOf n o.form (searched s) c.args.leaf z (shown_entry found.entry) found.kept) (to_z-of_z target_fits)
    (subst (λ (h : Held). IsSqueezeOf n o.form (searched_of h.kept) c.args.leaf (to_z w128 (of_z w128 target)) (shown_entry found.entry) found.kept) c.tree-tree.ensures
    (rw c.in-Some-squeezed.is at c.in_ok-squeezed.ensures.some)))
    (subst (λ (h : Held). IsEntryInOrder n (searched_of h.kept) (shown_entry found.entry)) c.tree-tree.ensures (rw c.in-Some-squeezed.is at c.in_ok-squeezed.ensures.in_order))

pub returns-in-None-clause-none : goal.returns-in-None-clause-none
returns-in-None-clause-none c =
    let n = net_of c.args.net.now in
    let s = c.args.search.now in
    let o = c.args.orders in
    let target = c.target_of-target.result in
    let target_fits : FitsSigned w128 target = search rules in
    let best = best-told n s c.requires.search _ _ c.in-Some.cost c.tree-tree.ensures c.best_cost.ensures c.in-Some.is in
    let fits : FitsSigned w128 o.gap = gap-fits o.gap c.requires.asked.least c.requires.asked.most in
    let is = subst (λ (z : ℤ). target ≡ rounded_up c.in-Some.cost.num c.in-Some.cost.base -ℤ z) (to_z-of_z fits) c.target_of-target.ensures in
    owes-none n o (searched s) c.args.leaf c.in-Some.cost target best c.requires.start (is ∙ target-is n c.requires.search.limited best.plan c.in-Some.cost best.costs o.gap)
    (subst (λ (z : ℤ). HasNoEmpty n o.form (box_of n s.tree.kept.splits.list c.args.leaf) z) (to_z-of_z target_fits)
    (subst (λ (h : Held). HasNoEmpty n o.form (box_of n h.kept.splits.list c.args.leaf) (to_z w128 (of_z w128 target))) c.tree-tree.ensures
    (rw c.in-None.is at c.in_ok-squeezed.ensures.none)))
