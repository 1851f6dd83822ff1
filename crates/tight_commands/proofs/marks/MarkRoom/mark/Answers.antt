use Rattle.std.proofs.Common.{FitsSigned, option_map, refl, rules}
use Rattle.std.specs.Int.{w128}
use Rattle.std.proofs.lemmas.Int.{to_z-of_z}
use Rattle.pool_model.specs.Network.{net_of}
use Rattle.row_model.specs.Trees.{box_of}
use Rattle.plan_core.specs.Views.{shown_plan}
use Rattle.tight_commands.proofs.Boxed.{adds}
use Rattle.tight_commands.proofs.marks.MarkRoom.mark.Goals as goal

pub mark_leaf-requires-clause-view : goal.mark_leaf-requires-clause-view
mark_leaf-requires-clause-view c = c.view-v.ensures.proper (net_of c.args.net.now) c.write_box.ensures.proper

pub bound_left-left-requires-clause-view : goal.bound_left-left-requires-clause-view
bound_left-left-requires-clause-view c = c.view-v.ensures.proper (net_of c.args.net.now) c.write_box.ensures.proper

pub bound_left-left-requires-clause-holds : goal.bound_left-left-requires-clause-holds
bound_left-left-requires-clause-holds c = (c.args.text.now.form, c.args.text.now.pivots, c.in_ok-mark.ensures.mark)

pub returns-clause-adds : goal.returns-clause-adds
returns-clause-adds c =
    let fits : FitsSigned w128 c.args.leaf.bound = search rules in
    adds (net_of c.args.net.now) c.view-v.result _ c.view-v.ensures.low c.view-v.ensures.high (box_of (net_of c.args.net.now) c.args.found.now.splits.list c.args.leaf.node)
    c.write_box.ensures c.requires.of.limited (option_map (λ w. shown_plan w.now) c.args.plan) c.args.leaf c.args.text.now _ c.in_ok-mark.mark c.bound_left-left.result refl refl
    c.in_ok-push.ensures.items (simp to_z-of_z at c.in_ok-mark.ensures.mark) (simp to_z-of_z at c.in_ok-mark.ensures.comes) (simp to_z-of_z at c.bound_left-left.ensures.left)
    c.lesser_bound-text.ensures
