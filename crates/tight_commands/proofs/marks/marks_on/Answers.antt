use Rattle.std.proofs.Common.{◌<◌, List, Option, get_or, option_map, take, refl, sym, subst}
use Rattle.std.proofs.lemmas.List.{take_all, take_more}
use Rattle.pool_model.specs.Network.{net_of}
use Rattle.pool_model.specs.Plan.{Written}
use Rattle.row_model.specs.Trees.{Split, box_of, nodes}
use Rattle.cert_format.specs.Valid.{tree_of}
use Rattle.cert_format.specs.Views.{shown_cert}
use Rattle.plan_core.specs.Views.{shown_plan}
use Rattle.leaf_order.specs.Order.{no_leaf}
use Rattle.leaf_order.specs.declared.leaf.OpenLeaf.{OpenLeaf}
use Rattle.certificate_leaves.specs.Leaves.{AreLeaves}
use Rattle.tight_leaf.specs.Ends.{IsPlanGiven}
use Rattle.tight_commands.specs.Marked.{AddsMark, AreMarksUpTo}
use Rattle.tight_commands.proofs.MarkedLeaves.{listed-bound, marked-more, plan-given}
use Rattle.tight_commands.proofs.marks.marks_on.Goals as goal

pub mark-requires-clause-plan : goal.mark-requires-clause-plan
mark-requires-clause-plan c =
    let n = net_of c.args.net.now in
    subst (IsPlanGiven n) (sym c.plan_of-plan.ensures) (plan-given n (shown_cert c.args.cert.now) c.requires.valid)

pub mark-requires-clause-there : goal.mark-requires-clause-there
mark-requires-clause-there c =
    let n = net_of c.args.net.now in
    let tree = tree_of (shown_cert c.args.cert.now) in
    let held = c.leaves-leaf-items.result.now in
    let are : AreLeaves n tree held = subst (AreLeaves n tree) (sym c.leaves-leaf-items.ensures) c.requires.found.leaves in
    subst (λ (xs : List Split). (get_or held c.loop-leaf.leaf-index no_leaf).node < nodes xs) (sym c.requires.found.splits)
    (listed-bound n tree held c.loop-leaf.leaf-index no_leaf are c.loop-leaf-test.true).0

pub loop-leaf-preserved : goal.loop-leaf-preserved
loop-leaf-preserved c =
    let n = net_of c.args.net.now in
    let cert = shown_cert c.args.cert.now in
    let held = c.leaves-leaf-items.result.now in
    let leaf = get_or held c.loop-leaf.leaf-index no_leaf in
    let are : AreLeaves n (tree_of cert) held = subst (AreLeaves n (tree_of cert)) (sym c.leaves-leaf-items.ensures) c.requires.found.leaves in
    let adds = subst (λ (plan : Option Written). AddsMark n (box_of n cert.splits leaf.node) plan leaf c.loop-leaf.text c.mark.new.text) c.plan_of-plan.ensures
    (subst (λ (xs : List Split). AddsMark n (box_of n xs leaf.node) (option_map (λ w. shown_plan w.now) c.plan_of-plan.result) leaf c.loop-leaf.text c.mark.new.text)
    c.requires.found.splits c.in_ok-mark.ensures.adds) in (
      subst (λ (front : List OpenLeaf). AreMarksUpTo n c.args.form c.args.pivots cert front c.mark.new.text) (sym (take_more held c.loop-leaf.leaf-index no_leaf c.loop-leaf-test.true))
          (marked-more n c.args.form c.args.pivots cert (take c.loop-leaf.leaf-index held) leaf c.loop-leaf.text c.mark.new.text
          (listed-bound n (tree_of cert) held c.loop-leaf.leaf-index no_leaf are c.loop-leaf-test.true).1 c.loop-leaf.invariant.0 adds),
      c.mark.ensures.room,
    )

pub returns : goal.returns
returns c =
    let n = net_of c.args.net.now in
    let cert = shown_cert c.args.cert.now in
    let held = c.leaves-leaf-items.result.now in
    subst (λ (xs : List OpenLeaf). AreMarksUpTo n c.args.form c.args.pivots cert xs c.loop-leaf.text) c.leaves-leaf-items.ensures
    (subst (λ (front : List OpenLeaf). AreMarksUpTo n c.args.form c.args.pivots cert front c.loop-leaf.text) (take_all c.loop-leaf.leaf-index held c.loop-leaf-test.false) c.loop-leaf.invariant.0)
