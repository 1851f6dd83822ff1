use Rattle.std.proofs.Common.{◌≡◌, ◌↔◌, IsTrue, Some, ℤ, FitsSigned, rules, subst}
use Rattle.std.proofs.lemmas.Int.{to_z-of_z}
use mir.Syntax.{w128}
use Rattle.pool_model.specs.Network.{net_of}
use Rattle.row_model.specs.Trees.{box_of}
use Rattle.box_space.specs.Views.{shown_box}
use Rattle.leaf_marks.specs.Marks.{IsMark}
use Rattle.tight_checks.specs.Holding.{bound_with}
use Rattle.tight_checks.proofs.Boxed.{mark-in, mark-out, left-in}
use Rattle.tight_checks.proofs.judging.MarkJudge.judge.Goals as goal

pub bound_left-requires-clause-holds : goal.bound_left-requires-clause-holds
bound_left-requires-clause-holds c = (c.args.text.now.form, c.args.text.now.pivots, c.mark_holds.ensures.holds.0 c.if-mark_holds.true)

pub returns-then-mark_holds-clause-holds : goal.returns-then-mark_holds-clause-holds
returns-then-mark_holds-clause-holds c =
    let n = net_of c.args.net.now in
    let bound = c.args.leaf.bound in
    let fits : FitsSigned w128 c.args.leaf.bound = search rules in
    mark-in n c.view-v.result c.write_box.new.ends c.view-v.ensures.low c.view-v.ensures.high (box_of n c.args.found.now.splits.list c.args.leaf.node) c.write_box.ensures c.requires.of.limited
    c.args.text.now.form bound c.args.text.now.pivots c.args.mark.now
    (subst (λ (z : ℤ). IsMark n c.args.text.now.form (shown_box c.view-v.result) z c.args.text.now.pivots c.args.mark.now) (to_z-of_z w128 bound fits) (c.mark_holds.ensures.holds.0 c.if-mark_holds.true))

pub returns-then-mark_holds-clause-left : goal.returns-then-mark_holds-clause-left
returns-then-mark_holds-clause-left c =
    let n = net_of c.args.net.now in
    let bound = c.args.leaf.bound in
    let fits : FitsSigned w128 c.args.leaf.bound = search rules in
    left-in n c.view-v.result c.write_box.new.ends c.view-v.ensures.low c.view-v.ensures.high (box_of n c.args.found.now.splits.list c.args.leaf.node) c.write_box.ensures c.requires.of.limited
    c.args.text.now.form bound c.args.text.now.pivots c.args.mark.now c.bound_left.result
    (subst (λ (z : ℤ). c.bound_left.result ≡ bound_with n (shown_box c.view-v.result) (Some z) c.args.mark.now) (to_z-of_z w128 bound fits) c.bound_left.ensures.left)

pub returns-else-mark_holds-clause-wrong : goal.returns-else-mark_holds-clause-wrong
returns-else-mark_holds-clause-wrong c =
    let n = net_of c.args.net.now in
    let bound = c.args.leaf.bound in
    let fits : FitsSigned w128 c.args.leaf.bound = search rules in
    mark-out n c.view-v.result c.write_box.new.ends c.view-v.ensures.low c.view-v.ensures.high (box_of n c.args.found.now.splits.list c.args.leaf.node) c.write_box.ensures c.requires.of.limited
    c.args.text.now.form bound c.args.text.now.pivots c.args.mark.now c.mark_holds.result
    (subst (λ (z : ℤ). IsTrue c.mark_holds.result ↔ IsMark n c.args.text.now.form (shown_box c.view-v.result) z c.args.text.now.pivots c.args.mark.now) (to_z-of_z w128 bound fits) c.mark_holds.ensures.holds)
    c.if-mark_holds.false
