use Rattle.std.proofs.Common.{rules, subst, FitsSigned, to_z-of_z, ℤ}
use mir.Syntax.{w128}
use Rattle.pool_model.specs.Network.{net_of}
use Rattle.row_model.specs.Trees.{box_of}
use Rattle.box_tree.specs.Kept.{searched_of}
use Rattle.box_tree.specs.Views.{shown_entry}
use Rattle.box_squeeze.specs.Squeezes.{HasNoEmpty, IsSqueezeOf}
use Rattle.box_squeeze.proofs.squeezing.squeeze_free.Goals as goal

pub cut_closed-requires-clause-closed : goal.cut_closed-requires-clause-closed
cut_closed-requires-clause-closed c =
    let n = net_of c.args.net.now in
    rw c.in-Some.is at (c.in_ok-closed.ensures.some (box_of n c.args.tree.now.kept.splits.list c.args.leaf) c.in_ok-ends.ensures)

pub returns-in_default-clause-none : goal.returns-in_default-clause-none
returns-in_default-clause-none c =
    let n = net_of c.args.net.now in
    let b = box_of n c.args.tree.now.kept.splits.list c.args.leaf in
    let fits : FitsSigned w128 c.args.target = search rules in
    subst (λ (z : ℤ). HasNoEmpty n c.args.form b z) (to_z-of_z fits) (rw c.in_default.is at (c.in_ok-closed.ensures.none b c.in_ok-ends.ensures))

pub returns-clause-some : goal.returns-clause-some
returns-clause-some c =
    let n = net_of c.args.net.now in
    let s = searched_of c.args.tree.now.kept in
    let fits : FitsSigned w128 c.args.target = search rules in
    subst (λ (z : ℤ). IsSqueezeOf n c.args.form s c.args.leaf z (shown_entry c.in_ok-found.found.squeezed.entry) c.in_ok-found.found.squeezed.kept) (to_z-of_z fits) c.in_ok-found.ensures.squeeze
