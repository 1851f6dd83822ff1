use Rattle.std.proofs.Common.{rules, subst, FitsSigned, to_z, of_z, to_z-of_z}
use mir.Syntax.{w128}
use Rattle.pool_model.specs.Network.{net_of}
use Rattle.row_model.specs.Boxes.{Box}
use Rattle.row_model.specs.Multipliers.{IsInOrder}
use Rattle.row_book.specs.Views.{shown_value}
use Rattle.box_space.specs.Views.{shown_box, shown_box_ends, shown_proof}
use Rattle.leaf_cuts.proofs.Giving.{view-same}
use Rattle.box_squeeze.proofs.Closings.{no-fault, seen-reaches, seen-back}
use Rattle.box_squeeze.proofs.closing.reaches.Goals as goal

pub returns-in-Ok-clause-yes : goal.returns-in-Ok-clause-yes
returns-in-Ok-clause-yes c =
    let e = c.args.ends.now in
    let same = view-same c.view-view.result e c.view-view.ensures.low c.view-view.ensures.high in
    let fits : FitsSigned w128 c.args.target = search rules in
    λ t. seen-reaches (net_of c.args.net.now) (shown_box_ends e) (shown_box c.view-view.result) same (shown_proof c.args.proof.now) c.args.target (to_z w128 (of_z w128 c.args.target)) (to_z-of_z fits)
    (shown_value c.in-Ok.shown) c.in-Ok.ensures.ok.1 (c.is_at_least.ensures.0 t)

pub returns-in-Ok-clause-no : goal.returns-in-Ok-clause-no
returns-in-Ok-clause-no c =
    let e = c.args.ends.now in
    let same = view-same c.view-view.result e c.view-view.ensures.low c.view-view.ensures.high in
    let fits : FitsSigned w128 c.args.target = search rules in
    λ not order reached. not (c.is_at_least.ensures.1 (seen-back (net_of c.args.net.now) (shown_box_ends e) (shown_box c.view-view.result) same (shown_proof c.args.proof.now)
    c.args.target (to_z w128 (of_z w128 c.args.target)) (to_z-of_z fits) (shown_value c.in-Ok.shown) c.in-Ok.ensures.ok.1 reached))

pub returns-in-Err-clause-no : goal.returns-in-Err-clause-no
returns-in-Err-clause-no c =
    let n = net_of c.args.net.now in
    let e = c.args.ends.now in
    let p = shown_proof c.args.proof.now in
    let same = view-same c.view-view.result e c.view-view.ensures.low c.view-view.ensures.high in
    λ not order. absurd (no-fault n (shown_box c.view-view.result) p c.in-Err.field-0 (subst (λ (b : Box). IsInOrder n b p) same order) c.in-Err.ensures.fault.holds)
