use Rattle.std.proofs.Common.{rules, Some, option_map, sym, ◌∙◌, FitsSigned}
use Rattle.std.specs.Int.{w128}
use Rattle.std.proofs.lemmas.Int.{to_z-of_z}
use Rattle.pool_model.specs.Network.{net_of}
use Rattle.box_space.specs.Views.{shown_proof}
use Rattle.row_book.specs.Views.{shown_value}
use Rattle.raised_splits.proofs.Held.{bound-told, raised-held}
use Rattle.raised_splits.proofs.half.raised_half.Goals as goal

pub returns-clause-raised : goal.returns-clause-raised
returns-clause-raised c = λ b ends order.
    let n = net_of c.args.net.now in
    let least = c.in-Some.low in
    let fits : FitsSigned w128 least = search rules in
    let old = option_map shown_proof c.args.proof in
    raised-held n c.view-view.result c.args.ends.now c.view-view.ensures.low c.view-view.ensures.high b ends c.args.form c.args.above c.args.pivots old
    (option_map shown_proof c.proof_by.result) least c.in_ok-mark.mark
    (bound-told n b c.args.above (Some least) (option_map shown_value c.shown_of-shown.result) old (sym c.in-Some.is ∙ c.raised.ensures) (c.shown_of-shown.ensures.shown b ends order))
    (simp to_z-of_z at c.in_ok-mark.ensures.mark) c.in_ok-mark.ensures.comes c.proof_by.ensures
