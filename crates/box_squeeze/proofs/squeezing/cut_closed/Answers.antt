use Rattle.std.proofs.Common.{length, option_map, ℤ, ◌∙◌, rules, sym, ap, subst, FitsSigned, to_z-of_z}
use Rattle.std.proofs.lemmas.List.{length-map}
use mir.Syntax.{w128}
use Rattle.pool_model.specs.Network.{net_of}
use Rattle.row_model.specs.Multipliers.{bound}
use Rattle.row_model.specs.Trees.{Split, box_of}
use Rattle.box_space.specs.Views.{shown_proof, shown_split}
use Rattle.box_tree.specs.Kept.{searched_of}
use Rattle.box_tree.specs.Views.{shown_entry}
use Rattle.leaf_cuts.specs.Given.{IsGiven}
use Rattle.box_squeeze.specs.Pieces.{kept_of}
use Rattle.box_squeeze.proofs.Cutting.{squeezed-entry, ordered-entry}
use Rattle.box_squeeze.proofs.squeezing.cut_closed.Goals as goal

pub proof_of-requires-clause-ends : goal.proof_of-requires-clause-ends
proof_of-requires-clause-ends c = c.requires.closed.kept.proper

pub returns-clause-squeeze : goal.returns-clause-squeeze
returns-clause-squeeze c =
    let n = net_of c.args.net.now in
    let form = c.args.range.now.form in
    let s = searched_of c.args.tree.now.kept in
    let closed = c.args.closed in
    let o = option_map shown_proof c.in_ok-kept.kept in
    let least = c.unwrap_or-bound.result in
    let least_fits : FitsSigned w128 least = search rules in
    let is = c.requires.closed in
    let kept = kept_of (box_of n c.args.tree.now.kept.splits.list c.args.leaf) closed.side closed.coord in
    let given = subst (λ (z : ℤ). IsGiven n form kept (bound z) o) (to_z-of_z least_fits) (c.in_ok-kept.ensures kept is.kept) in
    squeezed-entry n form s c.args.leaf c.cut_off.result.kept c.args.range.now.target least closed o (shown_entry c.cut_off.result.entry) is c.cut_off.ensures.entry given
    (length c.splits.result.now) c.node_bound.result _ c.cut_off.ensures.kept (sym (length-map {B = Split} c.splits.result.now shown_split) ∙ ap (λ xs. length xs) c.splits.ensures)
    c.unwrap_or-bound.ensures (c.node_bound.ensures.bound n c.requires.tree c.requires.leaf.there)

pub returns-clause-in_order : goal.returns-clause-in_order
returns-clause-in_order c =
    let n = net_of c.args.net.now in
    let form = c.args.range.now.form in
    let s = searched_of c.args.tree.now.kept in
    let closed = c.args.closed in
    let o = option_map shown_proof c.in_ok-kept.kept in
    let least = c.unwrap_or-bound.result in
    let least_fits : FitsSigned w128 least = search rules in
    let is = c.requires.closed in
    let kept = kept_of (box_of n c.args.tree.now.kept.splits.list c.args.leaf) closed.side closed.coord in
    let given = subst (λ (z : ℤ). IsGiven n form kept (bound z) o) (to_z-of_z least_fits) (c.in_ok-kept.ensures kept is.kept) in
    ordered-entry n form s c.args.leaf c.cut_off.result.kept c.args.range.now.target least closed o (shown_entry c.cut_off.result.entry) is c.cut_off.ensures.entry given c.requires.leaf c.requires.few
