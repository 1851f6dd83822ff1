use Rattle.std.proofs.Common.{◌≡◌, ℕ, All, sym, subst, ◌∙◌, rules, FitsSigned, to_z-of_z}
use mir.Syntax.{w128}
use Rattle.pool_model.specs.Network.{net_of}
use Rattle.row_model.specs.Trees.{box_of}
use Rattle.box_space.specs.declared.coordinates.Form.{Form}
use Rattle.box_tree.specs.Kept.{searched_of}
use Rattle.branching.specs.Rows.{HasOpen}
use Rattle.branching.specs.declared.name.RuleName.TheVariants.{Widest}
use Rattle.leaf_cuts.specs.Halvings.{IsHalvingOf}
use Rattle.leaf_cuts.specs.Views.{IsViewOf}
use Rattle.search_core.proofs.LeafSplits.{pick-cuttable, cut-wide}
use Rattle.job_work.specs.Worked.{least_at}
use Rattle.search_run.proofs.Stepping.{pick-weaker}
use Rattle.job_work.proofs.Working.{asks, uncut-at, worked-at}
use Rattle.job_work.proofs.leaf.work_leaf.Goals as goal

pub returns-then-not-has_open-clause-none : goal.returns-then-not-has_open-clause-none
returns-then-not-has_open-clause-none g c =
    let n = net_of c.args.net.now in
    let splits = c.args.tree.now.kept.splits.list in
    let b = box_of n splits c.args.node in
    let view = c.in_ok-looked.looked.view in
    let solved = c.in_ok-leaf.ensures.node in
    let seen = subst (λ (f : Form). IsViewOf n f splits b c.in_ok-leaf.leaf.node view) c.in_ok-leaf.ensures.form (c.in_ok-looked.ensures.view b solved.ends) in
    let shut : ¬ HasOpen view.rows = search rules in
    uncut-at n c.args.form splits b c.in_ok-leaf.leaf.node view seen shut

pub pick-split-requires : goal.pick-split-requires
pick-split-requires g c =
    let opened : HasOpen c.in_ok-looked.looked.view.rows = search rules in
    opened

pub proved_at-requires-clause-known : goal.proved_at-requires-clause-known
proved_at-requires-clause-known g c =
    let n = net_of c.args.net.now in
    let splits = c.args.tree.now.kept.splits.list in
    let b = box_of n splits c.args.node in
    let view = c.in_ok-looked.looked.view in
    let solved = c.in_ok-leaf.ensures.node in
    let seen = subst (λ (f : Form). IsViewOf n f splits b c.in_ok-leaf.leaf.node view) c.in_ok-leaf.ensures.form (c.in_ok-looked.ensures.view b solved.ends) in
    (pick-cuttable n (asks c.args.form) splits b c.in_ok-leaf.leaf.node view c.pick-split.result _ seen c.pick-split.ensures).known

pub proved_at-requires-clause-wide : goal.proved_at-requires-clause-wide
proved_at-requires-clause-wide g c =
    let n = net_of c.args.net.now in
    let splits = c.args.tree.now.kept.splits.list in
    let b = box_of n splits c.args.node in
    let view = c.in_ok-looked.looked.view in
    let solved = c.in_ok-leaf.ensures.node in
    let seen = subst (λ (f : Form). IsViewOf n f splits b c.in_ok-leaf.leaf.node view) c.in_ok-leaf.ensures.form (c.in_ok-looked.ensures.view b solved.ends) in
    cut-wide n c.args.form b c.in_ok-leaf.leaf.ends c.pick-split.result.coord solved.ends
    (pick-cuttable n (asks c.args.form) splits b c.in_ok-leaf.leaf.node view c.pick-split.result _ seen c.pick-split.ensures)

pub proved_at-requires-clause-halvings : goal.proved_at-requires-clause-halvings
proved_at-requires-clause-halvings g c = λ b is.
    subst (λ (f : Form). All (IsHalvingOf (net_of c.args.net.now) f b c.in_ok-leaf.leaf.bound) c.in_ok-looked.looked.halvings.items) (sym c.look.ensures.form) (c.in_ok-looked.ensures.halvings b is)

pub returns-clause-some : goal.returns-clause-some
returns-clause-some g c =
    let n = net_of c.args.net.now in
    let form = c.args.form in
    let s = searched_of c.args.tree.now.kept in
    let splits = s.tree.splits in
    let b = box_of n splits c.args.node in
    let view = c.in_ok-looked.looked.view in
    let solved = c.in_ok-leaf.ensures.node in
    let halving = c.in_ok-halving.halving in
    let seen = subst (λ (f : Form). IsViewOf n f splits b c.in_ok-leaf.leaf.node view) c.in_ok-leaf.ensures.form (c.in_ok-looked.ensures.view b solved.ends) in
    let seen_at = subst (λ (k : ℕ). IsViewOf n form splits b k view) solved.node seen in
    let pick = pick-weaker Widest _ view c.pick-split.result c.requires.rule c.pick-split.ensures in
    let halved = subst (λ (f : Form). IsHalvingOf n f b c.in_ok-leaf.leaf.bound halving) (c.look.ensures.form ∙ c.in_ok-leaf.ensures.form) (c.in_ok-halving.ensures.halving b solved.ends) in
    let fits : FitsSigned w128 c.least_of-least.result = search rules in
    let least_is : c.in_ok-leaf.leaf.bound ≡ least_at n s.tree c.args.node = solved.bound ∙ to_z-of_z fits ∙ c.least_of-least.ensures in
    worked-at n form s c.args.node view c.pick-split.result halving c.in_ok-leaf.leaf.bound
    c.requires.leaf seen_at pick halved c.in_ok-halving.ensures.coord least_is
