use Rattle.std.proofs.Common.{◌≤◌, All, inl, inr, option_map, sym, subst, ◌∙◌, rules}
use Rattle.pool_model.specs.Network.{net_of}
use Rattle.row_model.specs.Trees.{box_of, most_splits}
use Rattle.box_space.specs.Views.{shown_proof}
use Rattle.box_space.specs.declared.coordinates.Form.{Form}
use Rattle.branching.specs.Rows.{HasOpen}
use Rattle.leaf_cuts.specs.Halvings.{IsHalvingOf}
use Rattle.search_core.specs.Searches.{Searching, searched}
use Rattle.search_core.proofs.Opening.{stuck-from}
use Rattle.search_core.proofs.Ordering.{split-order}
use Rattle.search_core.proofs.LeafSplits.{seen-of, pick-cuttable, least-split, cut-wide}
use Rattle.search_core.proofs.search.Search.split_leaf.Goals as goal

pub returns-then-not-has_open-clause-next : goal.returns-then-not-has_open-clause-next
returns-then-not-has_open-clause-next g c =
    let n = net_of c.args.net.now in
    let s = searched c.args.self.now in
    let o = c.args.self.now.options in
    let leaf = c.args.leaf.now in
    let b = box_of n s.tree.splits leaf.node in
    let view = c.in_ok-looked.looked.view in
    let seen = seen-of n c.args.self.now _ _ b leaf.node view c.self.view_is c.requires.form (c.in_ok-looked.ensures.view b c.requires.leaf.ends) in
    let shut : ¬ HasOpen view.rows = search rules in
    let stuck = stuck-from n o.form s leaf.node view c.requires.leaf.least seen shut in
    elim c.stuck.ensures [
      | inl p ↦ rw p.0 (c.requires.going, c.requires.few, stuck, p.1)
      | inr p ↦ rw p.0 (c.requires.going, inr stuck, p.1)
    ]

pub proved_at-requires-clause-known : goal.proved_at-requires-clause-known
proved_at-requires-clause-known g c =
    let n = net_of c.args.net.now in
    let s = searched c.args.self.now in
    let leaf = c.args.leaf.now in
    let o = c.args.self.now.options in
    let b = box_of n s.tree.splits leaf.node in
    let view = c.in_ok-looked.looked.view in
    let seen = seen-of n c.args.self.now _ _ b leaf.node view c.self.view_is c.requires.form (c.in_ok-looked.ensures.view b c.requires.leaf.ends) in
    (pick-cuttable n o s.tree.splits b leaf.node view c.pick-split.result _ seen c.pick-split.ensures).known

pub proved_at-requires-clause-wide : goal.proved_at-requires-clause-wide
proved_at-requires-clause-wide g c =
    let n = net_of c.args.net.now in
    let s = searched c.args.self.now in
    let leaf = c.args.leaf.now in
    let o = c.args.self.now.options in
    let b = box_of n s.tree.splits leaf.node in
    let view = c.in_ok-looked.looked.view in
    let seen = seen-of n c.args.self.now _ _ b leaf.node view c.self.view_is c.requires.form (c.in_ok-looked.ensures.view b c.requires.leaf.ends) in
    cut-wide n o.form b leaf.ends c.pick-split.result.coord c.requires.leaf.ends (pick-cuttable n o s.tree.splits b leaf.node view c.pick-split.result _ seen c.pick-split.ensures)

pub proved_at-requires-clause-halvings : goal.proved_at-requires-clause-halvings
proved_at-requires-clause-halvings g c = λ b is.
    subst (λ (f : Form). All (IsHalvingOf (net_of c.args.net.now) f b c.args.leaf.now.bound) c.in_ok-looked.looked.halvings.items) (sym c.look.ensures.form) (c.in_ok-looked.ensures.halvings b is)

pub returns-clause-next : goal.returns-clause-next
returns-clause-next g c =
    let n = net_of c.args.net.now in
    let s = searched c.args.self.now in
    let o = c.args.self.now.options in
    let leaf = c.args.leaf.now in
    let b = box_of n s.tree.splits leaf.node in
    let view = c.in_ok-looked.looked.view in
    let seen = seen-of n c.args.self.now _ _ b leaf.node view c.self.view_is c.requires.form (c.in_ok-looked.ensures.view b c.requires.leaf.ends) in
    let halving = c.in_ok-halving.halving in
    let halved = subst (λ (f : Form). IsHalvingOf n f b leaf.bound halving) (c.look.ensures.form ∙ c.requires.form) (c.in_ok-halving.ensures.halving b c.requires.leaf.ends) in (
      c.requires.going,
      c.requires.few,
      least-split n o s _ leaf.node view c.pick-split.result halving leaf.bound c.requires.leaf.least c.requires.leaf.bounded seen c.pick-split.ensures halved c.in_ok-halving.ensures.coord,
    )

pub returns-clause-in_order : goal.returns-clause-in_order
returns-clause-in_order g c =
    let n = net_of c.args.net.now in
    let s = searched c.args.self.now in
    let o = c.args.self.now.options in
    let leaf = c.args.leaf.now in
    let b = box_of n s.tree.splits leaf.node in
    let view = c.in_ok-looked.looked.view in
    let seen = seen-of n c.args.self.now _ _ b leaf.node view c.self.view_is c.requires.form (c.in_ok-looked.ensures.view b c.requires.leaf.ends) in
    let halving = c.in_ok-halving.halving in
    let halved = subst (λ (f : Form). IsHalvingOf n f b leaf.bound halving) (c.look.ensures.form ∙ c.requires.form) (c.in_ok-halving.ensures.halving b c.requires.leaf.ends) in
    let few = subst (λ (v : Searching). v.options.nodes ≤ most_splits) c.self.view_is c.self.invariant.few in
    split-order n o s _ c.pick-split.result (option_map shown_proof halving.left) (option_map shown_proof halving.right) c.requires.few few
    (least-split n o s _ leaf.node view c.pick-split.result halving leaf.bound c.requires.leaf.least c.requires.leaf.bounded seen c.pick-split.ensures halved c.in_ok-halving.ensures.coord)
