use Rattle.std.proofs.Common.{sym, subst}
use Rattle.pool_model.specs.Network.{net_of}
use Rattle.row_model.specs.Entries.{IsEntryInOrder}
use Rattle.box_tree.specs.Kept.{Held, IsOf, searched_of}
use Rattle.box_tree.specs.Views.{shown_entry}
use Rattle.raised_splits.specs.Raising.{IsBestEntry, IsRaisedBy}
use Rattle.search_run.proofs.Raising.{raised-due}
use Rattle.search_run.proofs.deciding.raised.Goals as goal

pub raised_entry-requires-clause-limited : goal.raised_entry-requires-clause-limited
raised_entry-requires-clause-limited c = c.requires.search.limited

pub raised_entry-requires-clause-tree : goal.raised_entry-requires-clause-tree
raised_entry-requires-clause-tree c = subst (λ (h : Held). IsOf (net_of c.args.net.now) h) (sym c.tree-tree.ensures) c.requires.search.tree

pub raised_entry-requires-clause-in_order : goal.raised_entry-requires-clause-in_order
raised_entry-requires-clause-in_order c =
    subst (λ (h : Held). IsEntryInOrder (net_of c.args.net.now) (searched_of h.kept) (shown_entry c.args.entry)) (sym c.tree-tree.ensures) c.requires.chosen.0

pub returns : goal.returns
returns c =
    let n = net_of c.args.net.now in
    let o = c.args.orders in
    let new = c.in_ok-entry.entry in
    raised-due n o c.args.search.now c.requires.search c.requires.options c.args.entry new c.requires.chosen
    (subst (λ (h : Held). IsRaisedBy n o.form o.raise (searched_of h.kept).tree (shown_entry c.args.entry) (shown_entry new)) c.tree-tree.ensures c.in_ok-entry.ensures.raised)
    (subst (λ (h : Held). IsEntryInOrder n (searched_of h.kept) (shown_entry new)) c.tree-tree.ensures c.in_ok-entry.ensures.in_order)
    (subst (λ (h : Held). IsBestEntry n o.form o.raise (searched_of h.kept).tree (shown_entry new)) c.tree-tree.ensures c.in_ok-entry.ensures.best)
