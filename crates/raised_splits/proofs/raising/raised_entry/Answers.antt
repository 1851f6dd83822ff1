use Rattle.std.proofs.Common.{◌≡◌, rules}
use Rattle.pool_model.specs.Network.{net_of}
use Rattle.box_tree.specs.Kept.{searched_of}
use Rattle.box_tree.specs.Views.{shown_entry}
use Rattle.raised_splits.proofs.Raised.{entry-best, entry-order, none-best, none-raised, some-raised}
use Rattle.raised_splits.proofs.raising.raised_entry.Goals as goal

pub returns-then-pivots-eq0-clause-raised : goal.returns-then-pivots-eq0-clause-raised
returns-then-pivots-eq0-clause-raised c =
    none-raised (net_of c.args.net.now) c.args.form c.args.pivots (searched_of c.args.tree.now.kept).tree (shown_entry c.args.entry) (search rules)

pub returns-then-pivots-eq0-clause-best : goal.returns-then-pivots-eq0-clause-best
returns-then-pivots-eq0-clause-best c =
    none-best (net_of c.args.net.now) c.args.form c.args.pivots (searched_of c.args.tree.now.kept).tree (shown_entry c.args.entry) (search rules)

pub returns-clause-raised : goal.returns-clause-raised
returns-clause-raised c =
    let some : ¬ (c.args.pivots ≡ 0) = search rules in
    some-raised (net_of c.args.net.now) c.args.form c.args.pivots (searched_of c.args.tree.now.kept).tree (shown_entry c.args.entry) (shown_entry c.in_ok-entry.entry) some
    c.in_ok-entry.ensures

pub returns-clause-in_order : goal.returns-clause-in_order
returns-clause-in_order c =
    entry-order (net_of c.args.net.now) c.args.form c.args.pivots (searched_of c.args.tree.now.kept) c.requires.limited (shown_entry c.args.entry) (shown_entry c.in_ok-entry.entry)
    c.in_ok-entry.ensures c.requires.in_order

pub returns-clause-best : goal.returns-clause-best
returns-clause-best c =
    entry-best (net_of c.args.net.now) c.args.form c.args.pivots (searched_of c.args.tree.now.kept) c.requires.limited (shown_entry c.args.entry) (shown_entry c.in_ok-entry.entry)
    c.in_ok-entry.ensures
