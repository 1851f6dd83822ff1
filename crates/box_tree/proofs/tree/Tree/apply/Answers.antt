use Rattle.std.proofs.Common.{◌≢◌, IfErr, sym, subst}
use Rattle.pool_model.specs.Network.{net_of}
use Rattle.box_tree.specs.EntryFaults.{IsFirstFault}
use Rattle.box_tree.specs.Kept.{searched_of}
use Rattle.box_tree.specs.Views.{shown_entry}
use Rattle.box_tree.specs.declared.entry.Entry.{Entry}
use Rattle.box_tree.specs.declared.entry.EntryFault.TheVariants.{Memory}
use Rattle.box_tree.proofs.Refusals.{refused-each}
use Rattle.box_tree.proofs.tree.Tree.apply.Goals as goal

pub returns-in-SplitOf-clause-refused : goal.returns-in-SplitOf-clause-refused
returns-in-SplitOf-clause-refused c =
    let n = net_of c.args.net.now in
    let s = searched_of c.args.self.now.kept in
    refused-each n s (shown_entry c.args.entry) c.split.result
    (subst (λ (e : Entry). IfErr c.split.result (λ f. f ≢ Memory → IsFirstFault n s (shown_entry e) f)) (sym c.in-SplitOf.is) c.split.ensures.fault)

pub returns-in-Improve-clause-refused : goal.returns-in-Improve-clause-refused
returns-in-Improve-clause-refused c =
    let n = net_of c.args.net.now in
    let s = searched_of c.args.self.now.kept in
    refused-each n s (shown_entry c.args.entry) c.improve.result
    (subst (λ (e : Entry). IfErr c.improve.result (λ f. f ≢ Memory → IsFirstFault n s (shown_entry e) f)) (sym c.in-Improve.is) c.improve.ensures.fault)
