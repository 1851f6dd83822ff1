-- Entry by entry: the tree is made of those so far, and they are in order.
use Rattle.std.proofs.Common.{suc, [], ◌∷◌, length, map, drop, refl, sym, ap, subst, ◌∙◌, arith}
use Rattle.std.proofs.lemmas.List.{length_push, map-id, map-append, length-map}
use Rattle.std.proofs.lemmas.Iterator.Adapters.{YieldsList-from_vec}
use Rattle.std.proofs.lemmas.Iterator.Consumers.{YieldsList-so_far, YieldsList-turn, YieldsList-end}
use Rattle.pool_model.specs.Network.{net_of}
use Rattle.row_model.specs.Entries as entries
use Rattle.row_model.specs.Entries.{Searched, start, made_by, AreInOrder, IsEntryInOrder}
use Rattle.box_tree.specs.Views.{shown_entry}
use Rattle.box_tree.specs.Kept.{searched_of}
use Rattle.recorded_run.proofs.Recording.{made-more, in_order-more, out_of_order, refused-fault, split_here}
use Rattle.recorded_run.proofs.replay.replayed.Goals as goal

pub loop-entry-init : goal.loop-entry-init
loop-entry-init c = record { tree = c.in_ok-tree.ensures.tree; made = c.in_ok-tree.ensures.searched; in_order = tt; number = refl }

pub loop-entry-preserved : goal.loop-entry-preserved
loop-entry-preserved c =
    let n = net_of c.args.net.now in
    let so_far = map shown_entry c.loop-entry.yielded in
    let e = shown_entry c.in-Some.entry in
    let one_more = map-append shown_entry c.loop-entry.yielded (c.in-Some.entry ∷ []) in
    let order : IsEntryInOrder n (made_by so_far) e = subst (λ (s : Searched). IsEntryInOrder n s e) c.loop-entry.invariant.made c.in-Ok.ensures.in_order in
    record {
      tree = c.apply.ensures.tree;
      made = c.in-Ok.ensures.ok ∙ ap (λ (s : Searched). entries.after s e) c.loop-entry.invariant.made ∙ sym (made-more start so_far e) ∙ ap made_by (sym one_more);
      in_order = subst (AreInOrder n) (sym one_more) (in_order-more n start so_far e c.loop-entry.invariant.in_order order);
      number = omega (arith, c.loop-entry.invariant.number, length_push c.loop-entry.yielded c.in-Some.entry);
    }

pub returns-in-Err-clause-fault : goal.returns-in-Err-clause-fault
returns-in-Err-clause-fault c =
    let n = net_of c.args.net.now in
    let items = c.args.entries.items in
    let road = YieldsList-from_vec {s = c.into_iter-entry-iterator.result} items c.into_iter-entry-iterator.ensures.into_iter_gives.0
    (omega (arith, c.into_iter-entry-iterator.ensures.into_iter_gives.1, c.args.entries.ok.0)) in
    let so_far = YieldsList-so_far road c.loop-entry.yielded _ c.loop-entry.yielded_by in
    let turn = YieldsList-turn road c.loop-entry.yielded _ c.loop-entry.yielded_by _ c.next.new.self c.in-Some.entry c.in-Some.is c.next.ensures.steps in
    let parts = split_here shown_entry items c.loop-entry.yielded c.in-Some.entry so_far turn.0 turn.1 in
    rw c.refusal_at.ensures
    (refused-fault n (map shown_entry items) c.args.turn_at c.loop-entry.number c.record_of.result c.in-Err.fault c.record_of.ensures
    (λ other. out_of_order n (searched_of c.loop-entry.tree.kept) (map shown_entry c.loop-entry.yielded) (shown_entry c.in-Some.entry)
    (map shown_entry (drop (suc (length c.loop-entry.yielded)) items)) (map shown_entry items)
    c.loop-entry.number parts (omega (
      arith,
      c.loop-entry.invariant.number,
      length-map c.loop-entry.yielded shown_entry,
    )) c.loop-entry.invariant.in_order c.loop-entry.invariant.made (c.in-Err.ensures.refused other)))

pub returns-clause-made : goal.returns-clause-made
returns-clause-made c =
    let road = YieldsList-from_vec {s = c.into_iter-entry-iterator.result} c.args.entries.items c.into_iter-entry-iterator.ensures.into_iter_gives.0
    (omega (arith, c.into_iter-entry-iterator.ensures.into_iter_gives.1, c.args.entries.ok.0)) in
    let all = YieldsList-end road c.loop-entry.yielded _ c.loop-entry.yielded_by _ c.next.new.self c.in-None.is c.next.ensures.steps in
    c.loop-entry.invariant.made ∙ ap (λ l. made_by (map shown_entry l)) (sym (map-id c.loop-entry.yielded) ∙ all.0)

pub returns-clause-in_order : goal.returns-clause-in_order
returns-clause-in_order c =
    let road = YieldsList-from_vec {s = c.into_iter-entry-iterator.result} c.args.entries.items c.into_iter-entry-iterator.ensures.into_iter_gives.0
    (omega (arith, c.into_iter-entry-iterator.ensures.into_iter_gives.1, c.args.entries.ok.0)) in
    let all = YieldsList-end road c.loop-entry.yielded _ c.loop-entry.yielded_by _ c.next.new.self c.in-None.is c.next.ensures.steps in
    subst (λ l. AreInOrder (net_of c.args.net.now) (map shown_entry l)) (sym (map-id c.loop-entry.yielded) ∙ all.0) c.loop-entry.invariant.in_order
