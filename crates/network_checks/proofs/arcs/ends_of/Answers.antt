use Rattle.std.proofs.Common.{◌<◌, [], length, map, sym, ap, ◌∙◌, arith}
use Rattle.std.proofs.lemmas.List.{length-map}
use Rattle.network_parts.specs.Parts.{rows_of, arc_row}
use Rattle.network_parts.specs.Nodes.{known, nodes_of, node_of}
use Rattle.network_parts.specs.Faults.{IsUnknownName, row_ends, no_arc_row}
use Rattle.network_parts.specs.declared.fault.NetFault.TheVariants.{UnknownName}
use Rattle.network_parts.proofs.Mapped.{map_more, read-map}
use Rattle.network_checks.proofs.Order.{told}
use Rattle.network_checks.proofs.Conditions.{nodes_below, not_unknown, both_known, lost_end}
use Rattle.network_checks.proofs.arcs.ends_of.Goals as goal

pub loop-n-preserved : goal.loop-n-preserved
loop-n-preserved c =
    let r = rows_of c.args.parts.now in
    let at = rw c.deref-arc-items.ensures.value at c.arc-item.is in
    let here : c.loop-n.n < length c.args.parts.now.arcs.items = omega (arith, c.loop-n-test.true, ap length c.deref-arc-items.ensures.value) in
    map_more known (nodes_of r) arc_row c.args.parts.now.arcs.items c.loop-n.ends.items c.push.new.self.items c.loop-n.n c.arc-item.result
    _ c.loop-n.invariant here at c.in_ok-push.ensures.items
    (both_known _ _ _ (sym c.find_ends.ensures ∙ c.in-Some.is)
    ∙ λ i. ((ap (node_of r) c.as_str.ensures.value) i, (ap (node_of r) c.as_str-in-loop-n.ensures.value) i))

pub returns-in_default-clause-first : goal.returns-in_default-clause-first
returns-in_default-clause-first c = λ _.
    let r = rows_of c.args.parts.now in
    let items = c.args.parts.now.arcs.items in
    let n = c.loop-n.n in
    let long = length-map c.args.parts.now.arcs.items arc_row in
    let at = rw c.deref-arc-items.ensures.value at c.arc-item.is in
    let here : c.loop-n.n < length (map arc_row c.args.parts.now.arcs.items) = omega (arith, c.loop-n-test.true, ap length c.deref-arc-items.ensures.value, long) in
    let ends = read-map arc_row items n c.arc-item.result no_arc_row here at in
    told UnknownName (IsUnknownName r) n
    (lost_end r n _ _ here (ap row_ends ends ∙ λ i. (sym c.as_str.ensures.value i, sym c.as_str-in-loop-n.ensures.value i)) (sym c.find_ends.ensures ∙ c.in_default.is))
    (λ m below. not_unknown r m _ (nodes_below r c.loop-n.ends.items n m c.loop-n.invariant below (omega (arith, here))))
