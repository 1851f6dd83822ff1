use Rattle.std.proofs.Common.{get_or, ◌∙◌}
use Rattle.pool_model.specs.Naming.{network_of}
use Rattle.pool_model.specs.Network.{net_of}
use Rattle.network_parts.specs.Parts.{rows_of}
use Rattle.blend_network.specs.Keys.{keys}
use Rattle.blend_network.specs.declared.keys.Key.TheVariants.{FeedsFrom}
use Rattle.blend_network.proofs.Indexed.{along, kept_known, grouped_is, index_more}
use Rattle.blend_network.proofs.network.index.index_of.Goals as goal

pub grouped-requires-clause-along : goal.grouped-requires-clause-along
grouped-requires-clause-along c = along (rows_of c.args.parts.now) c.args.arcs.now c.requires.checked.found

pub grouped-requires-clause-known : goal.grouped-requires-clause-known
grouped-requires-clause-known c =
    let r = rows_of c.args.parts.now in
    kept_known r c.args.arcs.now c.requires.checked.found c.requires.limited
    (get_or keys c.loop-key.key-index FeedsFrom) c.nodes.result
    (c.nodes.ensures (net_of (network_of r)) c.counts_from-counts.ensures)

pub loop-key-preserved : goal.loop-key-preserved
loop-key-preserved c =
    let r = rows_of c.args.parts.now in
    let n = net_of (network_of r) in
    let here = grouped_is r c.args.arcs.now c.requires.checked.found (get_or keys c.loop-key.key-index FeedsFrom) c.nodes.result (c.nodes.ensures n c.counts_from-counts.ensures) in
    index_more n c.loop-key.index.items c.push.new.self.items c.loop-key.key-index c.in_ok-grouped.field-0
    c.loop-key.invariant c.loop-key-test.true (c.in_ok-grouped.ensures ∙ here) c.in_ok-push.ensures.items
