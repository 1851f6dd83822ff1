use Rattle.std.proofs.Common.{◌≡◌, ◌++◌, map, take}
use Rattle.serde_json.specs.View.{view}
use Rattle.blend_network.specs.Kinds.{names_of}
use Rattle.network_parts.specs.declared.fault.Kind.TheVariants as kind
use Rattle.blend_network.specs.Canonical.{canonical_arc}
use Rattle.network_values.specs.Values.{arc_data}
use Rattle.network_text.proofs.canonical.arcs_value.Given as goal

abbrev pub invariant-feeds : goal.invariant-feeds
invariant-feeds l = map view l.list.items ≡ map (arc_data l.version) (map (canonical_arc (names_of l.net kind.Source) (names_of l.net kind.Pool)) (take l.n l.net.feeds))

abbrev pub invariant-outs : goal.invariant-outs
invariant-outs l =
    map view l.list.items ≡ map (arc_data l.version) (map (canonical_arc (names_of l.net kind.Source) (names_of l.net kind.Pool))
    l.net.feeds ++ map (canonical_arc (names_of l.net kind.Pool) (names_of l.net kind.Product))
    (take l.n l.net.outs))

abbrev pub invariant-directs : goal.invariant-directs
invariant-directs l =
    map view l.list.items
    ≡ map (arc_data l.version) (map (canonical_arc (names_of l.net kind.Source) (names_of l.net kind.Pool)) l.net.feeds ++ map
    (canonical_arc (names_of l.net kind.Pool) (names_of l.net kind.Product)) l.net.outs ++ map
    (canonical_arc (names_of l.net kind.Source) (names_of l.net kind.Product)) (take l.n l.net.directs))
