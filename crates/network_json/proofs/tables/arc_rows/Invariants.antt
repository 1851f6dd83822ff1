use Rattle.std.proofs.Common.{◌≡◌, map, take, Ok}
use Rattle.serde_json.specs.View.{view}
use Rattle.network_parts.specs.Parts.{arc_row}
use Rattle.json_walk.specs.Walk.{each, place}
use Rattle.network_json.specs.Format.{arc}
use Rattle.json_walk.specs.declared.fault.Section.TheVariants.{Arcs}
use Rattle.network_json.proofs.tables.arc_rows.Given as goal

abbrev pub invariant-loop-i : goal.invariant-loop-i
invariant-loop-i l = each (λ n. arc l.version (place Arcs n)) 0 (map view (take l.i l.values)) ≡ Ok (map arc_row l.arcs.items)
