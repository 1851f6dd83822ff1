use Rattle.std.proofs.Common.{◌≡◌, map, take, Ok}
use Rattle.serde_json.specs.View.{view}
use Rattle.network_parts.specs.Parts.{source_row}
use Rattle.json_walk.specs.Walk.{each, place, texts}
use Rattle.network_json.specs.Format.{source}
use Rattle.json_walk.specs.declared.fault.Section.TheVariants.{Sources}
use Rattle.network_json.proofs.tables.source_rows.Given as goal

abbrev pub invariant-loop-i : goal.invariant-loop-i
invariant-loop-i l = each (λ n. source (texts l.names) (place Sources n)) 0 (map view (take l.i l.values)) ≡ Ok (map source_row l.sources.items)
