use Rattle.std.proofs.Common.{◌≡◌, map, take, Ok}
use Rattle.serde_json.specs.View.{view}
use Rattle.network_parts.specs.Parts.{pool_row}
use Rattle.json_walk.specs.Walk.{each, place, texts}
use Rattle.network_json.specs.Format.{pool}
use Rattle.json_walk.specs.declared.fault.Section.TheVariants.{Pools}
use Rattle.network_json.proofs.tables.pool_rows.Given as goal

abbrev pub invariant-loop-i : goal.invariant-loop-i
invariant-loop-i l = each (λ n. pool l.version (texts l.names) (place Pools n)) 0 (map view (take l.i l.values)) ≡ Ok (map pool_row l.pools.items)
