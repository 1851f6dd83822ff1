use Rattle.std.proofs.Common.{◌≡◌, map, take, Ok}
use Rattle.serde_json.specs.View.{view}
use Rattle.network_parts.specs.Parts.{product_row}
use Rattle.json_walk.specs.Walk.{each, place, texts}
use Rattle.network_json.specs.Format.{product}
use Rattle.json_walk.specs.declared.fault.Section.TheVariants.{Products}
use Rattle.network_json.proofs.tables.product_rows.Given as goal

abbrev pub invariant-loop-i : goal.invariant-loop-i
invariant-loop-i l = each (λ n. product (texts l.names) (place Products n)) 0 (map view (take l.i l.values)) ≡ Ok (map product_row l.products.items)
