use Rattle.std.proofs.Common.{◌≡◌, map, take, Ok}
use Rattle.serde_json.specs.View.{view}
use Rattle.json_walk.specs.Walk.{each, place, text, texts}
use Rattle.json_walk.specs.declared.fault.Section.TheVariants.{Qualities}
use Rattle.network_json.proofs.tables.names.Given as goal

abbrev pub invariant-loop-i : goal.invariant-loop-i
invariant-loop-i l = each (λ n. text (place Qualities n)) 0 (map view (take l.i l.values)) ≡ Ok (texts l.names.items)
