use Rattle.std.proofs.Common.{◌≡◌, take, Ok}
use Rattle.serde_json.specs.View.{view}
use Rattle.json_walk.specs.Walk.{each, needs, quantity, texts}
use Rattle.network_json.proofs.tables.quantities.Given as goal

abbrev pub invariant-loop-name : goal.invariant-loop-name
invariant-loop-name l = each (λ n k. needs l.at k (quantity l.at) (view l.value)) 0 (texts (take l.name-index l.names)) ≡ Ok l.row.items
