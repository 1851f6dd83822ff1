use Rattle.std.proofs.Common.{◌≡◌, take, Ok, pos}
use Rattle.serde_json.specs.View.{view}
use Rattle.json_walk.specs.Walk.{each, allows, ratio, texts}
use Rattle.network_json.proofs.tables.ratio_of_each.Given as goal

abbrev pub invariant-loop-name : goal.invariant-loop-name
invariant-loop-name l = each (λ n k. allows k (pos 1000) (ratio l.at) (view l.value)) 0 (texts (take l.name-index l.names)) ≡ Ok l.row.items
