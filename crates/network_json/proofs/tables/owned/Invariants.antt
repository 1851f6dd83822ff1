use Rattle.std.proofs.Common.{◌≡◌, map, take, string_bytes}
use Rattle.json_walk.specs.Walk.{texts}
use Rattle.network_json.proofs.tables.owned.Given as goal

abbrev pub invariant-loop-name : goal.invariant-loop-name
invariant-loop-name l = map string_bytes l.owned.items ≡ texts (take l.name-index l.names)
