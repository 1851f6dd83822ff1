use Rattle.std.proofs.Common.{◌≡◌, take}
use Rattle.json_walk.specs.Walk.{texts}
use Rattle.network_json.specs.Format.{untreated}
use Rattle.network_json.proofs.tables.untreated.Given as goal

abbrev pub invariant-loop-name : goal.invariant-loop-name
invariant-loop-name l = l.row.items ≡ untreated (texts (take l._name-index l.names))
