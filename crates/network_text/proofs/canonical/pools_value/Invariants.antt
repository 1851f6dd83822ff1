use Rattle.std.proofs.Common.{◌≡◌, map, take}
use Rattle.serde_json.specs.View.{view}
use Rattle.network_values.specs.Values.{pool_data}
use Rattle.network_text.proofs.canonical.pools_value.Given as goal

abbrev pub invariant-loop-n : goal.invariant-loop-n
invariant-loop-n l = map view l.list.items ≡ map (pool_data l.version l.net.qualities) (take l.n l.net.pools)
