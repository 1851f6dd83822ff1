use Rattle.std.proofs.Common.{◌≡◌, ◌≤◌, Some, length, map, drop, get_or}
use Rattle.serde_json.specs.View.{members_view}
use Rattle.pool_model.specs.Network.{no_pool}
use Rattle.network_values.specs.Values.{ratio_data, set_members}
use Rattle.network_values.proofs.nodes.ratios_value.Given as goal

-- the ratios of the qualities from k on
abbrev pub invariant-loop-k : goal.invariant-loop-k
invariant-loop-k l =
    (l.k ≤ length l.net.qualities)
    × (members_view l.members.entries ≡ set_members ratio_data (drop l.k l.net.qualities) (map Some (drop l.k (get_or l.net.pools l.pool no_pool).ratio)))
