use Rattle.std.proofs.Common.{◌≡◌, ◌≤◌, length, drop}
use Rattle.serde_json.specs.View.{members_view}
use Rattle.network_values.specs.Values.{quantity_data, set_members}
use Rattle.network_values.proofs.quantities.set_value.Given as goal

abbrev pub invariant-loop-k : goal.invariant-loop-k
invariant-loop-k l = (l.k ≤ length l.quantities) × (members_view l.members.entries ≡ set_members quantity_data (drop l.k l.net.qualities) (drop l.k l.quantities))
