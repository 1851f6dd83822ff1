use Rattle.std.proofs.Common.{◌≡◌, map, take}
use Rattle.pool_model.specs.Naming.{network_of}
use Rattle.pool_model.specs.Network.{net_of}
use Rattle.network_parts.specs.Parts.{rows_of}
use Rattle.blend_network.specs.Keys.{groups_by, keys}
use Rattle.blend_network.proofs.network.index.index_of.Given as goal

abbrev pub invariant-loop-key : goal.invariant-loop-key
invariant-loop-key l = l.index.items ≡ map (groups_by (net_of (network_of (rows_of l.parts)))) (take l.key-index keys)
