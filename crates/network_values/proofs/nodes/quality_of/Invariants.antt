use Rattle.std.proofs.Common.{◌≡◌, map, take, get_or, Some}
use Rattle.pool_model.specs.Network.{no_source}
use Rattle.network_values.proofs.nodes.quality_of.Given as goal

abbrev pub invariant-loop-k : goal.invariant-loop-k
invariant-loop-k l = l.quality.items ≡ map Some (take l.k (get_or l.net.sources l.source no_source).quality)
