use Rattle.std.proofs.Common.{◌≡◌, take, get_or}
use Rattle.pool_model.specs.Network.{no_product}
use Rattle.network_values.proofs.nodes.most_of.Given as goal

abbrev pub invariant-loop-k : goal.invariant-loop-k
invariant-loop-k l = l.limits.items ≡ take l.k (get_or l.net.products l.product no_product).most
