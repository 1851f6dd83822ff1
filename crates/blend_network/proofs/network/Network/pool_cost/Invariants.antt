use Rattle.std.proofs.Common.{◌≡◌, ◌==◌, if◌then◌else◌, Some, None}
use Rattle.pool_model.specs.Network.{net_of, feed_delivered}
use Rattle.pool_model.specs.Starting.{least_below}
use Rattle.blend_network.proofs.network.Network.pool_cost.Given as goal

abbrev pub invariant-loop-e : goal.invariant-loop-e
invariant-loop-e l = l.least ≡ least_below (λ i. if (net_of l.self).feed_pool i == l.pool then Some (feed_delivered (net_of l.self) i) else None) l.e
