use Rattle.std.proofs.Common.{◌≡◌, ◌==◌, if◌then◌else◌, Some, None}
use Rattle.pool_model.specs.Network.{net_of, direct_delivered}
use Rattle.pool_model.specs.Starting.{least_below}
use Rattle.blend_network.proofs.network.Network.direct_reach.Given as goal

abbrev pub invariant-loop-e : goal.invariant-loop-e
invariant-loop-e l = l.least ≡ least_below (λ i. if (net_of l.self).direct_product i == l.product then Some (direct_delivered (net_of l.self) i) else None) l.e
