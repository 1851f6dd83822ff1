use Rattle.std.proofs.Common.{◌≡◌, ◌==◌, if◌then◌else◌, None}
use Rattle.pool_model.specs.Network.{net_of}
use Rattle.pool_model.specs.Starting.{least_below, out_delivered}
use Rattle.blend_network.proofs.network.Network.through_reach.Given as goal

abbrev pub invariant-loop-o : goal.invariant-loop-o
invariant-loop-o l = l.least ≡ least_below (λ i. if (net_of l.self).out_product i == l.product then out_delivered (net_of l.self) i else None) l.o
