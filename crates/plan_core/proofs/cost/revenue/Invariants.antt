use Rattle.std.proofs.Common.{get_or}
use Rattle.pool_model.specs.Network.{net_of}
use Rattle.plan_core.proofs.Costs.{IsTotal}
use Rattle.plan_core.proofs.cost.revenue.Given as goal

abbrev pub invariant-loop-product : goal.invariant-loop-product
invariant-loop-product l = IsTotal (net_of l.net).price (λ i. get_or l.inflows i 0) l.product l.total
