use Rattle.std.proofs.Common.{get_or}
use Rattle.pool_model.specs.Network.{net_of}
use Rattle.plan_core.proofs.Costs.{IsTotal}
use Rattle.plan_core.proofs.cost.purchases.Given as goal

abbrev pub invariant-loop-source : goal.invariant-loop-source
invariant-loop-source l = IsTotal (net_of l.net).source_cost (λ i. get_or l.outflows i 0) l.source l.total
