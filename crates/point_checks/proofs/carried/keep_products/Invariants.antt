use Rattle.std.proofs.Common.{ℕ, ◌<◌}
use Rattle.pool_model.specs.Network.{net_of}
use Rattle.point_checks.specs.Flows.{KeepsProduct, flows_plan}
use Rattle.point_checks.proofs.carried.keep_products.Given as goal

abbrev pub invariant-loop-product : goal.invariant-loop-product
invariant-loop-product l = (k : ℕ) → k < l.product → KeepsProduct (net_of l.net) (flows_plan l.flows) k
