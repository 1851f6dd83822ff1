use Rattle.std.proofs.Common.{ℕ, ◌<◌}
use Rattle.pool_model.specs.Network.{net_of}
use Rattle.point_checks.specs.Flows.{KeepsPool, flows_plan}
use Rattle.point_checks.proofs.carried.keep_pools.Given as goal

abbrev pub invariant-loop-pool : goal.invariant-loop-pool
invariant-loop-pool l = (k : ℕ) → k < l.pool → KeepsPool (net_of l.net) (flows_plan l.flows) k
