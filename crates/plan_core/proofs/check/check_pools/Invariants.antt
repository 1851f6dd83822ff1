use Rattle.std.proofs.Common.{ℕ, ◌<◌}
use Rattle.pool_model.specs.Network.{net_of}
use Rattle.plan_core.specs.Views.{shown_plan}
use Rattle.plan_core.specs.Faults.{Breaks}
use Rattle.plan_core.specs.declared.fault.PlanFault.TheVariants.{PoolOver}
use Rattle.plan_core.proofs.check.check_pools.Given as goal

abbrev pub invariant-loop-pool : goal.invariant-loop-pool
invariant-loop-pool l = (i : ℕ) → i < l.pool → ¬ Breaks (net_of l.net) (shown_plan l.plan) (PoolOver i)
