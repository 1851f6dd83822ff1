use Rattle.std.proofs.Common.{ℕ, ◌<◌}
use Rattle.pool_model.specs.Network.{net_of}
use Rattle.plan_core.specs.Views.{shown_plan}
use Rattle.plan_core.specs.Faults.{Breaks}
use Rattle.plan_core.specs.declared.fault.PlanFault.TheVariants.{ProductOver}
use Rattle.plan_core.proofs.check.check_maxima.Given as goal

abbrev pub invariant-loop-product : goal.invariant-loop-product
invariant-loop-product l = (i : ℕ) → i < l.product → ¬ Breaks (net_of l.net) (shown_plan l.plan) (ProductOver i)
