use Rattle.std.proofs.Common.{ℕ, ◌<◌}
use Rattle.pool_model.specs.Network.{net_of}
use Rattle.plan_core.specs.Views.{shown_plan}
use Rattle.plan_core.specs.Faults.{Breaks}
use Rattle.plan_core.specs.declared.fault.PlanFault.TheVariants.{ArcOver}
use Rattle.plan_core.proofs.check.check_arcs.Given as goal

abbrev pub invariant-loop-arc : goal.invariant-loop-arc
invariant-loop-arc l = (i : ℕ) → i < l.arc → ¬ Breaks (net_of l.net) (shown_plan l.plan) (ArcOver i)
