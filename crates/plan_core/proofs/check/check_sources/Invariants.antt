use Rattle.std.proofs.Common.{ℕ, ◌<◌}
use Rattle.pool_model.specs.Network.{net_of}
use Rattle.plan_core.specs.Views.{shown_plan}
use Rattle.plan_core.specs.Faults.{Breaks}
use Rattle.plan_core.specs.declared.fault.PlanFault.TheVariants.{SourceOver}
use Rattle.plan_core.proofs.check.check_sources.Given as goal

abbrev pub invariant-loop-source : goal.invariant-loop-source
invariant-loop-source l = (i : ℕ) → i < l.source → ¬ Breaks (net_of l.net) (shown_plan l.plan) (SourceOver i)
