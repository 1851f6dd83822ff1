use Rattle.std.proofs.Common.{ℕ, ◌<◌}
use Rattle.pool_model.specs.Network.{net_of}
use Rattle.plan_core.specs.Views.{shown_plan}
use Rattle.plan_core.specs.Faults.{Keeps}
use Rattle.plan_core.specs.declared.fault.PlanFault.TheVariants.{QualityOver, QualityUnder}
use Rattle.plan_core.proofs.check.check_qualities.Given as goal

abbrev pub invariant-loop-product : goal.invariant-loop-product
invariant-loop-product l = (j : ℕ) → j < l.product → Keeps (net_of l.net) (shown_plan l.plan) (λ k. QualityOver j k)

abbrev pub invariant-loop-product-2 : goal.invariant-loop-product-2
invariant-loop-product-2 l = (j : ℕ) → j < l.product → Keeps (net_of l.net) (shown_plan l.plan) (λ k. QualityUnder j k)
