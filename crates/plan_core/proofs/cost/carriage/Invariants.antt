use Rattle.pool_model.specs.Network.{net_of, arc_cost}
use Rattle.pool_model.specs.Plan.{arc_flow, plan_of}
use Rattle.plan_core.specs.Views.{shown_plan}
use Rattle.plan_core.proofs.Costs.{IsTotal}
use Rattle.plan_core.proofs.cost.carriage.Given as goal

abbrev pub invariant-loop-arc : goal.invariant-loop-arc
invariant-loop-arc l = IsTotal (arc_cost (net_of l.net)) (arc_flow (net_of l.net) (plan_of (net_of l.net) (shown_plan l.plan))) l.arc l.total
