use Rattle.std.proofs.Common.{◌≡◌}
use Rattle.integers.specs.Numbers.{tabulate}
use Rattle.pool_model.specs.Network.{net_of}
use Rattle.row_model.specs.Variables.{by_number}
use Rattle.plan_core.specs.Views.{shown_plan}
use Rattle.tight_leaf.specs.PlanPoints.{plan_values}
use Rattle.tight_leaf.proofs.plan_point.plan_point.Given as goal

abbrev pub invariant-loop-var : goal.invariant-loop-var
invariant-loop-var l = l.values.items ≡ tabulate (by_number (net_of l.net) (plan_values (net_of l.net) (shown_plan l.plan))) l.var
