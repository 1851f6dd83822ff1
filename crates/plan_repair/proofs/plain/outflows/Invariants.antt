use Rattle.std.proofs.Common.{◌≡◌, ◌/◌}
use Rattle.integers.specs.Numbers.{tabulate}
use Rattle.pool_model.specs.Network.{net_of}
use Rattle.plan_repair.specs.PlainPlan.{out_flow, parts}
use Rattle.plan_repair.proofs.plain.outflows.Given as goal

abbrev pub invariant-loop-out : goal.invariant-loop-out
invariant-loop-out l = l.flows.items ≡ tabulate (λ o. out_flow (net_of l.net) l.point o / parts) l.out
