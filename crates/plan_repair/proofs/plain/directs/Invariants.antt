use Rattle.std.proofs.Common.{◌≡◌, ◌/◌}
use Rattle.integers.specs.Numbers.{tabulate}
use Rattle.pool_model.specs.Network.{net_of}
use Rattle.plan_repair.specs.PlainPlan.{direct_flow, parts}
use Rattle.plan_repair.proofs.plain.directs.Given as goal

abbrev pub invariant-loop-direct : goal.invariant-loop-direct
invariant-loop-direct l = l.flows.items ≡ tabulate (λ e. direct_flow (net_of l.net) l.point e / parts) l.direct
