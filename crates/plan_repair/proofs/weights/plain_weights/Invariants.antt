use Rattle.std.proofs.Common.{◌≡◌}
use Rattle.integers.specs.Numbers.{tabulate}
use Rattle.pool_model.specs.Network.{net_of}
use Rattle.plan_repair.specs.PlainPlan.{feed_flow, weight_of}
use Rattle.plan_repair.proofs.weights.plain_weights.Given as goal

abbrev pub invariant-loop-feed : goal.invariant-loop-feed
invariant-loop-feed l = l.weights.items ≡ tabulate (weight_of (net_of l.net) (feed_flow (net_of l.net) l.point)) l.feed
