use Rattle.std.proofs.Common.{◌≡◌}
use Rattle.integers.specs.Numbers.{tabulate}
use Rattle.pool_model.specs.Network.{net_of}
use Rattle.pool_model.specs.Plan.{plan_of}
use Rattle.plan_core.specs.Views.{shown_plan}
use Rattle.program_points.proofs.flows.feed_flows.Given as goal

abbrev pub invariant-loop-feed : goal.invariant-loop-feed
invariant-loop-feed l = l.flows.items ≡ tabulate (plan_of (net_of l.net) (shown_plan l.plan)).feed l.feed
