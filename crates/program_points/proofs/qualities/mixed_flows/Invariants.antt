use Rattle.std.proofs.Common.{◌≡◌}
use Rattle.integers.specs.Numbers.{tabulate}
use Rattle.pool_model.specs.Network.{net_of}
use Rattle.plan_core.specs.Views.{shown_plan}
use Rattle.program_points.specs.Written.{mixed_of}
use Rattle.program_points.proofs.qualities.mixed_flows.Given as goal

abbrev pub invariant-loop-number : goal.invariant-loop-number
invariant-loop-number l = l.mixed.items ≡ tabulate (mixed_of (net_of l.net) (shown_plan l.plan)) l.number
