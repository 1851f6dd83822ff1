use Rattle.std.proofs.Common.{◌≡◌}
use Rattle.integers.specs.Numbers.{tabulate}
use Rattle.pool_model.specs.Network.{net_of}
use Rattle.plan_core.specs.Views.{shown_plan}
use Rattle.program_points.specs.Written.{written_path_flow}
use Rattle.program_points.proofs.flows.path_flows.Given as goal

abbrev pub invariant-loop-path : goal.invariant-loop-path
invariant-loop-path l = l.flows.items ≡ tabulate (written_path_flow (net_of l.net) (shown_plan l.plan)) l.path
