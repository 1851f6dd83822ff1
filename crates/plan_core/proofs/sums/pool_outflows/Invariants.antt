use Rattle.std.proofs.Common.{◌^◌, ◌*◌}
use Rattle.integers.specs.Sums.{sum_at}
use Rattle.pool_model.specs.Network.{net_of}
use Rattle.pool_model.specs.Plan.{written_out}
use Rattle.plan_core.specs.Views.{shown_plan}
use Rattle.plan_core.proofs.Tables.{IsTable}
use Rattle.plan_core.proofs.sums.pool_outflows.Given as goal

abbrev pub invariant-loop-out : goal.invariant-loop-out
invariant-loop-out l = IsTable 16 (net_of l.net).pools (λ i. sum_at (net_of l.net).out_pool i (written_out (shown_plan l.plan)) l.out) (2 ^ 64 * l.out) l.flows
