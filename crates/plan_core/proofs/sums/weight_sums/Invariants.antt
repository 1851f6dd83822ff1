use Rattle.std.proofs.Common.{◌^◌, ◌*◌}
use Rattle.integers.specs.Sums.{sum_at}
use Rattle.pool_model.specs.Network.{net_of}
use Rattle.pool_model.specs.Plan.{weight}
use Rattle.plan_core.specs.Views.{shown_plan}
use Rattle.plan_core.proofs.Tables.{IsTable}
use Rattle.plan_core.proofs.sums.weight_sums.Given as goal

abbrev pub invariant-loop-feed : goal.invariant-loop-feed
invariant-loop-feed l = IsTable 16 (net_of l.net).pools (λ i. sum_at (net_of l.net).feed_pool i (weight (shown_plan l.plan)) l.feed) (2 ^ 32 * l.feed) l.sums
