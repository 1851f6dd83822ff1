use Rattle.std.proofs.Common.{pos, ◌*ℤ◌}
use Rattle.integers.specs.Sums.{int_sum_at}
use Rattle.pool_model.specs.Network.{net_of}
use Rattle.pool_model.specs.Plan.{weight}
use Rattle.plan_core.specs.Views.{shown_plan}
use Rattle.plan_core.proofs.Tables.{IsSignedTable}
use Rattle.plan_core.proofs.qualities.pool_qualities.Given as goal

abbrev pub invariant-loop-feed : goal.invariant-loop-feed
invariant-loop-feed l =
    let n = net_of l.net in
    IsSignedTable 16 n.pools (λ i. int_sum_at n.feed_pool i (λ e. n.source_quality (n.feed_source e) l.quality *ℤ pos (weight (shown_plan l.plan) e)) l.feed) l.sums
