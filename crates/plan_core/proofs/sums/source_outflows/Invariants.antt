use Rattle.std.proofs.Common.{◌^◌, ◌+◌, ◌*◌}
use Rattle.integers.specs.Sums.{sum_at}
use Rattle.pool_model.specs.Network.{net_of}
use Rattle.pool_model.specs.Plan.{plan_of}
use Rattle.plan_core.specs.Views.{shown_plan}
use Rattle.plan_core.proofs.Tables.{IsTable}
use Rattle.plan_core.proofs.sums.source_outflows.Given as goal

abbrev pub invariant-loop-feed : goal.invariant-loop-feed
invariant-loop-feed l =
    let n = net_of l.net in
    IsTable 64 n.sources (λ i. sum_at n.feed_source i (plan_of n (shown_plan l.plan)).feed l.feed) (2 ^ 104 * l.feed) l.flows

abbrev pub invariant-loop-direct : goal.invariant-loop-direct
invariant-loop-direct l =
    let n = net_of l.net in
    let p = plan_of n (shown_plan l.plan) in
    IsTable 64 n.sources (λ i. sum_at n.feed_source i p.feed n.feeds + sum_at n.direct_source i p.direct l.direct) (2 ^ 104 * 256 + 2 ^ 96 * l.direct) l.flows
