use Rattle.std.proofs.Common.{◌≡◌, ◌^◌, ◌+◌, ◌*◌, arith, refl, ap, ◌∙◌}
use Rattle.integers.specs.Sums.{sum_at}
use Rattle.pool_model.specs.Network.{net_of}
use Rattle.pool_model.specs.Plan.{weight, written_outflow, plan_of}
use Rattle.plan_core.specs.Views.{shown_plan}
use Rattle.plan_core.proofs.Tables.{nothing, more, first_more}
use Rattle.plan_core.proofs.sums.source_outflows.Goals as goal

pub loop-feed-init : goal.loop-feed-init
loop-feed-init c = record { long = refl; exact = λ i lt. nothing 64 i; size = λ i. omega (arith, nothing 64 i) }

pub loop-feed-preserved : goal.loop-feed-preserved
loop-feed-preserved c =
    let n = net_of c.args.net.now in
    let w = shown_plan c.args.plan.now in
    let feed = c.loop-feed.feed in
    let flow : c.whole_feed.result ≡ (plan_of n w).feed feed = c.whole_feed.ensures.flow
    ∙ ap (λ z. weight w feed * z) (c.requires.pools c.feed-source.result.1 c.feed-source.ensures.known_pool ∙ ap (written_outflow n w) c.feed-source.ensures.pool) in
    first_more n.feed_source (plan_of n w).feed feed c.feed-source.result.0 n.sources 64 (2 ^ 104 * feed) (2 ^ 104 * (feed + 1)) c.whole_feed.result (2 ^ 104) c.loop-feed.flows c.loop-feed.invariant
    c.feed-source.ensures.source c.feed-source.ensures.known_source c.sizes-counts.ensures.limited.sources flow (omega (arith, c.whole_feed.ensures.size)) (omega arith)

pub loop-direct-preserved : goal.loop-direct-preserved
loop-direct-preserved c =
    let n = net_of c.args.net.now in
    let p = plan_of n (shown_plan c.args.plan.now) in
    let direct = c.loop-direct.direct in
    more n.direct_source p.direct (λ i. sum_at n.feed_source i p.feed n.feeds) direct c.direct-source.result.0 n.sources 64 (2 ^ 104 * 256 + 2 ^ 96 * direct) (2 ^ 104 * 256 + 2 ^ 96 * (direct + 1))
    c.whole_direct.result (2 ^ 96) c.loop-direct.flows c.loop-direct.invariant c.direct-source.ensures.source c.direct-source.ensures.known_source c.sizes-counts.ensures.limited.sources
    c.whole_direct.ensures.flow (omega (arith, c.whole_direct.ensures.size)) (omega arith)
