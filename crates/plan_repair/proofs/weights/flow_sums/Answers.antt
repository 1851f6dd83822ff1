use Rattle.std.proofs.Common.{◌<◌, ◌^◌, ◌+◌, ◌*◌, ◌∙◌, get_or, length, arith, ap, length-set}
use Rattle.pool_model.specs.Network.{net_of}
use Rattle.plan_core.proofs.Tables.{added_first, added_size}
use Rattle.plan_repair.specs.PlainPlan.{feed_flow}
use Rattle.plan_repair.proofs.weights.flow_sums.Goals as goal

pub loop-feed-preserved : goal.loop-feed-preserved
loop-feed-preserved c =
    let n = net_of c.args.net.now in
    let arc = c.loop-feed.feed in
    let at = c.feed-pool.result.1 in
    let table = c.loop-feed.sums in
    let limited = c.sizes-counts.ensures.limited in
    let among : arc < n.feeds = omega (arith, c.loop-feed-test.true, c.sizes-counts.ensures.counts.feeds) in
    let within : at < length table = omega (arith, c.feed-pool.ensures.pool, limited.feed_pools arc among, limited.pools, c.loop-feed.invariant.long) in
    record {
      long = length-set table at _ ∙ c.loop-feed.invariant.long;
      exact = added_first n.feed_pool (feed_flow n c.args.point.now) arc at _ n.pools table within c.feed-pool.ensures.pool
          c.loop-feed.invariant.exact (ap (λ z. get_or table at 0 + z) c.feed_flow.ensures.value);
      size = λ i. omega (
        arith,
        added_size at (get_or table at 0 + c.feed_flow.result) (2 ^ 95 * arc) (2 ^ 95) c.feed_flow.result table within c.loop-feed.invariant.size (omega arith) c.feed_flow.ensures.size i,
      );
    }
