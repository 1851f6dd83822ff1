use Rattle.std.proofs.Common.{◌≡◌, ◌<◌, arith, true, sym, ◌∙◌}
use Rattle.pool_model.specs.Network.{net_of}
use Rattle.plan_repair.specs.PlainPlan.{feed_flow, goes_before}
use Rattle.plan_repair.proofs.Leading.{goes_before-is, led}
use Rattle.plan_repair.proofs.weights.leads.Goals as goal

pub returns-then-goes_before : goal.returns-then-goes_before
returns-then-goes_before c =
    let n = net_of c.args.net.now in
    let flow = feed_flow n c.args.point.now in
    let other = c.loop-other.other in
    let feed = c.args.feed in
    let among : other < n.feeds = omega (arith, c.loop-other-test.true, c.sizes-counts.ensures.counts.feeds) in
    let same : n.feed_pool other ≡ n.feed_pool feed = sym c.feed-its_pool.ensures.pool ∙ c.if-its_pool-pool.true ∙ c.feed-pool.ensures.pool in
    let before : goes_before flow other feed ≡ true =
    goes_before-is flow other feed c.feed_flow.result c.feed_flow-flow.result c.goes_before.result c.feed_flow.ensures.value
    c.feed_flow-flow.ensures.value c.goes_before.ensures c.if-goes_before.true in
    sym (led n.feed_pool flow other feed n.feeds among same before)
