use Rattle.std.proofs.Common.{◌<◌, arith}
use Rattle.std.proofs.lemmas.Result.{err_from_is_err_and}
use Rattle.edge_io.proofs.Counting.{grows-then}
use Rattle.pool_model.specs.Network.{net_of}
use Rattle.pool_model.specs.Plan.{plan_of}
use Rattle.plan_core.specs.Views.{shown_plan}
use Rattle.text_pieces.proofs.Each.{front-each, more-each}
use Rattle.pool_report.specs.Lines.{feed_line}
use Rattle.pool_report.proofs.flows.write_feeds.Goals as goal

pub returns-in_err-write_feed-clause-wrote : goal.returns-in_err-write_feed-clause-wrote
returns-in_err-write_feed-clause-wrote g c =
    let n = net_of c.args.net.now in
    let plan = plan_of n (shown_plan c.args.plan.now) in
    let among : c.loop-feed.feed < n.feeds = omega (arith, c.sizes-counts.ensures.counts.feeds) in
    let p = err_from_is_err_and c.from_residual.result c.from_residual.ensures.1 in
    rw p.1 (front-each (feed_line c.args.net.now plan) c.loop-feed.feed n.feeds (g.K.Sink.taken c.args.out.now) (g.K.Sink.taken c.loop-feed.out)
    (g.K.Sink.taken c.write_feed.new.out) among c.loop-feed.invariant.0 c.in_err-write_feed.ensures.wrote)

pub loop-feed-preserved : goal.loop-feed-preserved
loop-feed-preserved g c = (
  more-each (feed_line c.args.net.now (plan_of (net_of c.args.net.now) (shown_plan c.args.plan.now))) c.loop-feed.feed (g.K.Sink.taken c.args.out.now) (g.K.Sink.taken c.loop-feed.out)
      (g.K.Sink.taken c.write_feed.new.out) c.loop-feed.invariant.0 c.in_ok-write_feed.ensures.wrote,
  grows-then (g.K.Sink.faults c.args.out.now) (g.K.Sink.faults c.loop-feed.out) (g.K.Sink.faults c.write_feed.new.out) c.loop-feed.invariant.1 c.write_feed.ensures.faults_grow,
)
