use Rattle.std.proofs.Common.{◌++◌}
use Rattle.std.proofs.lemmas.Result.{err_from_is_err_and}
use Rattle.edge_io.proofs.Writes.{front-first, front-second, wrote-three}
use Rattle.pool_model.specs.Network.{net_of}
use Rattle.pool_model.specs.Plan.{plan_of}
use Rattle.plan_core.specs.Views.{shown_plan}
use Rattle.text_pieces.specs.Pieces.{each_below}
use Rattle.pool_report.specs.Lines.{feed_line, out_line, direct_line}
use Rattle.pool_report.proofs.flows.write_flows.Goals as goal

pub returns-in_err-write_feeds-clause-wrote : goal.returns-in_err-write_feeds-clause-wrote
returns-in_err-write_feeds-clause-wrote g c =
    let n = net_of c.args.net.now in
    let plan = plan_of n (shown_plan c.args.plan.now) in
    let p = err_from_is_err_and c.from_residual.result c.from_residual.ensures.1 in
    rw p.1 (front-first (g.K.Sink.taken c.args.out.now) (each_below (feed_line c.args.net.now plan) n.feeds)
    (each_below (out_line c.args.net.now plan) n.outs ++ each_below (direct_line c.args.net.now plan) n.directs) (g.K.Sink.taken c.write_feeds.new.out) c.in_err-write_feeds.ensures.wrote)

pub returns-in_err-write_outs-clause-wrote : goal.returns-in_err-write_outs-clause-wrote
returns-in_err-write_outs-clause-wrote g c =
    let n = net_of c.args.net.now in
    let plan = plan_of n (shown_plan c.args.plan.now) in
    let p = err_from_is_err_and c.from_residual-in_err-write_outs.result c.from_residual-in_err-write_outs.ensures.1 in
    rw p.1 (front-second (g.K.Sink.taken c.args.out.now) (each_below (feed_line c.args.net.now plan) n.feeds) (g.K.Sink.taken c.write_feeds.new.out)
    (each_below (out_line c.args.net.now plan) n.outs) (each_below (direct_line c.args.net.now plan) n.directs) (g.K.Sink.taken c.write_outs.new.out)
    c.in_ok-write_feeds.ensures.wrote c.in_err-write_outs.ensures.wrote)

pub returns-clause-wrote : goal.returns-clause-wrote
returns-clause-wrote g c =
    let n = net_of c.args.net.now in
    let plan = plan_of n (shown_plan c.args.plan.now) in
    wrote-three c.write_directs.result (g.K.Sink.taken c.args.out.now) (each_below (feed_line c.args.net.now plan) n.feeds)
    (g.K.Sink.taken c.write_feeds.new.out) (each_below (out_line c.args.net.now plan) n.outs) (g.K.Sink.taken c.write_outs.new.out) (each_below (direct_line c.args.net.now plan) n.directs)
    (g.K.Sink.taken c.write_directs.new.out) c.in_ok-write_feeds.ensures.wrote c.in_ok-write_outs.ensures.wrote c.write_directs.ensures.wrote
