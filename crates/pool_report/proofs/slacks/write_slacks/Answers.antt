use Rattle.std.proofs.Common.{◌++◌}
use Rattle.std.proofs.lemmas.Result.{err_from_is_err_and}
use Rattle.edge_io.proofs.Writes.{front-first, wrote-three}
use Rattle.pool_model.specs.Network.{net_of}
use Rattle.pool_model.specs.Plan.{plan_of}
use Rattle.plan_core.specs.Views.{shown_plan}
use Rattle.text_pieces.specs.Pieces.{each_below}
use Rattle.pool_report.specs.Lines.{source_slack_line, pool_slack_line, product_slack_line}
use Rattle.pool_report.proofs.slacks.write_slacks.Goals as goal

pub returns-in_err-write_sources-clause-wrote : goal.returns-in_err-write_sources-clause-wrote
returns-in_err-write_sources-clause-wrote g c =
    let n = net_of c.args.net.now in
    let plan = plan_of n (shown_plan c.args.plan.now) in
    let p = err_from_is_err_and c.from_residual.result c.from_residual.ensures.1 in
    rw p.1 (front-first (g.K.Sink.taken c.args.out.now) (each_below (source_slack_line c.args.net.now plan) n.sources)
    (each_below (pool_slack_line c.args.net.now plan) n.pools ++ each_below (product_slack_line c.args.net.now plan) n.products)
    (g.K.Sink.taken c.write_sources.new.out) c.in_err-write_sources.ensures.wrote)

pub returns-clause-wrote : goal.returns-clause-wrote
returns-clause-wrote g c =
    let n = net_of c.args.net.now in
    let plan = plan_of n (shown_plan c.args.plan.now) in
    wrote-three c.write_products.result (g.K.Sink.taken c.args.out.now) (each_below (source_slack_line c.args.net.now plan) n.sources)
    (g.K.Sink.taken c.write_sources.new.out) (each_below (pool_slack_line c.args.net.now plan) n.pools) (g.K.Sink.taken c.write_pools.new.out)
    (each_below (product_slack_line c.args.net.now plan) n.products)
    (g.K.Sink.taken c.write_products.new.out) c.in_ok-write_sources.ensures.wrote c.in_ok-write_pools.ensures.wrote c.write_products.ensures.wrote
