use Rattle.std.proofs.Common.{◌<◌, arith}
use Rattle.std.proofs.lemmas.Result.{err_from_is_err_and}
use Rattle.pool_model.specs.Network.{net_of}
use Rattle.pool_model.specs.Plan.{plan_of}
use Rattle.plan_core.specs.Views.{shown_plan}
use Rattle.text_pieces.proofs.Each.{front-each}
use Rattle.pool_report.specs.Lines.{source_slack_line}
use Rattle.pool_report.proofs.slacks.write_sources.Goals as goal

pub returns-in_err-write_source-clause-wrote : goal.returns-in_err-write_source-clause-wrote
returns-in_err-write_source-clause-wrote g c =
    let n = net_of c.args.net.now in
    let plan = plan_of n (shown_plan c.args.plan.now) in
    let among : c.loop-source.source < n.sources = omega (arith, c.sizes-counts.ensures.counts.sources) in
    let p = err_from_is_err_and c.from_residual.result c.from_residual.ensures.1 in
    rw p.1 (front-each (source_slack_line c.args.net.now plan) c.loop-source.source n.sources (g.K.Sink.taken c.args.out.now) (g.K.Sink.taken c.loop-source.out)
    (g.K.Sink.taken c.write_source.new.out) among c.loop-source.invariant.0 c.in_err-write_source.ensures.wrote)
