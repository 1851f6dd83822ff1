use Rattle.std.proofs.Common.{◌<◌, arith}
use Rattle.std.proofs.lemmas.Result.{err_from_is_err_and}
use Rattle.edge_io.proofs.Counting.{grows-then}
use Rattle.pool_model.specs.Network.{net_of}
use Rattle.pool_model.specs.Plan.{plan_of}
use Rattle.plan_core.specs.Views.{shown_plan}
use Rattle.text_pieces.proofs.Each.{front-each, more-each}
use Rattle.pool_report.specs.Lines.{mean_line}
use Rattle.pool_report.proofs.means.write_each_mean.Goals as goal

pub returns-in_err-write_mean-clause-wrote : goal.returns-in_err-write_mean-clause-wrote
returns-in_err-write_mean-clause-wrote g c =
    let n = net_of c.args.net.now in
    let plan = plan_of n (shown_plan c.args.plan.now) in
    let among : c.loop-quality.quality < n.qualities = omega (arith, c.sizes-counts.ensures.counts.qualities) in
    let p = err_from_is_err_and c.from_residual.result c.from_residual.ensures.1 in
    rw p.1 (front-each (mean_line c.args.net.now plan c.args.product) c.loop-quality.quality n.qualities (g.K.Sink.taken c.args.out.now) (g.K.Sink.taken c.loop-quality.out)
    (g.K.Sink.taken c.write_mean.new.out) among c.loop-quality.invariant.0 c.in_err-write_mean.ensures.wrote)

pub loop-quality-preserved : goal.loop-quality-preserved
loop-quality-preserved g c = (
  more-each (mean_line c.args.net.now (plan_of (net_of c.args.net.now) (shown_plan c.args.plan.now)) c.args.product) c.loop-quality.quality
      (g.K.Sink.taken c.args.out.now) (g.K.Sink.taken c.loop-quality.out)
      (g.K.Sink.taken c.write_mean.new.out) c.loop-quality.invariant.0 c.in_ok-write_mean.ensures.wrote,
  grows-then (g.K.Sink.faults c.args.out.now) (g.K.Sink.faults c.loop-quality.out) (g.K.Sink.faults c.write_mean.new.out) c.loop-quality.invariant.1 c.write_mean.ensures.faults_grow,
)
