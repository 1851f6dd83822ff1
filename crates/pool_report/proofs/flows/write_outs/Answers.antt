use Rattle.std.proofs.Common.{◌<◌, arith}
use Rattle.std.proofs.lemmas.Result.{err_from_is_err_and}
use Rattle.edge_io.proofs.Counting.{grows-then}
use Rattle.pool_model.specs.Network.{net_of}
use Rattle.pool_model.specs.Plan.{plan_of}
use Rattle.plan_core.specs.Views.{shown_plan}
use Rattle.text_pieces.proofs.Each.{front-each, more-each}
use Rattle.pool_report.specs.Lines.{out_line}
use Rattle.pool_report.proofs.flows.write_outs.Goals as goal

pub returns-in_err-write_out-clause-wrote : goal.returns-in_err-write_out-clause-wrote
returns-in_err-write_out-clause-wrote g c =
    let n = net_of c.args.net.now in
    let plan = plan_of n (shown_plan c.args.plan.now) in
    let among : c.loop-arc.arc < n.outs = omega (arith, c.sizes-counts.ensures.counts.outs) in
    let p = err_from_is_err_and c.from_residual.result c.from_residual.ensures.1 in
    rw p.1 (front-each (out_line c.args.net.now plan) c.loop-arc.arc n.outs (g.K.Sink.taken c.args.out.now) (g.K.Sink.taken c.loop-arc.out)
    (g.K.Sink.taken c.write_out.new.out) among c.loop-arc.invariant.0 c.in_err-write_out.ensures.wrote)

pub loop-arc-preserved : goal.loop-arc-preserved
loop-arc-preserved g c = (
  more-each (out_line c.args.net.now (plan_of (net_of c.args.net.now) (shown_plan c.args.plan.now))) c.loop-arc.arc (g.K.Sink.taken c.args.out.now) (g.K.Sink.taken c.loop-arc.out)
      (g.K.Sink.taken c.write_out.new.out) c.loop-arc.invariant.0 c.in_ok-write_out.ensures.wrote,
  grows-then (g.K.Sink.faults c.args.out.now) (g.K.Sink.faults c.loop-arc.out) (g.K.Sink.faults c.write_out.new.out) c.loop-arc.invariant.1 c.write_out.ensures.faults_grow,
)
