use Rattle.std.proofs.Common.{◌++◌}
use Rattle.std.proofs.lemmas.Result.{err_from_is_err_and}
use Rattle.edge_io.proofs.Writes.{front-first, front-second, wrote-three}
use Rattle.pool_model.specs.Network.{net_of}
use Rattle.pool_model.specs.Plan.{plan_of}
use Rattle.plan_core.specs.Views.{shown_plan}
use Rattle.pool_report.specs.Report.{flow_lines, quality_lines, slack_lines}
use Rattle.pool_report.proofs.writing.write_plan.Goals as goal

pub returns-in_err-write_flows-clause-wrote : goal.returns-in_err-write_flows-clause-wrote
returns-in_err-write_flows-clause-wrote g c =
    let n = net_of c.args.net.now in
    let plan = plan_of n (shown_plan c.args.plan.now) in
    let p = err_from_is_err_and c.from_residual.result c.from_residual.ensures.1 in
    rw p.1 (front-first (g.K.Sink.taken c.args.out.now) (flow_lines c.args.net.now plan)
    (quality_lines c.args.net.now plan ++ slack_lines c.args.net.now plan) (g.K.Sink.taken c.write_flows.new.out) c.in_err-write_flows.ensures.wrote)

pub returns-in_err-write_means-clause-wrote : goal.returns-in_err-write_means-clause-wrote
returns-in_err-write_means-clause-wrote g c =
    let n = net_of c.args.net.now in
    let plan = plan_of n (shown_plan c.args.plan.now) in
    let p = err_from_is_err_and c.from_residual-in_err-write_means.result c.from_residual-in_err-write_means.ensures.1 in
    rw p.1 (front-second (g.K.Sink.taken c.args.out.now) (flow_lines c.args.net.now plan) (g.K.Sink.taken c.write_flows.new.out)
    (quality_lines c.args.net.now plan) (slack_lines c.args.net.now plan) (g.K.Sink.taken c.write_means.new.out)
    c.in_ok-write_flows.ensures.wrote c.in_err-write_means.ensures.wrote)

pub returns-clause-wrote : goal.returns-clause-wrote
returns-clause-wrote g c =
    let n = net_of c.args.net.now in
    let plan = plan_of n (shown_plan c.args.plan.now) in
    wrote-three c.write_slacks.result (g.K.Sink.taken c.args.out.now) (flow_lines c.args.net.now plan) (g.K.Sink.taken c.write_flows.new.out)
    (quality_lines c.args.net.now plan) (g.K.Sink.taken c.write_means.new.out) (slack_lines c.args.net.now plan)
    (g.K.Sink.taken c.write_slacks.new.out) c.in_ok-write_flows.ensures.wrote c.in_ok-write_means.ensures.wrote c.write_slacks.ensures.wrote
