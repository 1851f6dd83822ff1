use Rattle.std.proofs.Common.{FitsSigned, rules}
use Rattle.std.proofs.lemmas.Int.{to_z-of_z}
use Rattle.std.proofs.lemmas.Result.{err_from_is_err_and}
use mir.Syntax.{w128}
use Rattle.edge_io.proofs.Writes.{front-first, wrote-behind}
use Rattle.pool_model.specs.Network.{net_of}
use Rattle.pool_model.specs.Plan.{plan_of}
use Rattle.plan_core.specs.Views.{shown_plan}
use Rattle.pool_report.specs.Lines.{gap_lines}
use Rattle.pool_report.specs.Report.{plan_lines}
use Rattle.pool_report.proofs.writing.put_report.Goals as goal

pub returns-in_err-write_gap-in-Gap-clause-wrote : goal.returns-in_err-write_gap-in-Gap-clause-wrote
returns-in_err-write_gap-in-Gap-clause-wrote g c =
    let claim = c.in-Gap in
    let lines = plan_lines c.args.net.now (plan_of (net_of c.args.net.now) (shown_plan claim.plan)) in
    let fits_cost : FitsSigned w128 c.in-Gap.cost = search rules in
    let fits_bound : FitsSigned w128 c.in-Gap.bound = search rules in
    let fits_gap : FitsSigned w128 c.in-Gap.gap = search rules in
    let p = err_from_is_err_and c.from_residual.result c.from_residual.ensures.1 in
    rw (c.in-Gap.is, p.1) (front-first (g.K.Sink.taken c.args.out.now) (gap_lines claim.cost claim.base claim.bound claim.gap) lines (g.K.Sink.taken c.write_gap.new.out)
    (simp to_z-of_z at c.in_err-write_gap-in-Gap.ensures.wrote))

pub returns-in_ok-write_gap-in-Gap-clause-wrote : goal.returns-in_ok-write_gap-in-Gap-clause-wrote
returns-in_ok-write_gap-in-Gap-clause-wrote g c =
    let claim = c.in-Gap in
    let lines = plan_lines c.args.net.now (plan_of (net_of c.args.net.now) (shown_plan claim.plan)) in
    let fits_cost : FitsSigned w128 c.in-Gap.cost = search rules in
    let fits_bound : FitsSigned w128 c.in-Gap.bound = search rules in
    let fits_gap : FitsSigned w128 c.in-Gap.gap = search rules in
    rw c.in-Gap.is (wrote-behind c.write_plan.result (g.K.Sink.taken c.args.out.now) (gap_lines claim.cost claim.base claim.bound claim.gap) (g.K.Sink.taken c.write_gap.new.out) lines
    (g.K.Sink.taken c.write_plan.new.out) (simp to_z-of_z at c.in_ok-write_gap-in-Gap.ensures.wrote) c.write_plan.ensures.wrote)
