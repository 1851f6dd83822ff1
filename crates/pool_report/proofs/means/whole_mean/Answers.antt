use Rattle.std.proofs.Common.{◌≡◌, ◌*◌, FitsSigned, unsigned_abs, rules, ap, ◌∙◌}
use Rattle.std.proofs.lemmas.Int.{to_z-of_z}
use mir.Syntax.{w128}
use Rattle.pool_model.specs.Network.{net_of}
use Rattle.pool_model.specs.Plan.{plan_of, product_inflow}
use Rattle.plan_core.specs.Views.{shown_plan}
use Rattle.pool_report.proofs.MeanRounding.{mean_is}
use Rattle.pool_report.proofs.means.whole_mean.Goals as goal

pub returns : goal.returns
returns c =
    let n = net_of c.args.net.now in
    let plan = plan_of n (shown_plan c.args.plan.now) in
    let is = c.mean-quality.ensures in
    let fits_quality : FitsSigned w128 c.mean-quality.result.0 = search rules in
    let fits_inflow : FitsSigned w128 c.mean-quality.result.1 = search rules in
    let fits : FitsSigned w128 c.rounded_down.result = search rules in
    let inflow : c.unsigned_abs.result ≡ n.scale * product_inflow n plan c.args.product = (simp to_z-of_z at c.unsigned_abs.ensures.value) ∙ ap unsigned_abs is.inflow in
    to_z-of_z w128 c.rounded_down.result fits ∙ (simp to_z-of_z at c.rounded_down.ensures)
    ∙ mean_is n plan c.args.product c.args.quality c.mean-quality.result.0 c.mean-quality.result.1 c.unsigned_abs.result is inflow
