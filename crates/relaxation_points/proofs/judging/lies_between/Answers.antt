use Rattle.std.proofs.Common.{pos, get_or, FitsSigned, rules, ap}
use Rattle.std.proofs.lemmas.Int.{to_z-of_z}
use mir.Syntax.{w128}
use Rattle.pool_model.specs.Network.{net_of}
use Rattle.box_space.specs.Views.{shown_box}
use Rattle.relaxation_points.specs.Views.{shown_point}
use Rattle.relaxation_points.proofs.Judged.{between-by}
use Rattle.relaxation_points.proofs.judging.lies_between.Goals as goal

pub returns : goal.returns
returns c =
    let low : FitsSigned w128 c.var_ends-low.result.0 = search rules in
    let high : FitsSigned w128 c.var_ends-low.result.1 = search rules in
    let value : FitsSigned w128 (get_or c.as_slice-values.result.now c.args.var (pos 0)) = search rules in
    let base : FitsSigned w128 c.from.result = search rules in
    between-by (net_of c.args.net.now) (shown_box c.args.v.now) (shown_point c.args.point.now) c.args.var _ _ _ _ c.is_within.result
    c.var_ends-low.ensures.low c.var_ends-low.ensures.high (ap (λ xs. get_or xs c.args.var (pos 0)) c.as_slice-values.ensures.value) c.from.ensures (simp to_z-of_z at c.is_within.ensures)
