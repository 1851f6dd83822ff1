use Rattle.std.proofs.Common.{FitsSigned, rules}
use Rattle.std.proofs.lemmas.Int.{to_z-of_z}
use mir.Syntax.{w128}
use Rattle.relaxation_points.proofs.judging.is_within.Goals as goal

pub returns-then-is_not_below : goal.returns-then-is_not_below
returns-then-is_not_below c =
    let low : FitsSigned w128 c.args.low = search rules in
    let high : FitsSigned w128 c.args.high = search rules in
    let value : FitsSigned w128 c.args.value = search rules in
    let base : FitsSigned w128 c.args.base = search rules in
    let first = simp to_z-of_z at c.is_not_below.ensures in
    let second = simp to_z-of_z at c.is_not_above.ensures in
    (λ t. (first.0 c.if-is_not_below.true, second.0 t), λ h. second.1 h.1)
