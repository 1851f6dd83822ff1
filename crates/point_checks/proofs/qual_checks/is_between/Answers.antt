use Rattle.std.proofs.Common.{ℕ, ◌+◌, ◌*◌, get_or, pos, FitsSigned, rules, ap, ◌∙◌}
use mir.Syntax.{w64, w128}
use Rattle.std.proofs.lemmas.Int.{to_z-of_z}
use Rattle.pool_model.specs.Network.{net_of}
use Rattle.point_checks.proofs.QualPoints.{between-same}
use Rattle.point_checks.proofs.qual_checks.is_between.Goals as goal

pub returns : goal.returns
returns c =
    let n = net_of c.args.net.now in
    let s = c.args.point.now in
    let l = c.args.pool in
    let k = c.args.quality in
    let held = get_or s.quals.now c.cell.result (pos 0) in
    let held_fits : FitsSigned w128 held = search rules in
    let low_fits : FitsSigned w64 c.root_ends-low.result.0 = search rules in
    let high_fits : FitsSigned w64 c.root_ends-low.result.1 = search rules in
    between-same n s l k c.is_within_ends.result _ _ _
    (to_z-of_z w128 held held_fits ∙ ap (λ (i : ℕ). get_or s.quals.now i (pos 0)) (c.cell.ensures.place ∙ ap (λ w. l * w + k) c.sizes-counts.ensures.counts.qualities))
    (to_z-of_z w64 c.root_ends-low.result.0 low_fits ∙ c.root_ends-low.ensures.low)
    (to_z-of_z w64 c.root_ends-low.result.1 high_fits ∙ c.root_ends-low.ensures.high)
    c.is_within_ends.ensures
