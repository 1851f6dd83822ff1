use Rattle.std.proofs.Common.{◌≤◌, ap, arith, unsigned_abs, ◌*ℤ◌, ℤ, ◌∙◌, FitsSigned, rules}
use Rattle.std.proofs.lemmas.Int.{to_z-of_z}
use mir.Syntax.{w64}
use Rattle.box_space.proofs.Scaled.{parts-fit}
use Rattle.formulations.proofs.limits.in_parts.Goals as goal

pub overflow_mul-result : goal.overflow_mul-result
overflow_mul-result c =
    let scale : FitsSigned w64 c.scale.result = search rules in
    let limit : FitsSigned w64 c.args.u.limit = search rules in
    let few : unsigned_abs c.scale.result ≤ 1000 = omega (arith, ap unsigned_abs c.scale.ensures.value, c.scale.ensures.size) in
    simp to_z-of_z (parts-fit c.scale.result c.args.u.limit few c.requires)

pub returns : goal.returns
returns c =
    let scale : FitsSigned w64 c.scale.result = search rules in
    let limit : FitsSigned w64 c.args.u.limit = search rules in
    let few : unsigned_abs c.scale.result ≤ 1000 = omega (arith, ap unsigned_abs c.scale.ensures.value, c.scale.ensures.size) in
    let fits = parts-fit c.scale.result c.args.u.limit few c.requires in
    simp to_z-of_z (ap (λ (z : ℤ). z *ℤ c.args.u.limit) c.scale.ensures.value)
