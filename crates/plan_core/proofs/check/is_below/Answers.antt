use Rattle.std.proofs.Common.{◌≡◌, ◌≤◌, ◌^◌, unsigned_abs, FitsSigned, arith, ap, rules}
use Rattle.std.proofs.Math.Nat.{mul-le-mul}
use Rattle.std.proofs.lemmas.Int.{to_z-of_z}
use mir.Syntax.{w64, w128}
use Rattle.plan_core.proofs.Supply.{abs-within}
use Rattle.plan_core.proofs.check.is_below.Goals as goal

pub weighted-requires-clause-size : goal.weighted-requires-clause-size
weighted-requires-clause-size c =
    let limit = c.in-Some.least in
    let narrow : FitsSigned w64 limit = search rules in
    let wide : FitsSigned w128 c.from.result = search rules in
    let parts : FitsSigned w128 c.in_parts.result = search rules in
    let is : c.from.result ≡ limit = simp to_z-of_z at c.from.ensures in
    let few = abs-within (10 ^ 11) limit c.in-Some.ensures.size in
    let small : unsigned_abs c.in_parts.result ≤ 10 ^ 14 = omega (arith, simp to_z-of_z at c.in_parts.ensures.size, ap unsigned_abs is, few) in
    simp to_z-of_z (omega (arith, mul-le-mul small c.requires.inflow))
