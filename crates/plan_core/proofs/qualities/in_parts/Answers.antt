use Rattle.std.proofs.Common.{◌≡◌, ◌≤◌, ◌*ℤ◌, unsigned_abs, FitsSigned, arith, ap, rules}
use Rattle.std.proofs.lemmas.Int.{ints, to_z-of_z}
use mir.Syntax.{w64, w128}
use Rattle.integers.proofs.Order.{abs-mul-le}
use Rattle.plan_core.proofs.qualities.in_parts.Goals as goal

pub returns-clause-size : goal.returns-clause-size
returns-clause-size c =
    let narrow : FitsSigned w64 c.args.parts = search rules in
    let wide : FitsSigned w128 c.from.result = search rules in
    let number : FitsSigned w128 c.args.number = search rules in
    let is : c.from.result ≡ c.args.parts = simp to_z-of_z at c.from.ensures in
    let few : unsigned_abs c.from.result ≤ 1000 = omega (arith, ap unsigned_abs is, c.requires.parts) in
    let small = abs-mul-le c.from.result c.args.number 1000 (unsigned_abs c.args.number) few (omega arith) in
    let product : FitsSigned w128 (c.from.result *ℤ c.args.number) = omega (arith, ints, small, c.requires.number) in
    simp to_z-of_z (omega (arith, small))
