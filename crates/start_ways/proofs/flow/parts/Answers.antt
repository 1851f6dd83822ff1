use Rattle.std.proofs.Common.{◌≤◌, ◌*◌, ◌^◌, ◌*ℤ◌, unsigned_abs, FitsSigned, arith, refl, rules}
use Rattle.std.proofs.lemmas.Int.{ints, to_z-of_z}
use mir.Syntax.{w64}
use Rattle.integers.proofs.Order.{abs-mul-le}
use Rattle.start_ways.proofs.flow.parts.Goals as goal

pub returns-clause-value : goal.returns-clause-value
returns-clause-value c =
    let count : FitsSigned w64 c.args.count = search rules in
    let amount : FitsSigned w64 c.args.amount = search rules in
    let small = abs-mul-le c.args.count c.args.amount 1000 (10 ^ 11) c.requires.count c.requires.amount in
    let product : FitsSigned w64 (c.args.count *ℤ c.args.amount) = omega (arith, ints, small) in
    simp to_z-of_z refl

pub returns-clause-size : goal.returns-clause-size
returns-clause-size c =
    let count : FitsSigned w64 c.args.count = search rules in
    let amount : FitsSigned w64 c.args.amount = search rules in
    let small = abs-mul-le c.args.count c.args.amount 1000 (10 ^ 11) c.requires.count c.requires.amount in
    let product : FitsSigned w64 (c.args.count *ℤ c.args.amount) = omega (arith, ints, small) in
    simp to_z-of_z (omega (arith, small))
