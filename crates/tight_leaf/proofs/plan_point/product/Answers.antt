use Rattle.std.proofs.Common.{◌*ℤ◌, ◌<◌, ◌^◌, unsigned_abs, FitsSigned, rules, arith}
use Rattle.std.proofs.lemmas.Int.{to_z-of_z}
use mir.Syntax.{w128}
use Rattle.integers.proofs.Order.{abs-mul-le}
use Rattle.exact_pivots.proofs.Memory.{read_is}
use Rattle.tight_leaf.proofs.plan_point.product.Goals as goal

pub returns : goal.returns
returns c =
    let a : FitsSigned w128 c.args.a = search rules in
    let b : FitsSigned w128 c.args.b = search rules in
    let small : unsigned_abs (c.args.a *ℤ c.args.b) < 2 ^ 127 =
    omega (arith, abs-mul-le c.args.a c.args.b (2 ^ 66) (2 ^ 56) c.requires.first c.requires.second) in
    simp to_z-of_z (read_is (c.args.a *ℤ c.args.b) small)
