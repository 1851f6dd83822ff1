use Rattle.std.proofs.Common.{FitsSigned, w64, sym, arith}
use Rattle.std.proofs.lemmas.Int.{ints, to_z-of_z}
use mir.Syntax.{w128}
use Rattle.blend_network.proofs.network.narrow.narrowed_limit.Goals as goal

pub overflow_cast-result : goal.overflow_cast-result
overflow_cast-result c =
    let k = c.requires c.in-Some.limit c.in-Some.is in
    omega (arith, ints, k.0, k.1)

pub returns-in-Some : goal.returns-in-Some
returns-in-Some c =
    let k = c.requires c.in-Some.limit c.in-Some.is in
    let narrow : FitsSigned w64 c.in-Some.limit = omega (arith, ints, k.0, k.1) in
    let wide : FitsSigned w128 c.in-Some.limit = omega (arith, ints, k.0, k.1) in
    simp to_z-of_z (sym c.in-Some.is)
