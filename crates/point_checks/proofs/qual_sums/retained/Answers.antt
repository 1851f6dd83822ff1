use Rattle.std.proofs.Common.{◌≤◌, ◌*◌, ◌^◌, unsigned_abs, FitsSigned, rules, arith, ap, ◌∙◌}
use mir.Syntax.{w64, w128}
use mir.Val.{to_z, of_z}
use Rattle.std.proofs.Math.Nat.{mul-le-mul}
use Rattle.std.proofs.lemmas.Int.{to_z-of_z}
use Rattle.integers.proofs.WideSums.{read-small}
use Rattle.pool_model.specs.Network.{net_of}
use Rattle.point_checks.specs.QualSlices.{seen}
use Rattle.point_checks.proofs.qual_sums.retained.Goals as goal

pub returns-clause-small : goal.returns-clause-small
returns-clause-small c =
    let n = net_of c.args.net.now in
    let flow = (seen n c.args.point.now).out c.args.out in
    let carried : flow ≤ 2 ^ 76 = c.requires.small.outs c.args.out (omega (arith, c.requires.shape.y, c.requires.out)) in
    let narrow : FitsSigned w64 c.retained.result = search rules in
    let parts : unsigned_abs (to_z w64 (of_z w64 c.retained.result)) ≤ 1000 = omega (
      arith,
      ap unsigned_abs (to_z-of_z w64 c.retained.result narrow ∙ c.retained.ensures.value),
      c.retained.ensures.size,
    ) in
    let number = read-small c.mixed.result (10 ^ 11 * flow) c.mixed.ensures.small (omega (arith, carried)) in
    read-small c.parted.result (10 ^ 14 * flow) (omega (arith, c.parted.ensures.size, mul-le-mul parts number)) (omega (arith, carried))
