use Rattle.std.proofs.Common.{◌≡◌, ◌∙◌, pos, ◌-ℤ◌, neg_ℤ, FitsSigned, arith, rules, to_z, of_z}
use Rattle.std.proofs.lemmas.Int.{ints, to_z-of_z}
use mir.Syntax.{w128}
use Rattle.tight_leaf.proofs.EndFactors.{negative-is, negative-never_refused}
use Rattle.tight_leaf.proofs.proof.negative.Goals as goal

pub returns : goal.returns
returns c =
    let num : FitsSigned w128 c.num.result = search rules in
    let den : FitsSigned w128 c.den.result = search rules in
    let short = c.args.fraction.short_num in
    let num_is : to_z w128 (of_z w128 (pos 0 -ℤ to_z w128 (of_z w128 c.num.result))) ≡ neg_ℤ c.args.fraction.num = omega (arith, ints) in
    negative-is c.in-Ok.opposite c.args.fraction (to_z w128 (of_z w128 (pos 0 -ℤ to_z w128 (of_z w128 c.num.result)))) (to_z w128 (of_z w128 c.den.result))
    num_is (to_z-of_z w128 c.den.result den ∙ c.den.ensures) c.in-Ok.ensures.same

pub unreachable-requires : goal.unreachable-requires
unreachable-requires c =
    let num : FitsSigned w128 c.num.result = search rules in
    let den : FitsSigned w128 c.den.result = search rules in
    let short = c.args.fraction.short_num in
    let num_is : to_z w128 (of_z w128 (pos 0 -ℤ to_z w128 (of_z w128 c.num.result))) ≡ neg_ℤ c.args.fraction.num = omega (arith, ints) in
    negative-never_refused c.new.result c.in-Err.field-0 c.args.fraction (to_z w128 (of_z w128 (pos 0 -ℤ to_z w128 (of_z w128 c.num.result)))) (to_z w128 (of_z w128 c.den.result))
    c.in-Err.is num_is (to_z-of_z w128 c.den.result den ∙ c.den.ensures) c.new.ensures.zero_divisor c.new.ensures.wide
