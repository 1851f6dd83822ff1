use Rattle.std.proofs.Common.{◌≡◌, ◌∙◌, unsigned_abs, FitsSigned, arith, rules, ap, to_z}
use Rattle.std.proofs.lemmas.Int.{ints, to_z-of_z}
use Rattle.integers.proofs.Divides.{IsCoprime-swap}
use Rattle.exact_num.proofs.Signs.{positive-size}
use Rattle.exact_num.proofs.frac.Frac.inverse.Goals as goal
use Rattle.exact_num.proofs.frac.Frac.inverse.Goals.{then-self-lt0, else-self-lt0}
use mir.Syntax.{w128}

pub invariant_of-result : goal.invariant_of-result
invariant_of-result c =
    let fits : FitsSigned w128 c.args.self.num = search rules in
    let short = c.args.self.short_den in
    let signed_as : unsigned_abs c.if-self-lt0.result ≡ c.args.self.den = elim c.if-self-lt0.branch [ then-self-lt0 w ↦ omega (arith, ints) | else-self-lt0 w ↦ omega (arith, ints) ] in
    let num : unsigned_abs (to_z w128 c.if-self-lt0.result-bits) ≡ c.args.self.den = ap unsigned_abs c.if-self-lt0.result-is ∙ signed_as in
    let den = simp to_z-of_z at c.unsigned_abs.ensures.value in
    record {
      short_num = rw num c.args.self.short_den;
      short_den = rw den c.args.self.short_num;
      positive = rw den (positive-size c.args.self.num c.requires);
      lowest = rw (num, den) (IsCoprime-swap (unsigned_abs c.args.self.num) c.args.self.den c.args.self.lowest);
    }
