use Rattle.std.proofs.Common.{◌≡◌, pos, ◌-ℤ◌, unsigned_abs, FitsSigned, arith, rules, subst, sym, to_z, of_z}
use Rattle.std.proofs.lemmas.Int.{ints}
use Rattle.integers.specs.Divisors.{IsCoprime}
use Rattle.exact_num.proofs.frac.Frac.negated.Goals as goal
use mir.Syntax.{w128}

pub invariant_of-result : goal.invariant_of-result
invariant_of-result c =
    let fits : FitsSigned w128 c.args.self.num = search rules in
    let short = c.args.self.short_num in
    let size : unsigned_abs (to_z w128 (of_z w128 (pos 0 -ℤ to_z w128 (of_z w128 c.args.self.num)))) ≡ unsigned_abs c.args.self.num = omega (arith, ints) in
    record {
      short_num = rw size c.args.self.short_num;
      short_den = c.args.self.short_den;
      positive = c.args.self.positive;
      lowest = subst (λ n. IsCoprime n c.args.self.den) (sym size) c.args.self.lowest;
    }
