use Rattle.std.proofs.Common.{◌≡◌, arith, refl, subst, sym, ap, unsigned_abs, to_z, ◌∙◌}
use mir.Syntax.{w128}
use Rattle.std.proofs.lemmas.Int.{ints}
use Rattle.integers.specs.Divisors.{IsCoprime}
use Rattle.exact_num.proofs.Signs.{LeavesRange-signed}
use Rattle.exact_num.proofs.frac.making.pack.Goals as goal
use Rattle.exact_num.proofs.frac.making.pack.Goals.{then-num-gt-MOST-via-then-num-gt-MOST, then-num-gt-MOST-via-else-num-gt-MOST+then-den-gt-MOST, then-negative, else-negative}

pub returns-then-num-gt-MOST-clause-wide : goal.returns-then-num-gt-MOST-clause-wide
returns-then-num-gt-MOST-clause-wide c = (
  refl,
  LeavesRange-signed c.args.negative c.args.num c.args.den c.requires.lowest
      (elim c.then-num-gt-MOST.branch [
        | then-num-gt-MOST-via-then-num-gt-MOST w ↦
            (λ p q. absurd (omega arith))
        | then-num-gt-MOST-via-else-num-gt-MOST+then-den-gt-MOST w ↦ (λ p q. absurd (omega arith))
      ]),
)

pub invariant_of-result : goal.invariant_of-result
invariant_of-result c =
    let signed_as : unsigned_abs c.if-negative.num ≡ c.args.num = elim c.if-negative.branch [ then-negative w ↦ omega (arith, ints) | else-negative w ↦ omega (arith, ints) ] in
    let size : unsigned_abs (to_z w128 c.if-negative.num-bits) ≡ c.args.num = ap unsigned_abs c.if-negative.num-is ∙ signed_as in
    record {
      short_num = rw size (omega (arith, c.if-num-gt-MOST.false));
      short_den = omega (arith, c.if-den-gt-MOST.false);
      positive = c.requires.positive;
      lowest = subst (λ n. IsCoprime n c.args.den) (sym size) c.requires.lowest;
    }
