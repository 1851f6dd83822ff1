use Rattle.std.proofs.Common.{◌≡◌, ◌*◌, ◌/◌, ◌<◌, ◌∙◌, pos, ◌+ℤ◌, ◌*ℤ◌, unsigned_abs, to_z, of_z, FitsSigned, IfOk, rules, ap, subst, sym}
use Rattle.std.proofs.lemmas.Int.{to_z-of_z}
use Rattle.std.specs.Int.{IsGcd}
use Rattle.exact_num.specs.Fraction.{Fraction, IsSame, IsShortOver, IsShortSum, IsInRange, sum_of}
use Rattle.exact_num.specs.Views.{shown_frac}
use Rattle.exact_num.specs.Signed.{signed_fraction}
use Rattle.exact_num.specs.declared.frac.FracFault.TheVariants as faults
use Rattle.exact_num.proofs.Signs.{signed_fraction-of, positive-quotient}
use Rattle.exact_num.proofs.Cancelling.{positive-product}
use Rattle.exact_num.proofs.Adding.{sum-greatest, sum-same, IsShortSum-from}
use Rattle.exact_num.proofs.Results.{same_as, not_refused, on_ok}
use Rattle.exact_num.proofs.frac.Frac.add.Goals as goal
use Rattle.exact_num.proofs.frac.Frac.add.Goals.{After-short_sum, After-gcd}
use Rattle.std.proofs.lemmas.Result.{err_from_is_err_and}
use lib.Signed.{lt_z}
use mir.Syntax.{w128}

pub returns-in_err-num-clause-wide : goal.returns-in_err-num-clause-wide
returns-in_err-num-clause-wide c =
    let left_fits : FitsSigned w128 c.in_ok-left.left = search rules in
    let right_fits : FitsSigned w128 c.in_ok-right.right = search rules in
    let self_fits : FitsSigned w128 c.args.self.num = search rules in
    let other_fits : FitsSigned w128 c.args.other.num = search rules in
    let left = simp to_z-of_z at c.in_ok-left.ensures.value in
    let right = simp to_z-of_z at c.in_ok-right.ensures.value in
    let wide = rw (left, right) at (simp to_z-of_z at c.in_err-num.ensures.wide) in
    let not_short : ¬ IsShortSum (shown_frac c.args.self) (shown_frac c.args.other) = λ short. wide.1 (short c.gcd-common.result c.gcd-common.ensures).sum in
    let exit = err_from_is_err_and c.from_residual-in_err-num.result c.from_residual-in_err-num.ensures.1 in rw (exit.1, exit.2) (wide.0, not_short)

pub divided-requires-clause-positive : goal.divided-requires-clause-positive
divided-requires-clause-positive c =
    rw c.in_ok-den.ensures.value (positive-product _ _ c.args.self.positive (positive-quotient _ _ _ c.args.other.positive c.gcd-common.ensures))

-- the numerator over the common denominator
sum_is : (c : After-gcd)
    → c.in_ok-num.num ≡ c.args.self.num *ℤ pos (c.args.other.den / c.gcd-common.result) +ℤ c.args.other.num *ℤ pos (c.args.self.den / c.gcd-common.result)
sum_is c =
    let left_fits : FitsSigned w128 c.in_ok-left.left = search rules in
    let right_fits : FitsSigned w128 c.in_ok-right.right = search rules in
    let self_fits : FitsSigned w128 c.args.self.num = search rules in
    let other_fits : FitsSigned w128 c.args.other.num = search rules in
    let left = simp to_z-of_z at c.in_ok-left.ensures.value in
    let right = simp to_z-of_z at c.in_ok-right.ensures.value in
    rw (left, right) at (simp to_z-of_z at c.in_ok-num.ensures.value)

size_is : (c : After-gcd) → c.unsigned_abs-size.result ≡ unsigned_abs c.in_ok-num.num
size_is c = let fits : FitsSigned w128 c.in_ok-num.num = search rules in simp to_z-of_z at c.unsigned_abs-size.ensures.value

pub divided-requires-clause-greatest : goal.divided-requires-clause-greatest
divided-requires-clause-greatest c =
    let size : c.unsigned_abs-size.result ≡ unsigned_abs (c.args.self.num *ℤ pos (c.args.other.den / c.gcd-common.result) +ℤ c.args.other.num *ℤ pos (c.args.self.den / c.gcd-common.result)) =
    size_is c ∙ ap unsigned_abs (sum_is c) in
    let greatest : IsGcd c.unsigned_abs-size.result c.gcd-common.result c.gcd.result = c.gcd.ensures in
    let whole = sum-greatest c.args.self.num c.args.other.num c.args.self.den c.args.other.den c.gcd-common.result c.args.other.positive c.gcd-common.ensures c.gcd.result
    c.args.self.lowest c.args.other.lowest (subst (λ n. IsGcd n c.gcd-common.result c.gcd.result) size greatest) in
    subst (λ n. IsGcd c.unsigned_abs-size.result n c.gcd.result) (sym c.in_ok-den.ensures.value)
    (subst (λ n. IsGcd n (c.args.self.den * (c.args.other.den / c.gcd-common.result)) c.gcd.result) (sym size) whole)

-- each step is short
steps_short : (c : After-gcd) → IsShortOver (shown_frac c.args.self) (shown_frac c.args.other) c.gcd-common.result
steps_short c =
    let left_fits : FitsSigned w128 c.in_ok-left.left = search rules in
    let right_fits : FitsSigned w128 c.in_ok-right.right = search rules in
    let self_fits : FitsSigned w128 c.args.self.num = search rules in
    let other_fits : FitsSigned w128 c.args.other.num = search rules in
    let left = simp to_z-of_z at c.in_ok-left.ensures.value in
    let right = simp to_z-of_z at c.in_ok-right.ensures.value in
    record {
      left = simp to_z-of_z at c.in_ok-left.ensures.short;
      right = simp to_z-of_z at c.in_ok-right.ensures.short;
      den = c.in_ok-den.ensures.short;
      sum = rw (left, right) at (simp to_z-of_z at c.in_ok-num.ensures.short);
    }

-- the sum over the common denominator
whole : (c : After-gcd) → Fraction
whole c = record {
  num = c.args.self.num *ℤ pos (c.args.other.den / c.gcd-common.result) +ℤ c.args.other.num *ℤ pos (c.args.self.den / c.gcd-common.result);
  den = c.args.self.den * (c.args.other.den / c.gcd-common.result);
}

made : (c : After-gcd) → signed_fraction (lt_z (to_z w128 (of_z w128 c.in_ok-num.num)) (pos 0)) c.unsigned_abs-size.result c.in_ok-den.den ≡ whole c
unfolding whole
made c =
    let fits : FitsSigned w128 c.in_ok-num.num = search rules in
    signed_fraction-of c.in_ok-num.num _ _ _ _ fits (sum_is c) (size_is c) c.in_ok-den.ensures.value

positive_whole : (c : After-gcd) → 0 < c.args.self.den * (c.args.other.den / c.gcd-common.result)
positive_whole c = positive-product _ _ c.args.self.positive (positive-quotient _ _ _ c.args.other.positive c.gcd-common.ensures)

pub returns-clause-sum : goal.returns-clause-sum
unfolding whole
returns-clause-sum c =
    let after = (goal.at.returns-clause-sum c).After-gcd in
    let same : IsSame (whole after) (sum_of (shown_frac c.args.self) (shown_frac c.args.other)) =
    sum-same c.args.self.num c.args.other.num c.args.self.den c.args.other.den c.gcd-common.result c.args.other.positive c.gcd-common.ensures in
    same_as c.divided.result (whole after) (sum_of (shown_frac c.args.self) (shown_frac c.args.other)) (positive_whole after) same
    (subst (λ x. IfOk c.divided.result (λ f. IsSame (shown_frac f) x)) (made after) c.divided.ensures.same)

pub returns-clause-short : goal.returns-clause-short
returns-clause-short c =
    on_ok c.divided.result (IsShortSum (shown_frac c.args.self) (shown_frac c.args.other))
    (IsShortSum-from (shown_frac c.args.self) (shown_frac c.args.other) c.gcd-common.result c.gcd-common.ensures (steps_short ((goal.at.returns-clause-short c).After-gcd)))

pub returns-clause-wide : goal.returns-clause-wide
unfolding whole
returns-clause-wide c =
    let after = (goal.at.returns-clause-wide c).After-gcd in
    let short = steps_short after in
    let range : IsInRange (whole after) = record { num = short.sum; den = short.den; positive = positive_whole after } in
    not_refused c.divided.result _ (whole after) (made after) range (λ fault. (fault ≡ faults.Wide) × ¬ IsShortSum (shown_frac c.args.self) (shown_frac c.args.other)) c.divided.ensures.wide
