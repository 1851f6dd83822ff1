-- Each fraction has one in lowest terms.
use Rattle.std.proofs.Common.{◌≡◌, ◌≢◌, ℕ, zero, suc, ◌/◌, ◌%◌, ◌<◌, sym, subst, arith, ℤ, pos, unsigned_abs, ◌+◌, ◌⊎◌, inl, inr}
use Rattle.std.specs.Int.{IsGcd}
use Rattle.std.proofs.lemmas.Nat.Gcd.{IsGcd-from_zero, IsGcd-from_mod}
use Rattle.integers.specs.Divisors.{IsCoprime}
use Rattle.integers.proofs.Divides.{IsCoprime-quotients, positive-gcd}
use Rattle.exact_num.specs.Fraction.{Fraction, IsSame}
use Rattle.exact_num.specs.Signed.{signed_fraction}
use Rattle.exact_num.proofs.Signs.{signed-of, signed-size, signed_fraction-divided, positive-quotient}
use lib.Signed.{lt_z}
use Rattle.exact_run.specs.Operations.{IsReduced}

zero_or_not : (n : ℕ) → (n ≡ 0) ⊎ (n ≢ 0)
zero_or_not n = grind arith

-- two numbers have a greatest common divisor
gcd_within : (n a b : ℕ) → b < n → (g : ℕ) × IsGcd a b g
gcd_within zero a b lt = absurd (omega arith)
gcd_within (suc n) a b lt = elim (zero_or_not b) [
  | inl e ↦ (a, IsGcd-from_zero a b e)
  | inr ne ↦ let rest : a % b < n = omega arith in let g = gcd_within n b (a % b) rest in (g.0, IsGcd-from_mod a b g.0 g.1)
]

has_gcd : (a b : ℕ) → (g : ℕ) × IsGcd a b g
has_gcd a b = gcd_within (b + 1) a b (omega arith)

pub has_reduced : (e : Fraction) → 0 < e.den → (x : Fraction) × IsReduced e x
has_reduced e p =
    let found = has_gcd (unsigned_abs e.num) e.den in
    let g : ℕ = found.0 in
    let is : IsGcd (unsigned_abs e.num) e.den g = found.1 in
    let negative = lt_z e.num (pos 0) in
    let size : ℕ = unsigned_abs e.num / g in
    let lowest : IsCoprime size (e.den / g) = IsCoprime-quotients (unsigned_abs e.num) e.den g (positive-gcd (unsigned_abs e.num) e.den g p is) is in (
      signed_fraction negative size (e.den / g),
      record {
        positive = positive-quotient (unsigned_abs e.num) e.den g p is;
        lowest = subst (λ (n : ℕ). IsCoprime n (e.den / g)) (sym (signed-size negative size)) lowest;
        same = subst (λ (z : ℤ). IsSame (signed_fraction negative size (e.den / g)) (record { num = z; den = e.den })) (signed-of e.num)
            (signed_fraction-divided negative (unsigned_abs e.num) e.den g is);
      },
    )
