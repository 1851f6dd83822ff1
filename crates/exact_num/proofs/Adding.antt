-- A sum of fractions over the least common denominator.
use Rattle.std.proofs.Common.{◌≡◌, ℕ, ◌*◌, ◌/◌, ◌<◌, ℤ, pos, ◌+ℤ◌, ◌*ℤ◌, unsigned_abs, subst, sym, ap, arith, ◌∙◌}
use Rattle.std.specs.Int.{◌∣◌, IsGcd}
use Rattle.std.proofs.Math.Nat.{div-mul_cancel, dvd-mul_left_of_dvd, mul_comm}
use Rattle.std.proofs.lemmas.Nat.Gcd.{dvd_trans, same_from_IsGcd}
use Rattle.std.proofs.lemmas.Int.{unsigned_abs-mul}
use Rattle.integers.specs.Divisors.{IsCoprime}
use Rattle.integers.proofs.Ring.{additive, sorted}
use Rattle.integers.proofs.Divides.{IsCoprime-swap, IsCoprime-dvd, IsCoprime-mul, IsCoprime-quotients, IsGcd-coprime_factor, dvd-coprime, dvd-sum_rest, positive-gcd}
use Rattle.exact_num.specs.Fraction.{Fraction, IsShortOver, IsShortSum}
use Rattle.exact_num.proofs.Cancelling.{quotient-dvd}

-- a * p + c * q has no divisor in common with p, where q has none with p, and c none with a multiple of p
coprime_part : (a c : ℤ) (p q d : ℕ) → IsCoprime p q → p ∣ d → IsCoprime (unsigned_abs c) d → IsCoprime (unsigned_abs (a *ℤ pos p +ℤ c *ℤ pos q)) p
coprime_part a c p q d apart divides lowest k r s =
    let first : k ∣ unsigned_abs (a *ℤ pos p) = subst (λ n. k ∣ n) (sym (unsigned_abs-mul a (pos p))) (dvd-mul_left_of_dvd k s (unsigned_abs a)) in
    let second : k ∣ unsigned_abs (c *ℤ pos q) = dvd-sum_rest k (a *ℤ pos p) (c *ℤ pos q) r first in
    let product : k ∣ q * unsigned_abs c = subst (λ n. k ∣ n) (unsigned_abs-mul c (pos q) ∙ mul_comm (unsigned_abs c) q) second in
    lowest k (dvd-coprime k q (unsigned_abs c) (IsCoprime-dvd p q k apart s) product) (dvd_trans k s divides)

-- a over b and c over d, with g the greatest common divisor of b and d
module _ (a c : ℤ) (b d g : ℕ) (pd : 0 < d) (hg : IsGcd b d g) where
  pub sum-greatest : (h : ℕ) → IsCoprime (unsigned_abs a) b → IsCoprime (unsigned_abs c) d
      → IsGcd (unsigned_abs (a *ℤ pos (d / g) +ℤ c *ℤ pos (b / g))) g h → IsGcd (unsigned_abs (a *ℤ pos (d / g) +ℤ c *ℤ pos (b / g))) (b * (d / g)) h
  sum-greatest h left right greatest =
      let sum = a *ℤ pos (d / g) +ℤ c *ℤ pos (b / g) in
      let apart : IsCoprime (b / g) (d / g) = IsCoprime-quotients b d g (positive-gcd b d g pd hg) hg in
      let first : IsCoprime (unsigned_abs sum) (d / g) =
      coprime_part a c (d / g) (b / g) d (IsCoprime-swap (b / g) (d / g) apart) (quotient-dvd d g hg.1) right in
      let second : IsCoprime (unsigned_abs sum) (b / g) =
      subst (λ z. IsCoprime (unsigned_abs z) (b / g)) (swapped (c *ℤ pos (b / g)) (a *ℤ pos (d / g)))
      (coprime_part c a (b / g) (d / g) b apart (quotient-dvd b g hg.0) left) in
      subst (λ n. IsGcd (unsigned_abs sum) n h) (regroup (d / g) (b / g) g b (div-mul_cancel g hg.0))
      (IsGcd-coprime_factor (unsigned_abs sum) ((d / g) * (b / g)) g h (IsCoprime-mul (unsigned_abs sum) (d / g) (b / g) first second) greatest)
    where
      swapped : (x y : ℤ) → x +ℤ y ≡ y +ℤ x
      swapped x y = omega (arith, additive)

      regroup : (p q g b : ℕ) → q * g ≡ b → (p * q) * g ≡ b * p
      regroup p q g b e = omega (arith, ap (λ n. n * p) e)

  pub sum-same : (a *ℤ pos (d / g) +ℤ c *ℤ pos (b / g)) *ℤ pos (b * d) ≡ (a *ℤ pos d +ℤ c *ℤ pos b) *ℤ pos (b * (d / g))
  sum-same = over (pos (d / g)) (pos (b / g)) (pos b) (pos d) a c (ap pos (crossed (d / g) (b / g) g b d (div-mul_cancel g hg.0) (div-mul_cancel g hg.1)))
    where
      crossed : (p q g b d : ℕ) → q * g ≡ b → p * g ≡ d → q * d ≡ b * p
      crossed p q g b d h k = omega (arith, ap (λ n. n * p) h, ap (λ n. q * n) k)

      over : (p q b d a c : ℤ) → q *ℤ d ≡ b *ℤ p → (a *ℤ p +ℤ c *ℤ q) *ℤ (b *ℤ d) ≡ (a *ℤ d +ℤ c *ℤ b) *ℤ (b *ℤ p)
      over p q b d a c e = simp sorted (omega (arith, additive, simp sorted at (ap (λ z. (c *ℤ b) *ℤ z) e)))

-- what is short for one greatest common divisor is so for each
pub IsShortSum-from : (x y : Fraction) (g : ℕ) → IsGcd x.den y.den g → IsShortOver x y g → IsShortSum x y
IsShortSum-from x y g h short k greatest = subst (IsShortOver x y) (same_from_IsGcd x.den y.den g k h greatest) short
