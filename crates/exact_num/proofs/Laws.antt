-- Laws of fractions: when two are the same, lowest terms and the range.
use Rattle.std.proofs.Common.{◌≡◌, ℕ, zero, suc, ◌*◌, ◌^◌, ◌≤◌, ◌<◌, ◌∙◌, sym, ap, subst, refl, arith, ℤ, pos, ◌*ℤ◌, ◌<ℤ◌, unsigned_abs}
use Rattle.std.specs.Int.{◌∣◌}
use Rattle.std.proofs.Math.Nat.{dvd-mul_right, dvd-mul_left, mul_comm}
use Rattle.std.proofs.lemmas.Nat.Gcd.{le_of_dvd}
use Rattle.std.proofs.lemmas.Int.{ints, unsigned_abs-mul}
use Rattle.integers.specs.Divisors.{IsCoprime}
use Rattle.integers.proofs.Ring.{sorted}
use Rattle.integers.proofs.Order.{same-cancel}
use Rattle.integers.proofs.Divides.{IsCoprime-swap, dvd-coprime}
use Rattle.exact_num.specs.Fraction.{Fraction, IsSame, IsLowest, IsShort, LeavesRange}

positive : {n : ℕ} → 0 < n → pos 0 <ℤ pos n
positive h = omega (arith, ints)

pub IsSame-trans : (x y z : Fraction) → 0 < y.den → IsSame x y → IsSame y z → IsSame x z
IsSame-trans x y z p h k =
    same-cancel (pos y.den) (x.num *ℤ pos z.den) (z.num *ℤ pos x.den) (positive p)
    (chain (pos x.den) (pos y.den) (pos z.den) x.num y.num z.num h k)
  where
    first : (a d f : ℤ) → d *ℤ (a *ℤ f) ≡ (a *ℤ d) *ℤ f
    first a d f = simp sorted refl

    swapped : (c b f : ℤ) → (c *ℤ b) *ℤ f ≡ (c *ℤ f) *ℤ b
    swapped c b f = simp sorted refl

    last : (b d e : ℤ) → (e *ℤ d) *ℤ b ≡ d *ℤ (e *ℤ b)
    last b d e = simp sorted refl

    chain : (b d f a c e : ℤ) → a *ℤ d ≡ c *ℤ b → c *ℤ f ≡ e *ℤ d → d *ℤ (a *ℤ f) ≡ d *ℤ (e *ℤ b)
    chain b d f a c e h k = first a d f ∙ ap (λ z. z *ℤ f) h ∙ swapped c b f ∙ ap (λ z. z *ℤ b) k ∙ last b d e

-- lowest terms are the least of all
pub least_terms : (n d m e : ℕ) → IsCoprime n d → 0 < e → n * e ≡ m * d → (n ≤ m) × (d ≤ e)
least_terms n d m e h p same =
    let left : n ∣ d * m = subst (λ k. n ∣ k) (same ∙ mul_comm m d) (dvd-mul_right n e) in
    let right : d ∣ n * e = subst (λ k. d ∣ k) (sym same) (dvd-mul_left d m) in
    (at_most n d m e p (dvd-coprime n d m h left) same, le_of_dvd p (dvd-coprime d n e (IsCoprime-swap n d h) right))
  where
    at_most : (n d m e : ℕ) → 0 < e → n ∣ m → n * e ≡ m * d → n ≤ m
    at_most zero d m e p h s = omega arith
    at_most (suc n) d zero e p h s = absurd (omega arith)
    at_most (suc n) d (suc m) e p h s = le_of_dvd (omega arith) h

-- a fraction in lowest terms that is not in the range leaves it
pub LeavesRange-lowest : (x : Fraction) → IsLowest x → (IsShort x.num → x.den < 2 ^ 127 → ⊥) → LeavesRange x
LeavesRange-lowest x lowest out y range same =
    let sizes : unsigned_abs x.num * y.den ≡ unsigned_abs y.num * x.den = by_sizes y.num x.num y.den x.den same in
    let least = least_terms (unsigned_abs x.num) x.den (unsigned_abs y.num) y.den lowest range.positive sizes in
    let num = range.num in
    let den = range.den in out (omega (arith, least)) (omega (arith, least))
  where
    by_sizes : (m n : ℤ) (e d : ℕ) → m *ℤ pos d ≡ n *ℤ pos e → unsigned_abs n * e ≡ unsigned_abs m * d
    by_sizes m n e d h = sym (unsigned_abs-mul n (pos e)) ∙ ap unsigned_abs (sym h) ∙ unsigned_abs-mul m (pos d)

-- what leaves the range does so in each form
pub LeavesRange-same : (x z : Fraction) → 0 < z.den → IsSame z x → LeavesRange x → LeavesRange z
LeavesRange-same x z p h out y range same = out y range (IsSame-trans y z x p same h)
