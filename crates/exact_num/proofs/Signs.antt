-- Signed numbers by sign and size.
use Rattle.std.proofs.Common.{◌≡◌, ℕ, zero, suc, ◌*◌, ◌/◌, ◌<◌, ◌^◌, subst, Bool, true, false, ℤ, pos, negsuc, ◌*ℤ◌, ◌<ℤ◌, unsigned_abs, SFits, to_z, of_z, refl, ap, arith, ◌∙◌, sym}
use Rattle.std.specs.Int.{IsGcd}
use Rattle.std.proofs.lemmas.Int.{to_z-of_z, ints}
use lib.Signed.{lt_z}
use mir.Syntax.{w128}
use Rattle.std.proofs.Math.Nat.{div-mul_cancel}
use Rattle.integers.proofs.Ring.{neg-mul}
use Rattle.exact_num.specs.Fraction.{Fraction, IsSame, LeavesRange}
use Rattle.integers.specs.Divisors.{IsCoprime}
use Rattle.exact_num.specs.Signed.{signed, signed_fraction}
use Rattle.exact_num.proofs.Laws.{LeavesRange-lowest}

-- a positive number is its size
pub positive_is : (z : ℤ) → pos 0 <ℤ z → pos (unsigned_abs z) ≡ z
positive_is (pos n) h = refl
positive_is (negsuc n) h = absurd h.lt

-- a number that is not 0 has a size
pub positive-size : (z : ℤ) → (z ≡ pos 0 → ⊥) → 0 < unsigned_abs z
positive-size (pos zero) h = absurd (h refl)
positive-size (pos (suc n)) h = omega arith
positive-size (negsuc n) h = omega arith

pub signed-size : (negative : Bool) (n : ℕ) → unsigned_abs (signed negative n) ≡ n
signed-size false n = refl
signed-size true zero = refl
signed-size true (suc n) = refl

-- a number is its size with its sign
pub signed-of : (z : ℤ) → signed (lt_z z (pos 0)) (unsigned_abs z) ≡ z
signed-of (pos n) = rw (not_below n) refl
  where
    not_below : (n : ℕ) → lt_z (pos n) (pos 0) ≡ false
    not_below n = grind (arith, ints)
signed-of (negsuc n) = refl

pub signed-mul : (negative : Bool) (m n : ℕ) → signed negative m *ℤ pos n ≡ signed negative (m * n)
signed-mul false m n = refl
signed-mul true m n = neg-mul (pos m) (pos n)

-- both sides of a fraction divided by a number that divides them
pub signed_fraction-divided : (negative : Bool) (a b g : ℕ) → IsGcd a b g → IsSame (signed_fraction negative (a / g) (b / g)) (signed_fraction negative a b)
signed_fraction-divided negative a b g h =
    signed-mul negative (a / g) b ∙ ap (signed negative) (crossed (a / g) (b / g) g a b (div-mul_cancel g h.0) (div-mul_cancel g h.1)) ∙ sym (signed-mul negative a (b / g))
  where
    crossed : (q r g a b : ℕ) → q * g ≡ a → r * g ≡ b → q * b ≡ a * r
    crossed q r g a b h k = omega (arith, ap (λ n. q * n) k, ap (λ n. n * r) h)

-- what remains of a positive number divided by a divisor is positive
pub positive-quotient : (a b g : ℕ) → 0 < b → IsGcd a b g → 0 < b / g
positive-quotient a b g p h = positive_factor (b / g) g b p (div-mul_cancel g h.1)
  where
    positive_factor : (q g b : ℕ) → 0 < b → q * g ≡ b → 0 < q
    positive_factor zero g b p h = absurd (omega arith)
    positive_factor (suc q) g b p h = omega arith

-- in lowest terms, with a number that is not short
pub LeavesRange-signed : (negative : Bool) (num den : ℕ) → IsCoprime num den → (num < 2 ^ 127 → den < 2 ^ 127 → ⊥) → LeavesRange (signed_fraction negative num den)
LeavesRange-signed negative num den lowest out =
    LeavesRange-lowest (signed_fraction negative num den) (subst (λ n. IsCoprime n den) (sym (signed-size negative num)) lowest)
    (λ p q. out (subst (λ n. n < 2 ^ 127) (signed-size negative num) p) q)

-- the fraction that code makes of a number's sign and size
pub signed_fraction-of : (z s : ℤ) (m d e : ℕ) → SFits w128 z → z ≡ s → m ≡ unsigned_abs z → d ≡ e
    → signed_fraction (lt_z (to_z w128 (of_z w128 z)) (pos 0)) m d ≡ record { num = s; den = e }
signed_fraction-of z s m d e fits ez em ed =
    let same : signed (lt_z (to_z w128 (of_z w128 z)) (pos 0)) m ≡ s = rw (to_z-of_z w128 z fits, em) (signed-of z ∙ ez) in
    let by_num : ℤ → Fraction = λ n. record { num = n; den = d } in
    let by_den : ℕ → Fraction = λ k. record { num = s; den = k } in ap by_num same ∙ ap by_den ed
