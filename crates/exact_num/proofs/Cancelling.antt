-- A product of fractions, each freed of what divides the other's denominator.
use Rattle.std.proofs.Common.{◌≡◌, ℕ, zero, suc, ◌*◌, ◌/◌, ◌<◌, Bool, ℤ, pos, ◌*ℤ◌, unsigned_abs, refl, subst, sym, ap, arith, ◌∙◌}
use Rattle.std.specs.Int.{◌∣◌, IsGcd}
use Rattle.std.proofs.Math.Nat.{div-mul_cancel, dvd-mul_right, mul_assoc, mul_comm, mul_left_comm}
use Rattle.integers.specs.Divisors.{IsCoprime}
use Rattle.integers.proofs.Divides.{IsCoprime-swap, IsCoprime-dvd, IsCoprime-mul, IsCoprime-quotients, positive-gcd}
use Rattle.exact_num.specs.Fraction.{Fraction, IsSame, product_of}
use Rattle.exact_num.specs.Signed.{signed, signed_fraction}
use Rattle.exact_num.proofs.Signs.{signed-mul, positive-quotient}

pub quotient-dvd : (a g : ℕ) → g ∣ a → (a / g) ∣ a
quotient-dvd a g h = subst (λ n. (a / g) ∣ n) (div-mul_cancel g h) (dvd-mul_right (a / g) g)

-- divisors of numbers with no common divisor have none
IsCoprime-divisors : (a b m n : ℕ) → IsCoprime a b → m ∣ a → n ∣ b → IsCoprime m n
IsCoprime-divisors a b m n h p q = IsCoprime-swap n m (IsCoprime-dvd b m n (IsCoprime-swap m b (IsCoprime-dvd a b m h p)) q)

pub positive-product : (m n : ℕ) → 0 < m → 0 < n → 0 < m * n
positive-product zero n p q = absurd (omega arith)
positive-product (suc m) zero p q = absurd (omega arith)
positive-product (suc m) (suc n) p q = omega arith

-- the product of the cancelled sizes, with its sign, is the product of the numbers
pub crossed-product : (negative : Bool) (x y : ℤ) (m n p q b d : ℕ) → x *ℤ y ≡ signed negative (unsigned_abs x * unsigned_abs y)
    → (m * n) * (b * d) ≡ (unsigned_abs x * unsigned_abs y) * (p * q) → signed negative (m * n) *ℤ pos (b * d) ≡ (x *ℤ y) *ℤ pos (p * q)
crossed-product negative x y m n p q b d sign sizes =
    signed-mul negative (m * n) (b * d) ∙ ap (signed negative) sizes ∙ sym (signed-mul negative (unsigned_abs x * unsigned_abs y) (p * q)) ∙ ap (λ z. z *ℤ pos (p * q)) (sym sign)

-- a over b times c over d, where l divides a and d and r divides c and b
module _ (a b c d l r : ℕ) (pb : 0 < b) (pd : 0 < d) (hl : IsGcd a d l) (hr : IsGcd c b r) where
  pub crossed-positive : 0 < (b / r) * (d / l)
  crossed-positive = positive-product (b / r) (d / l) (positive-quotient c b r pb hr) (positive-quotient a d l pd hl)

  pub crossed-lowest : IsCoprime a b → IsCoprime c d → IsCoprime ((a / l) * (c / r)) ((b / r) * (d / l))
  crossed-lowest h k =
      let first : IsCoprime (a / l) ((b / r) * (d / l)) =
      IsCoprime-mul (a / l) (b / r) (d / l) (IsCoprime-divisors a b (a / l) (b / r) h (quotient-dvd a l hl.0) (quotient-dvd b r hr.1))
      (IsCoprime-quotients a d l (positive-gcd a d l pd hl) hl) in
      let second : IsCoprime (c / r) ((b / r) * (d / l)) =
      IsCoprime-mul (c / r) (b / r) (d / l) (IsCoprime-quotients c b r (positive-gcd c b r pb hr) hr)
      (IsCoprime-divisors c d (c / r) (d / l) k (quotient-dvd c r hr.0) (quotient-dvd d l hl.1)) in
      IsCoprime-swap ((b / r) * (d / l)) ((a / l) * (c / r))
      (IsCoprime-mul ((b / r) * (d / l)) (a / l) (c / r) (IsCoprime-swap (a / l) ((b / r) * (d / l)) first) (IsCoprime-swap (c / r) ((b / r) * (d / l)) second))

  pub crossed-same : ((a / l) * (c / r)) * (b * d) ≡ (a * c) * ((b / r) * (d / l))
  crossed-same = regroup (a / l) (c / r) (b / r) (d / l) l r a b c d (div-mul_cancel l hl.0) (div-mul_cancel r hr.1) (div-mul_cancel r hr.0) (div-mul_cancel l hl.1)
    where
      regroup : (m n p q l r a b c d : ℕ) → m * l ≡ a → p * r ≡ b → n * r ≡ c → q * l ≡ d → (m * n) * (b * d) ≡ (a * c) * (p * q)
      regroup m n p q l r a b c d ea eb ec ed =
          rw (← ea, ← eb, ← ec, ← ed) (simp (mul_assoc, mul_comm, mul_left_comm) refl)

-- the fraction of the cancelled numbers is the product
pub crossed-fraction : (negative : Bool) (x y : Fraction) (m n l r : ℕ) → m ≡ unsigned_abs x.num → n ≡ unsigned_abs y.num → 0 < x.den → 0 < y.den
    → IsGcd m y.den l → IsGcd n x.den r → x.num *ℤ y.num ≡ signed negative (unsigned_abs x.num * unsigned_abs y.num)
    → IsSame (signed_fraction negative ((m / l) * (n / r)) ((x.den / r) * (y.den / l))) (product_of x y)
crossed-fraction negative x y m n l r em en px py hl hr sign =
    crossed-product negative x.num y.num (m / l) (n / r) (x.den / r) (y.den / l) x.den y.den sign
    (crossed-same m x.den n y.den l r px py hl hr ∙ ap (λ k. k * ((x.den / r) * (y.den / l))) (ap (λ k. k * n) em ∙ ap (λ k. unsigned_abs x.num * k) en))
