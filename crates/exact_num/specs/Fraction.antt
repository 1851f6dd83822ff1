-- Fractions, in lowest terms or not: when two are the same, their order, sums and products.
use Rattle.std.specs.Prelude.{◌≡◌, ℕ, ◌*◌, ◌/◌, ◌^◌, ◌<◌, ℤ, pos, negsuc, ◌+ℤ◌, ◌*ℤ◌, neg_ℤ, unsigned_abs}
use Rattle.std.specs.declared.cmp.Ordering.{Ordering}
use Rattle.std.specs.Ordering.{int_cmp}
use Rattle.std.specs.Int.{IsGcd}
use Rattle.integers.specs.Divisors.{IsCoprime}

-- a numerator over a denominator
pub record Fraction : Type 0 where
  pub num : ℤ
  pub den : ℕ

-- the products crosswise are equal
abbrev pub IsSame : Fraction → Fraction → Type 0
IsSame x y = x.num *ℤ pos y.den ≡ y.num *ℤ pos x.den

-- the order of x and y: that of the products crosswise
abbrev pub order_of : Fraction → Fraction → Ordering
order_of x y = int_cmp (x.num *ℤ pos y.den) (y.num *ℤ pos x.den)

-- no number but 1 divides the numerator and the denominator
abbrev pub IsLowest : Fraction → Type 0
IsLowest x = IsCoprime (unsigned_abs x.num) x.den

-- the number is at most 2^127 - 1 and at least its negative
abbrev pub IsShort : ℤ → Type 0
IsShort z = unsigned_abs z < 2 ^ 127

-- the denominator is positive, and both numbers are short
pub record IsInRange (x : Fraction) : Type 0 where
  pub num : IsShort x.num
  pub den : IsShort (pos x.den)
  pub positive : 0 < x.den

-- no fraction in the range is the same as x: in lowest terms x leaves the range
abbrev pub LeavesRange : Fraction → Type 0
LeavesRange x = (y : Fraction) → IsInRange y → IsSame y x → ⊥

-- the second number, or its negative where the first is below 0
abbrev pub turned : ℤ → ℤ → ℤ
turned (pos n) z = z
turned (negsuc n) z = neg_ℤ z

-- num over den, of any sign but 0: the denominator's sign goes to the numerator
abbrev pub ratio_of : ℤ → ℤ → Fraction
ratio_of num den = record { num = turned den num; den = unsigned_abs den }

-- the sum over the product of the denominators
abbrev pub sum_of : Fraction → Fraction → Fraction
sum_of x y = record { num = x.num *ℤ pos y.den +ℤ y.num *ℤ pos x.den; den = x.den * y.den }

-- the fraction with the other sign
abbrev pub negative_of : Fraction → Fraction
negative_of x = record { num = neg_ℤ x.num; den = x.den }

-- x less y
abbrev pub difference_of : Fraction → Fraction → Fraction
difference_of x y = sum_of x (negative_of y)

-- numerator by numerator over denominator by denominator
abbrev pub product_of : Fraction → Fraction → Fraction
product_of x y = record { num = x.num *ℤ y.num; den = x.den * y.den }

-- the denominator over the numerator, for a fraction that is not 0
abbrev pub inverse_of : Fraction → Fraction
inverse_of x = ratio_of (pos x.den) x.num

-- x by y: the product with the inverse of y
abbrev pub quotient_of : Fraction → Fraction → Fraction
quotient_of x y = product_of x (inverse_of y)

-- what the sum of x and y takes on the way is short, with g for the greatest common divisor of the denominators
pub record IsShortOver (x y : Fraction) (g : ℕ) : Type 0 where
  pub left : IsShort (x.num *ℤ pos (y.den / g))
  pub right : IsShort (y.num *ℤ pos (x.den / g))
  pub den : IsShort (pos (x.den * (y.den / g)))
  pub sum : IsShort (x.num *ℤ pos (y.den / g) +ℤ y.num *ℤ pos (x.den / g))

-- the three products and the sum by which x and y are added over the least common denominator are short
abbrev pub IsShortSum : Fraction → Fraction → Type 0
IsShortSum x y = (g : ℕ) → IsGcd x.den y.den g → IsShortOver x y g
