-- Operations on fractions: what each gives in lowest terms, and where it is too wide for 128 bits.
use Rattle.std.specs.Prelude.{◌≢◌, ◌<◌, ℤ, pos}
use Rattle.exact_num.specs.Fraction.{Fraction, IsSame, IsLowest, IsShortSum, LeavesRange, sum_of, negative_of, difference_of, product_of, quotient_of}
use Rattle.exact_run.specs.declared.operations.Operation.{Operation}
use Rattle.exact_run.specs.declared.operations.Operation.TheVariants.{Add, Sub, Mul, Div}

-- a whole number
abbrev pub whole : ℤ → Fraction
whole z = record { num = z; den = 1 }

-- the fraction in lowest terms, its denominator above 0, that is the same as another
pub record IsReduced (exact x : Fraction) : Type 0 where
  pub positive : 0 < x.den
  pub lowest : IsLowest x
  pub same : IsSame x exact

-- what an operation gives
abbrev pub answer_of : Operation → Fraction → Fraction → Fraction
answer_of Add x y = sum_of x y
answer_of Sub x y = difference_of x y
answer_of Mul x y = product_of x y
answer_of Div x y = quotient_of x y

-- the operation has an answer: nothing is divided by 0
abbrev pub IsMeant : Operation → Fraction → Type 0
IsMeant Div y = y.num ≢ pos 0
IsMeant _ y = Unit {0}

-- Fractions of 128 bits refuse the operation: a step of a sum leaves the range, or a product or a quotient does in lowest terms.
abbrev pub IsWide : Operation → Fraction → Fraction → Type 0
IsWide Add x y = ¬ IsShortSum x y
IsWide Sub x y = ¬ IsShortSum x (negative_of y)
IsWide Mul x y = LeavesRange (product_of x y)
IsWide Div x y = (y.num ≢ pos 0) × LeavesRange (quotient_of x y)
