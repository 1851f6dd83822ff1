-- Multipliers that stand in a list.
use Rattle.std.specs.Prelude.{◌≡◌, ◌≢◌, ℕ, List, ◌==◌, if◌then◌else◌, ℤ, pos}
use Rattle.integers.specs.Sums.{int_sum_by}
use Rattle.exact_num.specs.Fraction.{Fraction}
use Rattle.run_laws.specs.Points.{IsTimes}

-- what the elements with this key have together
abbrev pub amount_at : {X : Type 0} → (X → ℕ) → (X → ℤ) → List X → ℕ → ℤ
amount_at key amount xs k = int_sum_by (λ x. if key x == k then amount x else pos 0) xs

-- The element has the name of a number as its key, and so many times a fraction of that number, which is not 0, as its amount.
pub record IsPartAt {X : Type 0} (key : X → ℕ) (amount : X → ℤ) (fractions : ℕ → Fraction → Type 0) (name : ℕ → ℕ) (times : ℤ) (x : X) : Type 0 where
  pub number : ℕ
  pub fraction : Fraction
  pub listed : fractions number fraction
  pub nonzero : fraction.num ≢ pos 0
  pub key_is : key x ≡ name number
  pub amount_is : IsTimes times fraction (amount x)
