-- Points over a base: the values of a state's variables, and when a point meets a program.
use Rattle.std.specs.Prelude.{◌≡◌, ℕ, ◌<◌, true, false, ℤ, pos, ◌+ℤ◌, ◌*ℤ◌, ◌≤ℤ◌}
use Rattle.integers.specs.Sums.{int_sum_below}
use Rattle.exact_num.specs.Fraction.{Fraction}
use Rattle.exact_run.specs.Programs.{Program}
use Rattle.exact_run.specs.States.{State}
use Rattle.exact_run.specs.Runs.{IsValueOf}

-- each variable's low end is at most its high end
abbrev pub IsProper : Program → Type 0
IsProper p = (v : ℕ) → v < p.variables → p.low v ≤ℤ p.high v

-- the whole number is so many times the fraction
abbrev pub IsTimes : ℤ → Fraction → ℤ → Type 0
IsTimes n x z = z *ℤ pos x.den ≡ n *ℤ x.num

-- the values of the variables in a state, over a base
abbrev pub AreValuesOver : Program → State → ℕ → (ℕ → ℤ) → Type 0
AreValuesOver p s base values = (v : ℕ) (x : Fraction) → v < p.variables → IsValueOf p s v x → IsTimes (pos base) x (values v)

-- a row's value at a point, times the base
abbrev pub row_value : Program → ℕ → (ℕ → ℤ) → ℕ → ℤ
row_value p base values r = int_sum_below (λ v. p.coef r v *ℤ values v) p.variables +ℤ p.constant r *ℤ pos base

-- what a point costs, times the base
abbrev pub cost_value : Program → (ℕ → ℤ) → ℤ
cost_value p values = int_sum_below (λ v. p.cost v *ℤ values v) p.variables

-- The point meets the program: each value lies between its variable's ends, and each row is at least 0, or 0 where it is equal to 0.
pub record Meets (p : Program) (base : ℕ) (values : ℕ → ℤ) : Type 0 where
  pub low : (v : ℕ) → v < p.variables → (p.low v *ℤ pos base) ≤ℤ values v
  pub high : (v : ℕ) → v < p.variables → values v ≤ℤ (p.high v *ℤ pos base)
  pub at_least : (r : ℕ) → r < p.rows → p.equal r ≡ false → pos 0 ≤ℤ row_value p base values r
  pub equal : (r : ℕ) → r < p.rows → p.equal r ≡ true → row_value p base values r ≡ pos 0
