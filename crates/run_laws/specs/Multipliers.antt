-- Multipliers on the rows of a program, and what they are added up to.
use Rattle.std.specs.Prelude.{◌≡◌, ℕ, ◌<◌, false, ℤ, pos, ◌-ℤ◌, ◌*ℤ◌, ◌≤ℤ◌}
use Rattle.std.specs.Int.{int_min}
use Rattle.integers.specs.Sums.{int_sum_below}
use Rattle.exact_num.specs.Fraction.{Fraction}
use Rattle.exact_run.specs.Programs.{Program}
use Rattle.exact_run.specs.States.{State}
use Rattle.exact_run.specs.Runs.{IsSolvedMultiplier, IsEmptyMultiplier}
use Rattle.exact_run.specs.declared.ends.End.{End}
use Rattle.run_laws.specs.Points.{IsTimes}

-- so many times the multipliers of a state that has a point
abbrev pub AreSolvedOver : Program → State → ℕ → (ℕ → ℤ) → Type 0
AreSolvedOver p s times mult = (r : ℕ) (x : Fraction) → r < p.rows → IsSolvedMultiplier p s r x → IsTimes (pos times) x (mult r)

-- so many times those of a state that has none, as the column of the place is past this end
abbrev pub AreEmptyOver : Program → State → ℕ → End → ℕ → (ℕ → ℤ) → Type 0
AreEmptyOver p s place side times mult = (r : ℕ) (x : Fraction) → r < p.rows → IsEmptyMultiplier p s place side r x → IsTimes (pos times) x (mult r)

-- a multiplier on a row that is at least 0 is not below 0
abbrev pub AreSigned : Program → (ℕ → ℤ) → Type 0
AreSigned p mult = (r : ℕ) → r < p.rows → p.equal r ≡ false → pos 0 ≤ℤ mult r

-- what a unit of a variable costs still, when the multiplied rows are taken off the scaled cost
abbrev pub rest : Program → ℕ → (ℕ → ℤ) → ℕ → ℤ
rest p scale mult v = pos scale *ℤ p.cost v -ℤ int_sum_below (λ r. mult r *ℤ p.coef r v) p.rows

-- what the multipliers are added up to: each variable at the end where its rest is least, and the constants
abbrev pub number : Program → ℕ → (ℕ → ℤ) → ℤ
number p scale mult =
    int_sum_below (λ v. int_min (rest p scale mult v *ℤ p.low v) (rest p scale mult v *ℤ p.high v)) p.variables
    -ℤ int_sum_below (λ r. mult r *ℤ p.constant r) p.rows
