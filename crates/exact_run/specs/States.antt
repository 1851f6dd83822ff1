-- States of the exact run: which columns are basic, their values and factors, and where the others stand.
use Rattle.std.specs.Prelude.{◌≡◌, ◌≢◌, ℕ, ◌<◌, pos, ◌+ℤ◌, ◌*ℤ◌, ◌≤ℤ◌, ◌<ℤ◌}
use Rattle.integers.specs.Sums.{int_sum_below}
use Rattle.exact_num.specs.Fraction.{Fraction}
use Rattle.exact_run.specs.Operations.{whole}
use Rattle.exact_run.specs.Programs.{Program, columns, row_column, end_value}
use Rattle.exact_run.specs.declared.ends.End.{End}
use Rattle.exact_run.specs.declared.ends.End.TheVariants.{Low, High}

-- One basic column for each place, as many as there are rows, with its value, and its factor on each column that is not basic; the end at
-- which each such column stands; and the cost's factor on it. What is said of other columns there has no meaning.
pub record State : Type 0 where
  pub basic : ℕ → ℕ
  pub value : ℕ → Fraction
  pub factor : ℕ → ℕ → Fraction
  pub stands : ℕ → End
  pub cost : ℕ → Fraction

-- a column that is not basic
pub record IsFree (p : Program) (s : State) (j : ℕ) : Type 0 where
  pub among : j < columns p
  pub free : (r : ℕ) → r < p.rows → s.basic r ≢ j

-- The state at the start: the rows' columns are basic, and each variable stands where it costs least, at its low end at a tie.
pub record IsStart (p : Program) (s : State) : Type 0 where
  pub basic : (r : ℕ) → r < p.rows → s.basic r ≡ row_column p r
  pub factor : (r v : ℕ) → r < p.rows → v < p.variables → s.factor r v ≡ whole (p.coef r v)
  pub cost : (v : ℕ) → v < p.variables → s.cost v ≡ whole (p.cost v)
  pub low : (v : ℕ) → v < p.variables → pos 0 ≤ℤ p.cost v → s.stands v ≡ Low
  pub high : (v : ℕ) → v < p.variables → p.cost v <ℤ pos 0 → s.stands v ≡ High
  pub value : (r : ℕ) → r < p.rows → s.value r ≡ whole (int_sum_below (λ v. p.coef r v *ℤ end_value p v (s.stands v)) p.variables +ℤ p.constant r)
