-- The parts of the state at the start.
use Rattle.std.specs.Prelude.{◌≡◌, ◌≢◌, ℕ, ◌<◌, ◌≤◌, ◌+ℤ◌, ◌*ℤ◌, ◌≤ℤ◌, ◌<ℤ◌, pos, negsuc, length, List}
use Rattle.integers.specs.Sums.{int_sum_below}
use Rattle.exact_num.specs.Fraction.{Fraction}
use Rattle.exact_run.specs.Operations.{whole}
use Rattle.exact_run.specs.Programs.{Program, columns, row_column, end_value}
use Rattle.exact_run.specs.declared.ends.End.{End}
use Rattle.exact_run.specs.declared.ends.End.TheVariants.{Low, High}
use Rattle.exact_pivots.specs.Views.{Shown, line_at, stands_at}
use Rattle.exact_pivots.specs.declared.tableau.Line.{Line}

-- a place for each column, and each variable stands where it costs least
pub record AreFirstStands (p : Program) (es : List End) : Type 0 where
  pub length : length es ≡ columns p
  pub low : (v : ℕ) → v < p.variables → pos 0 ≤ℤ p.cost v → stands_at es v ≡ Low
  pub high : (v : ℕ) → v < p.variables → p.cost v <ℤ pos 0 → stands_at es v ≡ High

-- the cost's factors are the costs of the variables
pub record AreFirstCosts (p : Program) (cost : ℕ → Fraction) : Type 0 where
  pub variables : (v : ℕ) → v < p.variables → cost v ≡ whole (p.cost v)
  pub others : (j : ℕ) → p.variables ≤ j → cost j ≡ whole (pos 0)

-- the value of a row where the variables stand
abbrev pub first_value : Program → (ℕ → End) → ℕ → Fraction
first_value p stands r = whole (int_sum_below (λ v. p.coef r v *ℤ end_value p v (stands v)) p.variables +ℤ p.constant r)

-- the line of a row: its column is basic
pub record IsFirstLine (p : Program) (stands : ℕ → End) (r : ℕ) (l : Shown) : Type 0 where
  pub basic : l.basic ≡ row_column p r
  pub variables : (v : ℕ) → v < p.variables → l.factor v ≡ whole (p.coef r v)
  pub own : l.factor (row_column p r) ≡ whole (negsuc 0)
  pub others : (j : ℕ) → p.variables ≤ j → j ≢ row_column p r → l.factor j ≡ whole (pos 0)
  pub value : l.value ≡ first_value p stands r

-- a line for each row
pub record AreFirstLines (p : Program) (stands : ℕ → End) (ls : List Line) : Type 0 where
  pub length : length ls ≡ p.rows
  pub lines : (r : ℕ) → r < p.rows → IsFirstLine p stands r (line_at ls r)
