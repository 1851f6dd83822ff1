-- Linear programs whose columns lie between ends: the variables first, then a column for each row, which stands for the row's value.
use Rattle.std.specs.Prelude.{ℕ, ◌+◌, Bool, if◌then◌else◌, Option, None, Some, unwrap_or, ℤ, pos}
use Rattle.integers.specs.Sums.{piece}
use Rattle.exact_run.specs.declared.ends.End.{End}
use Rattle.exact_run.specs.declared.ends.End.TheVariants.{Low, High}

-- Rows by number: each is its constant and coefficients times variables, and is equal to 0 or at least 0. Variables by number: what each
-- costs, and its ends.
pub record Program : Type 0 where
  pub variables : ℕ
  pub rows : ℕ
  pub coef : ℕ → ℕ → ℤ
  pub constant : ℕ → ℤ
  pub equal : ℕ → Bool
  pub cost : ℕ → ℤ
  pub low : ℕ → ℤ
  pub high : ℕ → ℤ

-- how many columns there are
abbrev pub columns : Program → ℕ
columns p = p.variables + p.rows

-- the column of a row
abbrev pub row_column : Program → ℕ → ℕ
row_column p r = p.variables + r

-- the low end of a column: 0 of a row's
abbrev pub low_end : Program → ℕ → ℤ
low_end p j = piece p.variables p.low (λ r. pos 0) j

-- the high end of a column: 0 of a row's that is equal to 0, and none of one that is at least 0
abbrev pub high_end : Program → ℕ → Option ℤ
high_end p j = piece p.variables (λ v. Some (p.high v)) (λ r. if p.equal r then Some (pos 0) else None) j

-- the value of a column that stands at an end
abbrev pub end_value : Program → ℕ → End → ℤ
end_value p j Low = low_end p j
end_value p j High = unwrap_or (high_end p j) (pos 0)
