-- What rows of factors are.
use Rattle.std.specs.Prelude.{ℕ}
use Rattle.exact_num.specs.Fraction.{Fraction}
use Rattle.exact_pivots.specs.Entries.{factor_at, AreBelow}
use Rattle.exact_pivots.specs.declared.factors.Factors.{Factors}

-- the factor on each column
abbrev pub factors_of : Factors → ℕ → Fraction
factors_of f = factor_at f.entries.items

-- no column from this one on has a factor that is not 0
abbrev pub IsUnder : ℕ → Factors → Type 0
IsUnder limit f = AreBelow limit f.entries.items
