-- A number by its sign and size.
use Rattle.std.specs.Prelude.{ℕ, Bool, true, false, ℤ, pos, neg_ℤ}
use Rattle.exact_num.specs.Fraction.{Fraction}

-- the number of that size, below 0 where `negative` holds
abbrev pub signed : Bool → ℕ → ℤ
signed false n = pos n
signed true n = neg_ℤ (pos n)

-- the fraction of that sign and those sizes
abbrev pub signed_fraction : Bool → ℕ → ℕ → Fraction
signed_fraction negative num den = record { num = signed negative num; den = den }
