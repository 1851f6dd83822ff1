-- Fractions rounded to whole numbers.
use Rattle.std.specs.Prelude.{ℕ, ℤ, pos, neg_ℤ}
use Rattle.std.specs.Int.{int_div_euclid}

-- the greatest whole number that is not above the fraction
abbrev pub rounded_down : ℤ → ℕ → ℤ
rounded_down num den = int_div_euclid num (pos den)

-- the least whole number that is not below the fraction
abbrev pub rounded_up : ℤ → ℕ → ℤ
rounded_up num den = neg_ℤ (rounded_down (neg_ℤ num) den)
