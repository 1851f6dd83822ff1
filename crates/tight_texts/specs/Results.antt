-- What reading marks may give.
use Rattle.std.specs.Prelude.{◌≡◌, ℕ, Bool, true, false, List, Option, None, Some, Result, Ok, ℤ}
use Rattle.cert_text.specs.Reading.{At, ◌>>=◌, after_word, word_at}
use Rattle.exact_num.specs.Fraction.{Fraction}
use Rattle.exact_num.specs.Views.{shown_frac}
use Rattle.exact_num.specs.declared.frac.Frac.{Frac}
use Rattle.tight_texts.specs.Reading.{is_lowest}

-- whether a word was taken from the front of what stood there
abbrev pub Took : Bool → List ℕ → At → At → Type 0
Took true word a b = word_at word a ≡ Ok (tt, b)
Took false word a b = (b ≡ a) × (after_word word a.rest ≡ None)

-- the fraction of these numbers, exactly where they are in lowest terms
abbrev pub IsLowestOf : ℤ → ℕ → Option Frac → Type 0
IsLowestOf num den (Some f) = (is_lowest num den ≡ true) × (shown_frac f ≡ record { num = num; den = den })
IsLowestOf num den None = is_lowest num den ≡ false

-- a numerator over a denominator that was read
abbrev pub over : ℤ → Result (ℕ × At) ℕ → Result (Fraction × At) ℕ
over num read = read >>= λ den. Ok (record { num = num; den = den.0 }, den.1)
