-- What a `Frac` stands for.
use Rattle.exact_num.specs.Fraction.{Fraction}
use Rattle.exact_num.specs.declared.frac.Frac.{Frac}

-- its numbers, which are in lowest terms
abbrev pub shown_frac : Frac → Fraction
shown_frac f = record { num = f.num; den = f.den }
