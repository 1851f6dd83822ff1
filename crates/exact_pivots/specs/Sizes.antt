-- Fractions by their size.
use Rattle.std.specs.Prelude.{pos, unsigned_abs}
use Rattle.exact_num.specs.Fraction.{Fraction}

-- the size of a fraction
abbrev pub size_of : Fraction → Fraction
size_of x = record { num = pos (unsigned_abs x.num); den = x.den }
