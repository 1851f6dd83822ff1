-- Numbers and fractions that are too coarse, by what was compared.
use Rattle.std.proofs.Common.{ℕ, ◌<◌, ◌^◌, arith}
use Rattle.common_denominators.specs.Multiples.{HasNoShort, IsEither, IsLeastMultiple}

pub short : (a b m : ℕ) → IsLeastMultiple (IsEither a b) m → m < 2 ^ 64 → ¬ HasNoShort a b
short a b m least lt h = let ge = h m least in omega arith
