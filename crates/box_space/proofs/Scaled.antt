-- So many parts of a quality, of 1000 at the most, fit 64 bits.
use Rattle.std.proofs.Common.{ℕ, ◌^◌, ◌≤◌, ℤ, ◌*ℤ◌, unsigned_abs, arith, FitsSigned}
use Rattle.std.proofs.lemmas.Int.{fits_signed_from_abs}
use mir.Syntax.{w64}
use Rattle.integers.proofs.Order.{abs-mul-le}

pub parts-fit : (parts quality : ℤ) → unsigned_abs parts ≤ 1000 → unsigned_abs quality ≤ 10 ^ 11 → FitsSigned w64 (parts *ℤ quality)
parts-fit parts quality h k = fits_signed_from_abs w64 (parts *ℤ quality) (omega (arith, abs-mul-le parts quality 1000 (10 ^ 11) h k))
