-- Products of what was read, and sums with them: how large they are.
use Rattle.std.proofs.Common.{◌≡◌, ℕ, ◌+◌, ◌*◌, ◌^◌, ◌<◌, ◌≤◌, ℤ, pos, ◌+ℤ◌, ◌-ℤ◌, ◌*ℤ◌, unsigned_abs, arith, ap, FitsSigned}
use Rattle.std.proofs.Math.Nat.{mul-le-mul}
use Rattle.std.proofs.lemmas.Int.{ints, unsigned_abs-mul, fits_signed_from_abs}
use mir.Syntax.{w128}

-- ---- a number, and a product beside it
module _ (a x m c : ℤ) (is : x ≡ m) (room : unsigned_abs a + unsigned_abs m * unsigned_abs c ≤ 2 ^ 126) where
  pub product-fits : FitsSigned w128 (x *ℤ c)
  product-fits = fits_signed_from_abs w128 (x *ℤ c) (omega (arith, room, unsigned_abs-mul x c, ap (λ z. unsigned_abs z * unsigned_abs c) is))

  pub less-fits : FitsSigned w128 (a -ℤ x *ℤ c)
  less-fits = fits_signed_from_abs w128 (a -ℤ x *ℤ c) (omega (arith, ints, room, unsigned_abs-mul x c, ap (λ z. unsigned_abs z * unsigned_abs c) is))

  pub more-fits : FitsSigned w128 (a +ℤ x *ℤ c)
  more-fits = fits_signed_from_abs w128 (a +ℤ x *ℤ c) (omega (arith, ints, room, unsigned_abs-mul x c, ap (λ z. unsigned_abs z * unsigned_abs c) is))

-- ---- a scaled cost
module _ (scale : ℕ) (x y cost : ℤ) (scale_is : x ≡ pos scale) (cost_is : y ≡ cost) (long : scale < 2 ^ 64) (small : unsigned_abs cost < 2 ^ 48) where
  scaled-size : unsigned_abs (pos scale *ℤ cost) ≤ 2 ^ 112
  scaled-size =
      let first : scale ≤ 2 ^ 64 = omega (arith, long) in
      let second : unsigned_abs cost ≤ 2 ^ 48 = omega (arith, small) in
      omega (arith, unsigned_abs-mul (pos scale) cost, mul-le-mul first second)

  pub scaled-value : x *ℤ y ≡ pos scale *ℤ cost
  scaled-value = rw (scale_is, cost_is)

  pub scaled-small : unsigned_abs (x *ℤ y) ≤ 2 ^ 112
  scaled-small = omega (arith, scaled-size, ap unsigned_abs scaled-value)

  pub scaled-fits : FitsSigned w128 (x *ℤ y)
  scaled-fits = fits_signed_from_abs w128 (x *ℤ y) (omega (arith, scaled-small))
