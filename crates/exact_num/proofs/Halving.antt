-- The greatest common divisor of an odd number and another, by halving and subtracting.
use Rattle.std.proofs.Common.{◌≡◌, ℕ, ◌-◌, ◌/◌, ◌%◌, ◌^◌, ◌≤◌, ◌<◌, subst}
use Rattle.std.specs.Int.{IsGcd, Width, trailing_zeros}
use Rattle.std.proofs.lemmas.Nat.Gcd.{IsGcd-swap, IsGcd-from_sub}
use Rattle.integers.proofs.Twos.{without_zeros, IsGcd-halved}
use mir.Val.{bits}

-- x is odd, and so is y without its trailing zeros
module _ (w : Width) (x y : ℕ) (odd : x % 2 ≡ 1) (positive : 0 < y) (fits : y < 2 ^ bits w) where
  pub rest-odd : (y / 2 ^ trailing_zeros w y) % 2 ≡ 1
  rest-odd = (without_zeros w y positive fits).0

  pub rest-gcd : (g : ℕ) → IsGcd x (y / 2 ^ trailing_zeros w y) g → IsGcd x y g
  rest-gcd g h =
      subst (λ n. IsGcd x n g) (without_zeros w y positive fits).1 (IsGcd-halved x (y / 2 ^ trailing_zeros w y) (trailing_zeros w y) g odd h)

  -- the lesser taken from the greater
  pub less-gcd : x ≤ y / 2 ^ trailing_zeros w y → (g : ℕ) → IsGcd x (y / 2 ^ trailing_zeros w y - x) g → IsGcd x y g
  less-gcd h g k =
      rest-gcd g (IsGcd-swap (y / 2 ^ trailing_zeros w y) x g
      (IsGcd-from_sub (y / 2 ^ trailing_zeros w y) x g h (IsGcd-swap x (y / 2 ^ trailing_zeros w y - x) g k)))

  pub more-gcd : y / 2 ^ trailing_zeros w y ≤ x → (g : ℕ) → IsGcd (y / 2 ^ trailing_zeros w y) (x - y / 2 ^ trailing_zeros w y) g → IsGcd x y g
  more-gcd h g k =
      rest-gcd g (IsGcd-from_sub x (y / 2 ^ trailing_zeros w y) g h (IsGcd-swap (y / 2 ^ trailing_zeros w y) (x - y / 2 ^ trailing_zeros w y) g k))
