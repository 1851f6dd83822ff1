-- Greatest common divisors by halving: a factor 2 is dropped beside an odd number, and a common one comes out.
use Rattle.std.proofs.Common.{◌≡◌, ℕ, zero, suc, ◌*◌, ◌/◌, ◌%◌, ◌^◌, ◌<◌, ◌≤◌, ◌∙◌, sym, subst, refl, arith, pow-suc, mod-eq_of_lt}
use Rattle.std.specs.Int.{◌∣◌, IsGcd, Width, bit_at, trailing_zeros}
use Rattle.std.proofs.Math.Nat.{mul-dvd-mul_left, one-dvd, mul_comm, mul-div_cancel', mul-dvd-mul_right, eq-zero_of_zero-dvd, eq-one_of_dvd-one}
use Rattle.std.proofs.lemmas.Nat.Gcd.{le_of_dvd, mod-eq-zero_of_dvd}
use Rattle.std.proofs.lemmas.Nat.Bits.{bit_at-trailing_zeros, bit_at-suc, bit_at_lowest}
use Rattle.integers.specs.Divisors.{IsCoprime}
use Rattle.integers.proofs.Divides.{IsCoprime-mul, IsGcd-coprime_factor, dvd-scaled}
use mir.Val.{bits}

-- an odd number has no divisor in common with 2
odd-two : (x : ℕ) → x % 2 ≡ 1 → IsCoprime x 2
odd-two x h d p q = let most : d ≤ 2 = le_of_dvd (omega arith) q in small d x p (omega arith) q h
  where
    small : (d x : ℕ) → d ∣ x → d < 3 → d ∣ 2 → x % 2 ≡ 1 → d ≡ 1
    small zero x p b q h = absurd (omega (arith, eq-zero_of_zero-dvd q))
    small (suc zero) x p b q h = refl
    small (suc (suc zero)) x p b q h = absurd (omega (arith, mod-eq-zero_of_dvd 2 p))
    small (suc (suc (suc d))) x p b q h = absurd (omega arith)

odd-pow : (x k : ℕ) → x % 2 ≡ 1 → IsCoprime x (2 ^ k)
odd-pow x zero h = λ d p q. eq-one_of_dvd-one q
odd-pow x (suc k) h = subst (λ n. IsCoprime x n) (sym (pow-suc 2 k)) (IsCoprime-mul x (2 ^ k) 2 (odd-pow x k h) (odd-two x h))

-- what is below the lowest 1 of a number divides it
zeros-divide : (k n : ℕ) → ((i : ℕ) → i < k → bit_at n i ≡ 0) → (2 ^ k) ∣ n
zeros-divide zero n h = one-dvd n
zeros-divide (suc k) n h =
    let half : (2 ^ k) ∣ (n / 2) = zeros-divide k (n / 2) (λ i b. sym (bit_at-suc n i) ∙ h (suc i) (omega arith)) in
    let even : n % 2 ≡ 0 = sym (bit_at_lowest n) ∙ h 0 (omega arith) in
    let whole : (n / 2) * 2 ≡ n = omega arith in
    subst (λ m. m ∣ n) (sym (pow-suc 2 k)) (subst (λ m. (2 ^ k * 2) ∣ m) whole (mul-dvd-mul_right (2 ^ k) half 2))

-- a number without its trailing zeros is odd, and with them it is the number
pub without_zeros : (w : Width) (n : ℕ) → 0 < n → n < 2 ^ bits w → ((n / 2 ^ trailing_zeros w n) % 2 ≡ 1) × (2 ^ trailing_zeros w n * (n / 2 ^ trailing_zeros w n) ≡ n)
without_zeros w n p b = let place = bit_at-trailing_zeros w n p b in (place.1, mul-div_cancel' (2 ^ trailing_zeros w n) (zeros-divide (trailing_zeros w n) n place.2))

-- beside an odd number the factors 2 are dropped
pub IsGcd-halved : (x y k g : ℕ) → x % 2 ≡ 1 → IsGcd x y g → IsGcd x (2 ^ k * y) g
IsGcd-halved x y k g h p = IsGcd-coprime_factor x (2 ^ k) y g (odd-pow x k h) p

-- a common factor comes out
pub IsGcd-scaled : (m a b g : ℕ) → IsGcd a b g → IsGcd (m * a) (m * b) (m * g)
IsGcd-scaled m a b g h = (
  mul-dvd-mul_left g m h.0,
  mul-dvd-mul_left g m h.1,
  λ d p q.
      subst (λ n. d ∣ n) (mul_comm g m)
      (dvd-scaled (suc b) a b g m d (omega arith) h (subst (λ n. d ∣ n) (mul_comm m a) p) (subst (λ n. d ∣ n) (mul_comm m b) q)),
)

-- the zeros that both numbers end in are set aside, and come back to the greatest common divisor of what is left
pub IsGcd-without_zeros : (w : Width) (x y r : ℕ) → 0 < x → x < 2 ^ bits w → 0 < y → y < 2 ^ bits w → trailing_zeros w x ≤ trailing_zeros w y
    → IsGcd (x / 2 ^ trailing_zeros w x) (y / 2 ^ trailing_zeros w x) r → IsGcd x y ((r * 2 ^ trailing_zeros w x) % 2 ^ bits w)
IsGcd-without_zeros w x y r px fx py fy fewer h =
    let zeros = trailing_zeros w x in
    let place = bit_at-trailing_zeros w y py fy in
    let divides : (2 ^ zeros) ∣ y = zeros-divide zeros y (λ i b. place.2 i (omega arith)) in
    let scaled : IsGcd (2 ^ zeros * (x / 2 ^ zeros)) (2 ^ zeros * (y / 2 ^ zeros)) (2 ^ zeros * r) = IsGcd-scaled (2 ^ zeros) (x / 2 ^ zeros) (y / 2 ^ zeros) r h in
    let left : IsGcd x (2 ^ zeros * (y / 2 ^ zeros)) (2 ^ zeros * r) =
    subst (λ n. IsGcd n (2 ^ zeros * (y / 2 ^ zeros)) (2 ^ zeros * r)) (without_zeros w x px fx).1 scaled in
    let both : IsGcd x y (2 ^ zeros * r) = subst (λ n. IsGcd x n (2 ^ zeros * r)) (mul-div_cancel' (2 ^ zeros) divides) left in
    let turned : IsGcd x y (r * 2 ^ zeros) = subst (λ n. IsGcd x y n) (mul_comm (2 ^ zeros) r) both in
    let most : r * 2 ^ zeros ≤ x = le_of_dvd px turned.0 in
    subst (λ n. IsGcd x y n) (sym (mod_of_less (r * 2 ^ zeros) (2 ^ bits w) (omega arith))) turned
  where
    mod_of_less : (v n : ℕ) → v < n → v % n ≡ v
    mod_of_less v n h = mod-eq_of_lt h
