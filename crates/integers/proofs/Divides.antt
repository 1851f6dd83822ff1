-- Divisors: numbers with no common divisor, and what a quotient by the greatest common divisor leaves.
use Rattle.std.proofs.Common.{◌≡◌, ℕ, zero, suc, ◌+◌, ◌*◌, ◌/◌, ◌%◌, ◌≤◌, ◌<◌, ◌⊎◌, inl, inr, ℤ, pos, negsuc, ◌+ℤ◌, unsigned_abs, ap, sym, subst, refl, arith}
use Rattle.std.specs.Int.{◌∣◌, IsGcd}
use Rattle.std.proofs.lemmas.Int.{ints, by_lt_z}
use Rattle.integers.specs.Divisors.{IsCoprime}
use Rattle.std.proofs.Math.Nat.{dvd-add, dvd-mul_left, dvd-mul_right, dvd-add_iff_right, dvd-mod_iff, one-dvd}
use Rattle.std.proofs.Math.Nat.{mul-dvd-mul_right, div-mul_cancel, one-mul, dvd-mul_right_of_dvd, eq-zero_of_zero-dvd, zero-mul}
use Rattle.std.proofs.lemmas.Nat.Gcd.{dvd_refl, dvd_trans, le_of_dvd, IsGcd-from_zero, same_from_IsGcd}

pub IsCoprime-swap : (a b : ℕ) → IsCoprime a b → IsCoprime b a
IsCoprime-swap a b h = λ d p q. h d q p

-- a divisor has no more common divisors than the number
pub IsCoprime-dvd : (a b c : ℕ) → IsCoprime a b → c ∣ a → IsCoprime c b
IsCoprime-dvd a b c h k = λ d p q. h d (dvd_trans d p k) q

pub IsCoprime-gcd : (a b : ℕ) → IsCoprime a b → IsGcd a b 1
IsCoprime-gcd a b h = (one-dvd a, one-dvd b, λ d p q. subst (λ n. d ∣ n) (h d p q) (dvd_refl d))

-- the greatest common divisor of b and a % b is that of a and b
pub IsGcd-to_mod : (a b g : ℕ) → IsGcd a b g → IsGcd b (a % b) g
IsGcd-to_mod a b g h = (h.1, (dvd-mod_iff g h.1).1 h.0, λ d p q. h.2 d ((dvd-mod_iff d p).0 q) p)

-- what divides a * c and b * c divides g * c, for the greatest common divisor g of a and b
pub dvd-scaled : (n a b g c k : ℕ) → b < n → IsGcd a b g → k ∣ a * c → k ∣ b * c → k ∣ g * c
dvd-scaled zero a b g c k below h p q = absurd (omega arith)
dvd-scaled (suc n) a zero g c k below h p q = subst (λ m. k ∣ m * c) (same_from_IsGcd a zero a g (IsGcd-from_zero a zero refl) h) p
dvd-scaled (suc n) a (suc b) g c k below h p q =
    let rest : k ∣ (a % suc b) * c = (dvd-add_iff_right k (dvd-mul_right_of_dvd k q (a / suc b))).1 (subst (λ m. k ∣ m) (split a b c) p) in
    dvd-scaled n (suc b) (a % suc b) g c k (omega arith) (IsGcd-to_mod a (suc b) g h) q rest
  where
    split : (a b c : ℕ) → a * c ≡ (suc b * c) * (a / suc b) + (a % suc b) * c
    split a b c =
        let e : suc b * (a / suc b) + a % suc b ≡ a = omega arith in
        omega (arith, ap (λ n. n * c) e)

-- a factor that has no common divisor with a number is dropped
pub dvd-coprime : (a b c : ℕ) → IsCoprime a b → a ∣ b * c → a ∣ c
dvd-coprime a b c h p =
    subst (λ m. a ∣ m) (one-mul c) (dvd-scaled (suc b) a b 1 c a (omega arith) (IsCoprime-gcd a b h) (dvd-mul_right a c) p)

pub IsCoprime-mul : (a b c : ℕ) → IsCoprime a b → IsCoprime a c → IsCoprime a (b * c)
IsCoprime-mul a b c h k = λ d p q. k d p (dvd-coprime d b c (IsCoprime-dvd a b d h p) q)

-- divided by the greatest common divisor, two numbers have no common divisor left
pub IsCoprime-quotients : (a b g : ℕ) → 0 < g → IsGcd a b g → IsCoprime (a / g) (b / g)
IsCoprime-quotients a b g p h d q r =
    let left : (d * g) ∣ a = subst (λ n. (d * g) ∣ n) (div-mul_cancel g h.0) (mul-dvd-mul_right d q g) in
    let right : (d * g) ∣ b = subst (λ n. (d * g) ∣ n) (div-mul_cancel g h.1) (mul-dvd-mul_right d r g) in
    one_factor d g p (le_of_dvd p (h.2 (d * g) left right)) (h.2 (d * g) left right)
  where
    one_factor : (d g : ℕ) → 0 < g → d * g ≤ g → (d * g) ∣ g → d ≡ 1
    one_factor zero g p h k = absurd (omega (arith, eq-zero_of_zero-dvd (subst (λ n. n ∣ g) (zero-mul g) k)))
    one_factor (suc zero) g p h k = refl
    one_factor (suc (suc d)) g p h k = absurd (omega arith)

-- the greatest common divisor of a positive number and another is positive
pub positive-gcd : (a b g : ℕ) → 0 < b → IsGcd a b g → 0 < g
positive-gcd a b zero p h = absurd (omega (arith, eq-zero_of_zero-dvd h.1))
positive-gcd a b (suc g) p h = omega arith

-- of a sum and its first part a divisor of both divides the second part
pub dvd-sum_rest : (k : ℕ) (x y : ℤ) → k ∣ unsigned_abs (x +ℤ y) → k ∣ unsigned_abs x → k ∣ unsigned_abs y
dvd-sum_rest k x y h p = by_sizes k (unsigned_abs (x +ℤ y)) (unsigned_abs x) (unsigned_abs y) (one_is_sum x y) h p
  where
    one_is_sum : (x y : ℤ) → (unsigned_abs (x +ℤ y) ≡ unsigned_abs x + unsigned_abs y)
        ⊎ ((unsigned_abs x ≡ unsigned_abs (x +ℤ y) + unsigned_abs y) ⊎ (unsigned_abs y ≡ unsigned_abs (x +ℤ y) + unsigned_abs x))
    one_is_sum (pos a) (pos b) = inl refl
    one_is_sum (negsuc a) (negsuc b) = inl (omega arith)
    one_is_sum (pos a) (negsuc b) =
        by_lt_z (pos a +ℤ negsuc b) (pos 0) (λ below. inr (inr (omega (arith, ints)))) (λ above. inr (inl (omega (arith, ints))))
    one_is_sum (negsuc a) (pos b) =
        by_lt_z (negsuc a +ℤ pos b) (pos 0) (λ below. inr (inl (omega (arith, ints)))) (λ above. inr (inr (omega (arith, ints))))

    by_sizes : (k m n o : ℕ) → (m ≡ n + o) ⊎ ((n ≡ m + o) ⊎ (o ≡ m + n)) → k ∣ m → k ∣ n → k ∣ o
    by_sizes k m n o (inl e) h p = (dvd-add_iff_right k p).1 (subst (λ i. k ∣ i) e h)
    by_sizes k m n o (inr (inl e)) h p = (dvd-add_iff_right k h).1 (subst (λ i. k ∣ i) e p)
    by_sizes k m n o (inr (inr e)) h p = subst (λ i. k ∣ i) (sym e) (dvd-add k h p)

-- a factor that has no common divisor with a number adds nothing to its greatest common divisor with the other factor
pub IsGcd-coprime_factor : (n m g h : ℕ) → IsCoprime n m → IsGcd n g h → IsGcd n (m * g) h
IsGcd-coprime_factor n m g h p q =
    (q.0, dvd_trans h q.1 (dvd-mul_left g m), λ d r s. q.2 d r (dvd-coprime d m g (IsCoprime-dvd n m d p r) s))
