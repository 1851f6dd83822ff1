-- The least common multiple of two numbers.
use Rattle.std.proofs.Common.{◌≡◌, ℕ, zero, suc, ◌*◌, ◌/◌, ◌<◌, ◌≤◌, arith, sym, ap, subst, ◌∙◌}
use Rattle.std.specs.Int.{◌∣◌, IsGcd}
use Rattle.std.proofs.Math.Nat.{div-mul_cancel, mul-dvd-mul_left, dvd-mul_right, mul_comm, dvd_of_mul-dvd-mul_right, mul-le-mul}
use Rattle.std.proofs.lemmas.Nat.Gcd.{dvd_trans}
use Rattle.integers.proofs.Divides.{dvd-scaled, positive-gcd}
use Rattle.form_plans.specs.Divisors.{IsLcm}

-- a product in another order
regroup : (q g r : ℕ) → q * (r * g) ≡ (q * g) * r
regroup q g r = omega arith

regroup_left : (q g b : ℕ) → (q * g) * b ≡ (q * b) * g
regroup_left q g b = omega arith

positive_part : (q g n : ℕ) → q * g ≡ n → 0 < n → 0 < q
positive_part zero g n e h = omega (arith, e)
positive_part (suc q) g n e h = omega arith

positive_product : (a b : ℕ) → 0 < a → 0 < b → 0 < a * b
positive_product a b h k = mul-le-mul h k

-- a part of a number is at most that number
part-le : (q g n : ℕ) → q * g ≡ n → 0 < g → q ≤ n
part-le q zero n e h = absurd (omega arith)
part-le q (suc g) n e h = grind arith

-- a common multiple is one of the least
common-multiple : (a b g c q : ℕ) → 0 < g → IsGcd a b g → q * g ≡ a → a ∣ c → b ∣ c → (q * b) ∣ c
common-multiple a b g c q pg gcd qg ha hb =
    let by_first : (a * b) ∣ (a * c) = mul-dvd-mul_left b a hb in
    let by_second : (a * b) ∣ (b * c) = subst (λ (z : ℕ). z ∣ (b * c)) (mul_comm b a) (mul-dvd-mul_left a b ha) in
    let both : (a * b) ∣ (g * c) = dvd-scaled (suc b) a b g c (a * b) (omega arith) gcd by_first by_second in
    dvd_of_mul-dvd-mul_right {k = g} (q * b) {n = c} pg (subst (λ (z : ℕ). z ∣ (c * g)) (ap (λ z. z * b) (sym qg) ∙ regroup_left q g b) (subst (λ (z : ℕ). (a * b) ∣ z) (mul_comm g c) both))

pub lcm-from_gcd : (a b g : ℕ) → 0 < a → 0 < b → IsGcd a b g → IsLcm a b (a / g * b)
lcm-from_gcd a b g pa pb gcd =
    let pg : 0 < g = positive-gcd a b g pb gcd in
    let q = a / g in
    let r = b / g in
    let qg : q * g ≡ a = div-mul_cancel g gcd.0 in
    let rg : r * g ≡ b = div-mul_cancel g gcd.1 in
    let by_a : a ∣ (q * b) = subst (λ (z : ℕ). a ∣ z) (sym (ap (λ z. q * z) (sym rg) ∙ regroup q g r ∙ ap (λ z. z * r) qg)) (dvd-mul_right a r) in
    let by_b : b ∣ (q * b) = subst (λ (z : ℕ). b ∣ z) (mul_comm b q) (dvd-mul_right b q) in
    record {
      positive = positive_product q b (positive_part q g a qg pa) pb;
      multiples = λ c. (
        λ h. (dvd_trans a by_a h, dvd_trans b by_b h),
        λ h. common-multiple a b g c q pg gcd qg h.0 h.1,
      );
    }

pub lcm-le : (a b g : ℕ) → 0 < b → IsGcd a b g → a / g * b ≤ a * b
lcm-le a b g pb gcd = let le = part-le (a / g) g a (div-mul_cancel g gcd.0) (positive-gcd a b g pb gcd) in grind (arith, le)
