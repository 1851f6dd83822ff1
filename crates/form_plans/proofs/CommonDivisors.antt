-- Divisors of a number and others, one after another, and the least base that they leave.
use Rattle.std.proofs.Common.{◌≡◌, ℕ, zero, suc, ◌+◌, ◌*◌, ◌/◌, ◌<◌, ◌⊎◌, inl, inr, arith, sym, subst}
use Rattle.std.specs.Int.{◌∣◌, IsGcd}
use Rattle.std.proofs.Math.Nat.{div-mul_cancel, mul-dvd-mul_left, dvd_of_mul-dvd-mul_right, mul-dvd-mul_right, dvd-mul_right, mul_comm}
use Rattle.std.proofs.lemmas.Nat.Gcd.{dvd_refl, dvd_trans}
use Rattle.integers.proofs.Divides.{positive-gcd}
use Rattle.integers.proofs.Twos.{IsGcd-scaled}
use Rattle.pool_model.specs.Network.{Net}
use Rattle.pool_model.specs.Plan.{Plan}
use Rattle.program_model.specs.LeastBases.{IsLeastFlowBase}
use Rattle.form_plans.specs.Divisors.{IsDivisorOf}

pub divisor-none : (start : ℕ) (parts : ℕ → ℕ) → IsDivisorOf start parts 0 start
divisor-none start parts = record { positive = λ h. h; whole = dvd_refl start; parts = λ i lt. absurd (omega arith); greatest = λ k m h all. h }

last_or_below : (i n : ℕ) → i < n + 1 → (i ≡ n) ⊎ (i < n)
last_or_below i n h = grind arith

pub divisor-more : (start : ℕ) (parts : ℕ → ℕ) (n g h : ℕ) → 0 < g → IsDivisorOf start parts n g → IsGcd (parts n) g h → IsDivisorOf start parts (n + 1) h
divisor-more start parts n g h positive d both = record {
  positive = λ p. positive-gcd (parts n) g h positive both;
  whole = dvd_trans h both.1 d.whole;
  parts = λ i lt. elim (last_or_below i n lt) [
    | inl e ↦ subst (λ (j : ℕ). h ∣ parts j) (sym e) both.0
    | inr below ↦ dvd_trans h both.1 (d.parts i below)
  ];
  greatest = λ k m whole all. (IsGcd-scaled m (parts n) g h both).2 k (all n (omega arith)) (d.greatest k m whole (λ i lt. all i (omega arith)));
}

-- ---- the least base of flows

-- the divisor of the base, then of the outs, then of the directs
pub least-flow_base : (n : Net) (p : Plan) (f g : ℕ) → 0 < p.base → IsDivisorOf p.base p.out n.outs f → IsDivisorOf f p.direct n.directs g → IsLeastFlowBase n p (p.base / g)
least-flow_base n p f g positive outs directs =
    let g_positive : 0 < g = directs.positive (outs.positive positive) in
    let divides : g ∣ p.base = dvd_trans g directs.whole outs.whole in
    let quotient : p.base / g * g ≡ p.base = div-mul_cancel g divides in
    record {
      positive = positive_quotient (p.base / g) g p.base quotient positive;
      whole = λ m. (
        λ w. dvd_of_mul-dvd-mul_right {k = g} (p.base / g) {n = m} g_positive
            (subst (λ (z : ℕ). z ∣ (m * g)) (sym quotient)
            (directs.greatest p.base m (outs.greatest p.base m (subst (λ (z : ℕ). p.base ∣ z) (mul_comm p.base m) (many p.base m)) w.out) w.direct)),
        λ d.
            let all : p.base ∣ (m * g) = subst (λ (z : ℕ). z ∣ (m * g)) quotient (mul-dvd-mul_right (p.base / g) d g) in
            record {
              out = λ o lt. dvd_trans p.base all (mul-dvd-mul_left g m (dvd_trans g directs.whole (outs.parts o lt)));
              direct = λ e lt. dvd_trans p.base all (mul-dvd-mul_left g m (directs.parts e lt));
            },
      );
    }
  where
    positive_quotient : (q g b : ℕ) → q * g ≡ b → 0 < b → 0 < q
    positive_quotient zero g b e h = omega (arith, e)
    positive_quotient (suc q) g b e h = omega arith

    many : (b m : ℕ) → b ∣ (b * m)
    many b m = dvd-mul_right b m
