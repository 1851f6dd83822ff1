-- Least bases of parts, pool by pool, and weights over them.
use Rattle.std.proofs.Common.{◌≡◌, ℕ, zero, suc, ◌+◌, ◌*◌, ◌/◌, ◌<◌, ◌≤◌, ◌^◌, ◌↔◌, length, get_or, arith, refl, sym, ap, subst, ◌∙◌, below_more}
use Rattle.std.specs.Int.{◌∣◌}
use Rattle.std.proofs.Math.Nat.{div-mul_cancel, mul-dvd-mul_left, mul-dvd-mul_right, dvd_of_mul-dvd-mul_right, dvd-mul_right, mul_comm, mul-zero, one-dvd}
use Rattle.std.proofs.Math.Nat.{mul-le-mul, mul-le-mul_left, le_of_mul-le-mul_left, div-le_self}
use Rattle.std.proofs.lemmas.Nat.Gcd.{dvd_trans, le_of_dvd, dvd-zero}
use Rattle.std.proofs.lemmas.List.Elements.{All-get_or}
use Rattle.std.proofs.lemmas.List.{get_or_default}
use Rattle.integers.specs.Numbers.{numbers_at}
use Rattle.integers.proofs.Numbers.{numbers_at-each, numbers_at-every}
use Rattle.pool_model.specs.Network.{Net, IsLimited}
use Rattle.pool_model.specs.Plan.{Plan, Carries, outflow}
use Rattle.row_model.proofs.Shares.{feed-le, no_feed}
use Rattle.program_model.specs.LeastBases.{AreWholeParts, IsLeastPartBase}
use Rattle.form_plans.specs.Divisors.{IsDivisorOf, IsLcm}
use Rattle.form_plans.specs.Parts.{AreWholeAt, IsPart, IsPoolBase, AreTooFineParts}

-- a pool that sends nothing
pub empty-base : (n : Net) (p : Plan) (l : ℕ) → IsLimited n → Carries n p → outflow n p l ≡ 0 → IsPoolBase n p l 1
empty-base n p l lim carries z = record {
  positive = omega arith;
  whole = λ base. (
    λ _ e lt is.
        let none : p.feed e ≡ 0 = no_feed n p e lim carries lt (ap (outflow n p) is ∙ z) in
        subst (λ (x : ℕ). outflow n p l ∣ x) (sym (ap (λ x. base * x) none ∙ mul-zero base)) (dvd-zero (outflow n p l)),
    λ _. one-dvd base,
  );
}

-- a pool that sends something
pub full-base : (n : Net) (p : Plan) (l g : ℕ) → 0 < outflow n p l
    → (let numbers = numbers_at n.feed_pool l n.feeds in IsDivisorOf (outflow n p l) (λ i. p.feed (get_or numbers i 0)) (length numbers) g) → IsPoolBase n p l (outflow n p l / g)
full-base n p l g sends d =
    let t = outflow n p l in
    let numbers = numbers_at n.feed_pool l n.feeds in
    let positive : 0 < g = d.positive sends in
    let quotient : t / g * g ≡ t = div-mul_cancel g d.whole in
    record {
      positive = positive_part (t / g) g t quotient sends;
      whole = λ base. (
        λ h e lt is.
            let all : t ∣ (base * g) = subst (λ (x : ℕ). x ∣ (base * g)) quotient (mul-dvd-mul_right (t / g) h g) in
            let at = numbers_at-every n.feed_pool l n.feeds e lt is in
            let same : get_or numbers at.0 0 ≡ e = get_or_default numbers at.0 0 e at.1 ∙ at.2 in
            dvd_trans t all (mul-dvd-mul_left g base (subst (λ (x : ℕ). g ∣ p.feed x) same (d.parts at.0 at.1))),
        λ w.
            let each = λ (i : ℕ) (lt : i < length numbers). All-get_or (λ e. (e < n.feeds) × (n.feed_pool e ≡ l)) numbers i 0 lt (numbers_at-each n.feed_pool l n.feeds) in
            let all : t ∣ (base * g) = d.greatest t base (subst (λ (x : ℕ). t ∣ x) (mul_comm t base) (dvd-mul_right t base)) (λ i lt. w (get_or numbers i 0) (each i lt).0 (each i lt).1) in
            dvd_of_mul-dvd-mul_right {k = g} (t / g) {n = base} positive (subst (λ (x : ℕ). x ∣ (base * g)) (sym quotient) all),
      );
    }
  where
    positive_part : (q g b : ℕ) → q * g ≡ b → 0 < b → 0 < q
    positive_part zero g b e h = omega (arith, e)
    positive_part (suc q) g b e h = omega arith

-- ---- over pools

-- the least base for the pools below a number
pub record IsBaseBelow (n : Net) (p : Plan) (count least : ℕ) : Type 0 where
  pub positive : 0 < least
  pub whole : (base : ℕ) → (least ∣ base) ↔ ((l : ℕ) → l < count → AreWholeAt n p l base)

pub base-none : (n : Net) (p : Plan) → IsBaseBelow n p 0 1
base-none n p = record { positive = omega arith; whole = λ base. (λ _ l lt. absurd (omega arith), λ _. one-dvd base) }

pub base-more : (n : Net) (p : Plan) (count a b m : ℕ) → IsBaseBelow n p count a → IsPoolBase n p count b → IsLcm a b m → IsBaseBelow n p (count + 1) m
base-more n p count a b m below here both = record {
  positive = both.positive;
  whole = λ base. (
    λ h. let parts = (both.multiples base).0 h in below_more (λ l. AreWholeAt n p l base) count ((below.whole base).0 parts.0) ((here.whole base).0 parts.1),
    λ w. (both.multiples base).1 ((below.whole base).1 (λ l lt. w l (omega arith)), (here.whole base).1 (w count (omega arith))),
  );
}

parts-at : (n : Net) (p : Plan) (base : ℕ) → AreWholeParts n p base → (l : ℕ) → AreWholeAt n p l base
parts-at n p base w l e lt is = subst (λ (i : ℕ). outflow n p i ∣ (base * p.feed e)) is (w e lt)

pub base-all : (n : Net) (p : Plan) (count least : ℕ) → IsLimited n → n.pools ≤ count → IsBaseBelow n p count least → IsLeastPartBase n p least
base-all n p count least lim le below = record {
  positive = below.positive;
  whole = λ base. (
    λ w. (below.whole base).1 (λ l lt. parts-at n p base w l),
    λ h e lt. (below.whole base).0 h (n.feed_pool e) (omega (arith, lim.feed_pools e lt)) e lt refl,
  );
}

pub base-too_fine : (n : Net) (p : Plan) (count least : ℕ) → IsBaseBelow n p count least → 1048576 < least → AreTooFineParts n p
base-too_fine n p count least below over base positive w = omega (arith, over, le_of_dvd positive ((below.whole base).1 (λ l lt. parts-at n p base w l)))

-- ---- weights

-- a part is at most the base, and exact
pub part-exact : (x b t : ℕ) → t ∣ (b * x) → x * b / t * t ≡ x * b
part-exact x b t h = div-mul_cancel t (subst (λ (z : ℕ). t ∣ z) (mul_comm b x) h)

pub part-small : (x b t q : ℕ) → 0 < t → x ≤ t → q * t ≡ x * b → q ≤ b
part-small x b t q positive le e = le_of_mul-le-mul_left {m = q} {n = b} {k = t} (omega (arith, e, mul-le-mul_left b le)) positive

pub quotient-le : (t g : ℕ) → t / g ≤ t
quotient-le t g = div-le_self t g

pub product-fits : (a b : ℕ) → a ≤ 1048576 → b ≤ 2 ^ 92 → a * b < 2 ^ 128
product-fits a b h k = omega (arith, mul-le-mul h k)

pub part-full : (n : Net) (p : Plan) (base e weight : ℕ) → 0 < outflow n p (n.feed_pool e) → weight * outflow n p (n.feed_pool e) ≡ p.feed e * base → IsPart n p base e weight
part-full n p base e weight sends exact = record { part = λ _. exact; empty = λ none. absurd (omega (arith, sends, none)) }

-- as the code computes it
pub part-computed : (n : Net) (p : Plan) (base b t e : ℕ) → e < n.feeds → AreWholeParts n p base → b ≡ base → t ≡ outflow n p (n.feed_pool e) → 0 < t → IsPart n p base e (p.feed e * b / t)
part-computed n p base b t e lt whole eb et positive =
    let sent = outflow n p (n.feed_pool e) in
    subst (λ (z : ℕ). IsPart n p base e (p.feed e * z / t)) (sym eb)
    (subst (λ (z : ℕ). IsPart n p base e (p.feed e * base / z)) (sym et)
    (part-full n p base e (p.feed e * base / sent) (omega (arith, et, positive)) (part-exact (p.feed e) base sent (whole e lt))))

pub part-within : (n : Net) (p : Plan) (base b t e : ℕ) → IsLimited n → Carries n p → e < n.feeds → AreWholeParts n p base → b ≡ base →
    t ≡ outflow n p (n.feed_pool e) → 0 < t → p.feed e * b / t ≤ base
part-within n p base b t e lim carries lt whole eb et positive =
    let sent = outflow n p (n.feed_pool e) in
    let sends : 0 < sent = omega (arith, et, positive) in
    part-small (p.feed e) base sent (p.feed e * b / t) sends (feed-le n p e lim carries lt) ((part-computed n p base b t e lt whole eb et positive).part (λ z. absurd (omega (arith, sends, z))))
