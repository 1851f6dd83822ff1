-- The check over pool weights is the blending law of the plan that a written plan stands for.
use Rattle.std.proofs.Common.{◌≡◌, ℕ, ◌*◌, ◌<◌, ◌≤◌, ◌⊎◌, ◌↔◌, inl, inr, Option, Some, None, ℤ, pos, ◌+ℤ◌, ◌*ℤ◌, ◌<ℤ◌, arith, refl, sym, ap, ◌∙◌}
use Rattle.std.proofs.Math.Nat.{mul-le-mul, mul-zero}
use Rattle.std.proofs.Math.IntN.{*ℤ-zero}
use Rattle.integers.specs.Sums.{product_below, product_but}
use Rattle.integers.proofs.Ring.{additive, sorted, mul-add, mul_assoc_ℤ}
use Rattle.integers.proofs.Order.{lt-mul, lt-cancel}
use Rattle.integers.proofs.AtKey.{sum_at-mul, int_sum_at-same, int_sum_at-mul, product_but_is, positive-product_below, term-le-sum_at}
use Rattle.pool_model.specs.Network.{Net}
use Rattle.pool_model.specs.Plan.{Written, weight, written_out, written_outflow, plan_of, outflow, product_inflow, mix, treated, direct_mix, factor, limit_room, quality_inflow, quality_room}
use Rattle.plan_core.specs.Weighed.{weighed, leaving, pooled_below, sent_below, written_quality, IsAbove, IsBelow}
use Rattle.plan_core.specs.Faults.{IsAboveMost, IsBelowLeast}

-- products in another order
last_first : (q a b : ℤ) → q *ℤ (a *ℤ b) ≡ b *ℤ (q *ℤ a)
last_first q a b = simp sorted refl

base_joined : (m s t p r y : ℤ) → m *ℤ (s *ℤ (t *ℤ p)) *ℤ (r *ℤ y) ≡ (m *ℤ (r *ℤ t)) *ℤ (s *ℤ p *ℤ y)
base_joined m s t p r y = simp sorted refl

-- a pool's quality in the plan: its outflow times what the weights give
mix-plan_of : (n : Net) (w : Written) (l k : ℕ) → mix n (plan_of n w) l k ≡ pos (written_outflow n w l) *ℤ weighed n w l k
mix-plan_of n w l k =
    let quality = λ (e : ℕ). n.source_quality (n.feed_source e) k in
    int_sum_at-same n.feed_pool l (λ e. quality e *ℤ pos (weight w e * written_outflow n w (n.feed_pool e))) (λ e. pos (written_outflow n w l) *ℤ (quality e *ℤ pos (weight w e))) n.feeds
    (λ e lt is. ap (λ i. quality e *ℤ pos (weight w e * written_outflow n w i)) is ∙ last_first (quality e) (pos (weight w e)) (pos (written_outflow n w l)))
    ∙ int_sum_at-mul n.feed_pool l (pos (written_outflow n w l)) (λ e. quality e *ℤ pos (weight w e)) n.feeds

pub outflow-plan_of : (n : Net) (w : Written) (l : ℕ) → outflow n (plan_of n w) l ≡ w.base * written_outflow n w l
outflow-plan_of n w l = sum_at-mul n.out_pool l w.base (written_out w) n.outs

zero_or_more : (t : ℕ) → (t ≡ 0) ⊎ (1 ≤ t)
zero_or_more t = grind arith

all_zero : (a : ℤ) (r : ℕ) (m p : ℤ) → a *ℤ pos (r * 0) ≡ m *ℤ (p *ℤ pos 0)
all_zero a r m p = rw (mul-zero, *ℤ-zero, *ℤ-zero, *ℤ-zero) refl

-- the product of the factors of all pools
abbrev pub factors : Net → Written → ℤ
factors n w = pos (product_below (factor n (plan_of n w)) n.pools)

-- one out: its pool's other factors times what leaves the pool are all factors times what the weights give
out-plan_of : (n : Net) (w : Written) (k o : ℕ) → o < n.outs → n.out_pool o < n.pools → 0 < w.base →
    pos (product_but (n.out_pool o) (factor n (plan_of n w)) n.pools) *ℤ treated n (plan_of n w) (n.out_pool o) k *ℤ pos (w.base * written_out w o)
    ≡ factors n w *ℤ (leaving n w (n.out_pool o) k *ℤ pos (written_out w o))
out-plan_of n w k o lt in_pools positive =
    let l = n.out_pool o in
    let t = written_outflow n w l in
    let f = factor n (plan_of n w) in
    let others = product_but l f n.pools in
    let given = weighed n w l k in
    let kept = pos (n.retained l k) in
    let small : written_out w o ≤ t = term-le-sum_at n.out_pool l (written_out w) n.outs o lt refl in
    elim (zero_or_more t) [
      | inl z ↦ let none : written_out w o ≡ 0 = omega arith in
          ap (λ y. pos others *ℤ treated n (plan_of n w) l k *ℤ pos (w.base * y)) none
          ∙ all_zero (pos others *ℤ treated n (plan_of n w) l k) w.base (pos (product_below f n.pools)) (leaving n w l k)
          ∙ sym (ap (λ y. pos (product_below f n.pools) *ℤ (leaving n w l k *ℤ pos y)) none)
      | inr m ↦ let whole : f l ≡ w.base * t = omega (arith, outflow-plan_of n w l, mul-le-mul positive m) in
          ap (λ z. pos others *ℤ (kept *ℤ z) *ℤ pos (w.base * written_out w o)) (mix-plan_of n w l k)
          ∙ base_joined (pos others) kept (pos t) given (pos w.base) (pos (written_out w o))
          ∙ ap (λ z. pos z *ℤ (leaving n w l k *ℤ pos (written_out w o))) (sym (ap (λ z. others * z) whole) ∙ product_but_is l f n.pools in_pools)
    ]

-- what directs bring, each scaled by itself
sent-plan_of : (n : Net) (w : Written) (j k : ℕ) → direct_mix n (plan_of n w) j k ≡ sent_below n w k n.directs j
sent-plan_of n w j k =
    let quality = λ (e : ℕ). n.source_quality (n.direct_source e) k in
    let flow = (plan_of n w).direct in
    sym (int_sum_at-same n.direct_product j (λ e. pos n.scale *ℤ quality e *ℤ pos (flow e)) (λ e. pos n.scale *ℤ (quality e *ℤ pos (flow e))) n.directs
    (λ e lt is. mul_assoc_ℤ (pos n.scale) (quality e) (pos (flow e)))
    ∙ int_sum_at-mul n.direct_product j (pos n.scale) (λ e. quality e *ℤ pos (flow e)) n.directs)

-- the quality that reaches a product is the factors of all pools times what the check adds up
pub inflow-plan_of : (n : Net) (w : Written) (j k : ℕ) → ((o : ℕ) → o < n.outs → n.out_pool o < n.pools) → 0 < w.base → quality_inflow n (plan_of n w) j k ≡ factors n w *ℤ written_quality n w j k
inflow-plan_of n w j k arcs positive =
    let m = factors n w in
    let through = λ (o : ℕ). leaving n w (n.out_pool o) k *ℤ pos (written_out w o) in
    ap (λ z. z +ℤ m *ℤ direct_mix n (plan_of n w) j k)
    (int_sum_at-same n.out_product j
    (λ o. pos (product_but (n.out_pool o) (factor n (plan_of n w)) n.pools) *ℤ treated n (plan_of n w) (n.out_pool o) k *ℤ pos (w.base * written_out w o)) (λ o. m *ℤ through o) n.outs
    (λ o lt is. out-plan_of n w k o lt (arcs o lt) positive)
    ∙ int_sum_at-mul n.out_product j m through n.outs)
    ∙ ap (λ z. m *ℤ pooled_below n w k n.outs j +ℤ m *ℤ z) (sent-plan_of n w j k)
    ∙ sym (mul-add m (pooled_below n w k n.outs j) (sent_below n w k n.directs j))

factors-positive : (n : Net) (w : Written) → pos 0 <ℤ factors n w
factors-positive n w = let above = positive-product_below (factor n (plan_of n w)) n.pools (λ l. omega arith) in omega (arith, additive, above)

-- the two sides of a most
most-plan_of : (n : Net) (w : Written) (j k : ℕ) (u : ℤ) → ((o : ℕ) → o < n.outs → n.out_pool o < n.pools) → 0 < w.base
    → (quality_room n (plan_of n w) j u <ℤ quality_inflow n (plan_of n w) j k) ↔ (limit_room n (plan_of n w) j u <ℤ written_quality n w j k)
most-plan_of n w j k u arcs positive =
    let m = factors n w in
    let whole = factors-positive n w in
    rw (inflow-plan_of n w j k arcs positive) (
      (λ h. lt-cancel m (limit_room n (plan_of n w) j u) (written_quality n w j k) whole h),
      (λ h. lt-mul m (limit_room n (plan_of n w) j u) (written_quality n w j k) whole h),
    )

-- and of a least
least-plan_of : (n : Net) (w : Written) (j k : ℕ) (u : ℤ) → ((o : ℕ) → o < n.outs → n.out_pool o < n.pools) → 0 < w.base
    → (quality_inflow n (plan_of n w) j k <ℤ quality_room n (plan_of n w) j u) ↔ (written_quality n w j k <ℤ limit_room n (plan_of n w) j u)
least-plan_of n w j k u arcs positive =
    let m = factors n w in
    let whole = factors-positive n w in
    rw (inflow-plan_of n w j k arcs positive) (
      (λ h. lt-cancel m (written_quality n w j k) (limit_room n (plan_of n w) j u) whole h),
      (λ h. lt-mul m (written_quality n w j k) (limit_room n (plan_of n w) j u) whole h),
    )

-- the check's test is the plan's
pub above_most : (n : Net) (w : Written) (j k : ℕ) → ((o : ℕ) → o < n.outs → n.out_pool o < n.pools) → 0 < w.base
    → IsAbove (pos n.scale) (n.most j k) (product_inflow n (plan_of n w) j) (written_quality n w j k) → IsAboveMost n (plan_of n w) j k
above_most n w j k arcs positive h = by_limit (n.most j k) refl h
  where
    by_limit : (limit : Option ℤ) → n.most j k ≡ limit → IsAbove (pos n.scale) limit (product_inflow n (plan_of n w) j) (written_quality n w j k) → IsAboveMost n (plan_of n w) j k
    by_limit None e h = absurd h
    by_limit (Some u) e h = record { most = u; is = e; above = (most-plan_of n w j k u arcs positive).1 h }

pub most_above : (n : Net) (w : Written) (j k : ℕ) → ((o : ℕ) → o < n.outs → n.out_pool o < n.pools) → 0 < w.base
    → IsAboveMost n (plan_of n w) j k → IsAbove (pos n.scale) (n.most j k) (product_inflow n (plan_of n w) j) (written_quality n w j k)
most_above n w j k arcs positive h = rw h.is ((most-plan_of n w j k h.most arcs positive).0 h.above)

pub below_least : (n : Net) (w : Written) (j k : ℕ) → ((o : ℕ) → o < n.outs → n.out_pool o < n.pools) → 0 < w.base
    → IsBelow (pos n.scale) (n.least j k) (product_inflow n (plan_of n w) j) (written_quality n w j k) → IsBelowLeast n (plan_of n w) j k
below_least n w j k arcs positive h = by_limit (n.least j k) refl h
  where
    by_limit : (limit : Option ℤ) → n.least j k ≡ limit → IsBelow (pos n.scale) limit (product_inflow n (plan_of n w) j) (written_quality n w j k) → IsBelowLeast n (plan_of n w) j k
    by_limit None e h = absurd h
    by_limit (Some u) e h = record { least = u; is = e; below = (least-plan_of n w j k u arcs positive).1 h }

pub least_below : (n : Net) (w : Written) (j k : ℕ) → ((o : ℕ) → o < n.outs → n.out_pool o < n.pools) → 0 < w.base
    → IsBelowLeast n (plan_of n w) j k → IsBelow (pos n.scale) (n.least j k) (product_inflow n (plan_of n w) j) (written_quality n w j k)
least_below n w j k arcs positive h = rw h.is ((least-plan_of n w j k h.least arcs positive).0 h.below)
