-- The blending law of a plan, by the qualities of its pools over one base in place of the factors of all pools.
use Rattle.std.proofs.Common.{◌≡◌, ℕ, ◌<◌, Some, ℤ, pos, ◌+ℤ◌, ◌*ℤ◌, ◌≤ℤ◌, ◌<ℤ◌, arith, refl, sym, ap, ◌∙◌}
use Rattle.integers.specs.Sums.{product_below, int_sum_at, product_but}
use Rattle.integers.proofs.Ring.{additive, linear, sorted, mul-add, mul_left_comm_ℤ}
use Rattle.integers.proofs.Order.{le-mul, le-cancel}
use Rattle.integers.proofs.AtKey.{int_sum_at-same, int_sum_at-mul, product_but_is, positive-product_below}
use Rattle.pool_model.specs.Network.{Net, IsLimited}
use Rattle.pool_model.specs.Plan.{Plan, Blends, outflow, limit_room, treated, direct_mix, factor, quality_inflow, quality_room}
use Rattle.row_model.proofs.Shares.{out-le}
use Rattle.row_model.proofs.QRows.{others-flow}

-- what leaves each pool has this quality in parts of the scale, over the base
pub record HasQualities (n : Net) (p : Plan) (base : ℕ) (quality : ℕ → ℕ → ℤ) : Type 0 where
  pub each : (l k : ℕ) → l < n.pools → k < n.qualities → pos base *ℤ treated n p l k ≡ quality l k *ℤ pos (outflow n p l)

-- the quality that reaches a product, in parts of the scale, times its flow and the base
abbrev pub mean_inflow : Net → Plan → ℕ → (ℕ → ℕ → ℤ) → ℕ → ℕ → ℤ
mean_inflow n p base quality j k = int_sum_at n.out_product j (λ o. quality (n.out_pool o) k *ℤ pos (p.out o)) n.outs +ℤ pos base *ℤ direct_mix n p j k

-- a quality, in parts of the scale, times the product's inflow and the base
abbrev pub mean_room : Net → Plan → ℕ → ℕ → ℤ → ℤ
mean_room n p base j u = pos base *ℤ limit_room n p j u

-- the product of the factors of all pools
abbrev pub all_factors : Net → Plan → ℕ
all_factors n p = product_below (factor n p) n.pools

pub positive-factors : (n : Net) (p : Plan) → 0 < all_factors n p
positive-factors n p = positive-product_below (factor n p) n.pools (λ l. omega arith)

-- one out: its pool's other factors times what it retains of its mix are all factors times the quality that leaves it
out-mean : (n : Net) (p : Plan) (base : ℕ) (quality : ℕ → ℕ → ℤ) (k o : ℕ) → HasQualities n p base quality → o < n.outs → n.out_pool o < n.pools → k < n.qualities
    → pos base *ℤ (pos (product_but (n.out_pool o) (factor n p) n.pools) *ℤ treated n p (n.out_pool o) k *ℤ pos (p.out o))
    ≡ pos (all_factors n p) *ℤ (quality (n.out_pool o) k *ℤ pos (p.out o))
out-mean n p base quality k o h lt below lk =
    let l = n.out_pool o in
    let b = product_but l (factor n p) n.pools in
    regroup (pos base) (pos b) (treated n p l k) (pos (p.out o))
    ∙ ap (λ z. (pos b *ℤ pos (p.out o)) *ℤ z) (h.each l k below lk)
    ∙ turned (pos b) (pos (p.out o)) (quality l k) (pos (outflow n p l))
    ∙ ap (λ z. pos z *ℤ quality l k) (others-flow b (outflow n p l) (all_factors n p) (p.out o) (product_but_is l (factor n p) n.pools below) (out-le n p o lt))
    ∙ last (pos (all_factors n p)) (pos (p.out o)) (quality l k)
  where
    regroup : (r b m y : ℤ) → r *ℤ (b *ℤ m *ℤ y) ≡ (b *ℤ y) *ℤ (r *ℤ m)
    regroup r b m y = simp sorted refl

    turned : (b y q t : ℤ) → (b *ℤ y) *ℤ (q *ℤ t) ≡ (b *ℤ y *ℤ t) *ℤ q
    turned b y q t = simp sorted refl

    last : (m y q : ℤ) → (m *ℤ y) *ℤ q ≡ m *ℤ (q *ℤ y)
    last m y q = simp sorted refl

-- what reaches a product, by the qualities of the pools
pub quality_inflow-mean : (n : Net) (p : Plan) (base : ℕ) (quality : ℕ → ℕ → ℤ) (j k : ℕ) → IsLimited n → HasQualities n p base quality → k < n.qualities
    → pos base *ℤ quality_inflow n p j k ≡ pos (all_factors n p) *ℤ mean_inflow n p base quality j k
quality_inflow-mean n p base quality j k lim h lk =
    let through = λ (o : ℕ). pos (product_but (n.out_pool o) (factor n p) n.pools) *ℤ treated n p (n.out_pool o) k *ℤ pos (p.out o) in
    let mean = λ (o : ℕ). quality (n.out_pool o) k *ℤ pos (p.out o) in
    let m = pos (all_factors n p) in
    let d = direct_mix n p j k in
    mul-add (pos base) (int_sum_at n.out_product j through n.outs) (m *ℤ d)
    ∙ ap (λ z. z +ℤ pos base *ℤ (m *ℤ d))
    (sym (int_sum_at-mul n.out_product j (pos base) through n.outs)
    ∙ int_sum_at-same n.out_product j (λ o. pos base *ℤ through o) (λ o. m *ℤ mean o) n.outs (λ o lo is. out-mean n p base quality k o h lo (lim.out_pools o lo) lk)
    ∙ int_sum_at-mul n.out_product j m mean n.outs)
    ∙ ap (λ z. m *ℤ int_sum_at n.out_product j mean n.outs +ℤ z) (mul_left_comm_ℤ (pos base) m d)
    ∙ sym (mul-add m (int_sum_at n.out_product j mean n.outs) (pos base *ℤ d))

-- the room of a limit, by the base
quality_room-mean : (n : Net) (p : Plan) (base j : ℕ) (u : ℤ) → pos base *ℤ quality_room n p j u ≡ pos (all_factors n p) *ℤ mean_room n p base j u
quality_room-mean n p base j u = mul_left_comm_ℤ (pos base) (pos (all_factors n p)) (limit_room n p j u)

-- each product's mean lies between its limits, by the qualities of the pools
pub record BlendsByMeans (n : Net) (p : Plan) (base : ℕ) (quality : ℕ → ℕ → ℤ) : Type 0 where
  pub at_most : (j k : ℕ) (u : ℤ) → j < n.products → k < n.qualities → n.most j k ≡ Some u → mean_inflow n p base quality j k ≤ℤ mean_room n p base j u
  pub at_least : (j k : ℕ) (u : ℤ) → j < n.products → k < n.qualities → n.least j k ≡ Some u → mean_room n p base j u ≤ℤ mean_inflow n p base quality j k

positive-ℤ : (m : ℕ) → 0 < m → pos 0 <ℤ pos m
positive-ℤ m h = omega (arith, linear)

-- two comparisons, each multiplied by its own factor, are one
exchanged : (r m : ℕ) (a b c d : ℤ) → 0 < r → 0 < m → pos r *ℤ a ≡ pos m *ℤ c → pos r *ℤ b ≡ pos m *ℤ d → c ≤ℤ d → a ≤ℤ b
exchanged r m a b c d hr hm e f h = le-cancel (pos r) a b (positive-ℤ r hr) (omega (arith, additive, e, f, le-mul (pos m) c d (omega (arith, linear)) h))

pub blends-by_means : (n : Net) (p : Plan) (base : ℕ) (quality : ℕ → ℕ → ℤ) → IsLimited n → 0 < base → HasQualities n p base quality → BlendsByMeans n p base quality → Blends n p
blends-by_means n p base quality lim more h b = record {
  at_most = λ j k u product lk set.
      exchanged base (all_factors n p) (quality_inflow n p j k) (quality_room n p j u) (mean_inflow n p base quality j k) (mean_room n p base j u) more (positive-factors n p)
      (quality_inflow-mean n p base quality j k lim h lk) (quality_room-mean n p base j u) (b.at_most j k u product lk set);
  at_least = λ j k u product lk set.
      exchanged base (all_factors n p) (quality_room n p j u) (quality_inflow n p j k) (mean_room n p base j u) (mean_inflow n p base quality j k) more (positive-factors n p)
      (quality_room-mean n p base j u) (quality_inflow-mean n p base quality j k lim h lk) (b.at_least j k u product lk set);
}

pub by_means-blends : (n : Net) (p : Plan) (base : ℕ) (quality : ℕ → ℕ → ℤ) → IsLimited n → 0 < base → HasQualities n p base quality → Blends n p → BlendsByMeans n p base quality
by_means-blends n p base quality lim more h b = record {
  at_most = λ j k u product lk set.
      exchanged (all_factors n p) base (mean_inflow n p base quality j k) (mean_room n p base j u) (quality_inflow n p j k) (quality_room n p j u) (positive-factors n p) more
      (sym (quality_inflow-mean n p base quality j k lim h lk)) (sym (quality_room-mean n p base j u)) (b.at_most j k u product lk set);
  at_least = λ j k u product lk set.
      exchanged (all_factors n p) base (mean_room n p base j u) (mean_inflow n p base quality j k) (quality_room n p j u) (quality_inflow n p j k) (positive-factors n p) more
      (sym (quality_room-mean n p base j u)) (sym (quality_inflow-mean n p base quality j k lim h lk)) (b.at_least j k u product lk set);
}
