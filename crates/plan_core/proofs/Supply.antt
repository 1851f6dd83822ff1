-- What all sources send out is what flows into all products, and how large the numbers of a plan are.
use Rattle.std.proofs.Common.{◌≡◌, ℕ, ◌*◌, ◌^◌, ◌<◌, ◌≤◌, inl, inr, ℤ, pos, ◌*ℤ◌, unsigned_abs, arith, refl, ap}
use Rattle.std.proofs.Math.Nat.{mul-le-mul, le_of_mul-le-mul_left}
use Rattle.std.proofs.lemmas.Int.{ints}
use Rattle.integers.specs.Sums.{sum_below, sum_at}
use Rattle.integers.proofs.Order.{abs-mul-le}
use Rattle.integers.proofs.AtKey.{same_or_other, sum_below-same, sum_at-mul, term-le-sum_at}
use Rattle.integers.proofs.ByNode.{sum_below-add, sum_keys, sum_at-same_key, sum_below-most}
use Rattle.integers.proofs.ByNode.{abs-int_sum_at}
use Rattle.pool_model.specs.Network.{Net, IsLimited, IsWithin}
use Rattle.pool_model.specs.Plan.{Written, weight, written_out, written_outflow, plan_of, outflow, pool_inflow, source_outflow, product_inflow}
use Rattle.plan_core.specs.Faults.{IsShaped, Keeps}
use Rattle.plan_core.specs.Weighed.{HasRoom}
use Rattle.plan_core.specs.declared.fault.PlanFault.TheVariants.{WeightSum, ProductOver}
use Rattle.plan_core.proofs.Blends.{outflow-plan_of}

pub not_less : (a b : ℕ) → ¬ (a < b) → b ≤ a
not_less a b h = grind arith

-- ---- what the rules say of a written plan
pub whole_weights : (n : Net) (w : Written) → Keeps n w (λ l. WeightSum l) → (l : ℕ) → l < n.pools → sum_at n.feed_pool l (weight w) n.feeds ≡ w.base
whole_weights n w kept l lt = elim (same_or_other (sum_at n.feed_pool l (weight w) n.feeds) w.base) [ inl e ↦ e | inr d ↦ absurd (kept l (lt, d)) ]

pub within_maximum : (n : Net) (w : Written) → Keeps n w (λ j. ProductOver j) → (j : ℕ) → j < n.products → product_inflow n (plan_of n w) j ≤ (plan_of n w).base * n.product_max j
within_maximum n w kept j lt = not_less _ _ (λ over. kept j (lt, over))

-- what flows into a pool flows out of it
pub balance : (n : Net) (w : Written) (l : ℕ) → sum_at n.feed_pool l (weight w) n.feeds ≡ w.base → pool_inflow n (plan_of n w) l ≡ outflow n (plan_of n w) l
balance n w l whole =
    let t = written_outflow n w l in
    omega (
      arith,
      sum_at-same_key n.feed_pool l (λ e. weight w e * written_outflow n w (n.feed_pool e)) (λ e. t * weight w e) n.feeds (λ e lt is. omega (arith, ap (λ i. weight w e * written_outflow n w i) is)),
      sum_at-mul n.feed_pool l t (weight w) n.feeds,
      ap (λ z. t * z) whole,
      outflow-plan_of n w l,
    )

-- all sources together send out what flows into all products together
supply_is : (n : Net) (w : Written) → IsLimited n → ((l : ℕ) → l < n.pools → sum_at n.feed_pool l (weight w) n.feeds ≡ w.base)
    → sum_below (source_outflow n (plan_of n w)) n.sources ≡ sum_below (product_inflow n (plan_of n w)) n.products
supply_is n w limited whole =
    let p = plan_of n w in
    omega (
      arith,
      sum_below-add (λ i. sum_at n.feed_source i p.feed n.feeds) (λ i. sum_at n.direct_source i p.direct n.directs) n.sources,
      sum_below-add (λ j. sum_at n.out_product j p.out n.outs) (λ j. sum_at n.direct_product j p.direct n.directs) n.products,
      sum_keys n.feed_source p.feed n.sources n.feeds limited.feed_sources,
      sum_keys n.direct_source p.direct n.sources n.directs limited.direct_sources,
      sum_keys n.out_product p.out n.products n.outs limited.out_products,
      sum_keys n.direct_product p.direct n.products n.directs limited.direct_products,
      sum_keys n.feed_pool p.feed n.pools n.feeds limited.feed_pools,
      sum_keys n.out_pool p.out n.pools n.outs limited.out_pools,
      sum_below-same (λ l. pool_inflow n p l) (λ l. outflow n p l) n.pools (λ l lt. balance n w l (whole l lt)),
    )

-- ---- sizes
three : (d r m a b c : ℕ) → d ≤ a → r ≤ b → m ≤ c → d * r * m ≤ a * b * c
three d r m a b c h k l = mul-le-mul (mul-le-mul h k) l

pub abs-within : (b : ℕ) (z : ℤ) → IsWithin b z → unsigned_abs z ≤ b
abs-within b z h = omega (arith, ints)

pub room_of : (n : Net) (w : Written) → IsLimited n → IsShaped n w → Keeps n w (λ l. WeightSum l) → Keeps n w (λ j. ProductOver j) → HasRoom n w
room_of n w limited shaped sums most = record {
  outflows = λ o lt. let j = n.out_product o in let in_products = limited.out_products o lt in
      let scaled : w.base * written_out w o ≤ w.base * (w.flow_base * n.product_max j) =
      omega (arith, term-le-sum_at n.out_product j (plan_of n w).out n.outs o lt refl, within_maximum n w most j in_products) in
      omega (arith, le_of_mul-le-mul_left scaled shaped.base.0, mul-le-mul shaped.flow_base.1 (limited.product_maxima j in_products));
  pooled = λ j lt. let total = sum_at n.out_product j (written_out w) n.outs in
      let scaled : w.base * total ≤ w.base * (w.flow_base * n.product_max j) =
      omega (arith, sum_at-mul n.out_product j w.base (written_out w) n.outs, within_maximum n w most j lt) in
      omega (arith, le_of_mul-le-mul_left scaled shaped.base.0, mul-le-mul shaped.flow_base.1 (limited.product_maxima j lt));
  weights = λ l lt. omega (arith, whole_weights n w sums l lt, shaped.base);
  directs = λ e lt. omega (arith, inflow (n.direct_product e) (limited.direct_products e lt), term-le-sum_at n.direct_product (n.direct_product e) (plan_of n w).direct n.directs e lt refl);
  weighed = λ l k in_pools in_qualities. omega (
    arith,
    abs-int_sum_at n.feed_pool l (λ e. n.source_quality (n.feed_source e) k *ℤ pos (weight w e)) (λ e. 10 ^ 11 * weight w e) n.feeds
        (λ e lt. abs-mul-le (n.source_quality (n.feed_source e) k) (pos (weight w e)) (10 ^ 11) (weight w e)
        (abs-within (10 ^ 11) _ (limited.source_qualities (n.feed_source e) k (limited.feed_sources e lt) in_qualities)) (omega arith)),
    sum_at-mul n.feed_pool l (10 ^ 11) (weight w) n.feeds,
    whole_weights n w sums l in_pools,
    shaped.base,
  );
  inflows = inflow;
  supply = omega (arith, supply_is n w limited (whole_weights n w sums), demand);
  demand = demand;
}
  where
    inflow : (j : ℕ) → j < n.products → product_inflow n (plan_of n w) j ≤ 2 ^ 76
    inflow j lt = omega (arith, within_maximum n w most j lt, three w.flow_base w.base (n.product_max j) 65536 1048576 (10 ^ 12) shaped.flow_base.1 shaped.base.1 (limited.product_maxima j lt))

    demand : sum_below (product_inflow n (plan_of n w)) n.products ≤ 2 ^ 82
    demand = omega (arith, sum_below-most (product_inflow n (plan_of n w)) (2 ^ 76) n.products inflow, mul-le-mul limited.products (let same : 2 ^ 76 ≤ 2 ^ 76 = omega arith in same))
