-- How much the rows and the cost weigh at the point of a written plan: what is added up for each stays within 2^126.
use Rattle.std.proofs.Common.{◌≡◌, ◌∙◌, ℕ, ◌+◌, ◌*◌, ◌^◌, ◌<◌, ◌≤◌, inl, inr, ℤ, pos, neg_ℤ, ◌+ℤ◌, ◌-ℤ◌, ◌*ℤ◌, unsigned_abs, ap, sym, refl, arith}
use Rattle.std.proofs.Math.Nat.{mul-le-mul, mul-le-mul_left, mul-le-mul_right}
use Rattle.std.proofs.lemmas.Int.{ints}
use Rattle.integers.specs.Sums.{product_below, sum_at, sum_below}
use Rattle.integers.proofs.AtKey.{chosen, passed, positive-product_below, same_or_other, sum_at-mul, sum_below-le, sum_below-mul, sum_below-same, term-le-sum_at}
use Rattle.integers.proofs.ByNode.{abs-int_sum_at, sum_at-same_key, sum_below-most, sum_keys}
use Rattle.integers.proofs.Order.{abs-mul-le, same-cancel}
use Rattle.integers.proofs.Ring.{additive, mul_comm_ℤ}
use Rattle.pool_model.specs.Limits.{Limit}
use Rattle.pool_model.specs.Network.{Net, IsLimited, IsWithin}
use Rattle.pool_model.specs.Plan.{Written, IsWritten, Obeys, factor, plan_of, product_inflow, weight, written_out, written_outflow}
use Rattle.pool_model.specs.Starting.{first_weight, straight, way_quality}
use Rattle.row_model.specs.Boxes.{Box, IsProper}
use Rattle.row_model.specs.Catalogue.{Row, limit_parts, path_quality, row_at, rows}
use Rattle.row_model.specs.Variables.{PerVariable, by_number, costs, path_count, path_feed, path_out, variables}
use Rattle.row_model.proofs.Numbering.{HoldsByKind, by_number-each}
use Rattle.row_model.proofs.PathSums.{path_feed-below, path_out-below}
use Rattle.row_model.proofs.Shares.{first_weight-sum}
use Rattle.row_book.specs.PartRows.{coef_at, constant_at}
use Rattle.box_space.specs.declared.coordinates.Form.{Form}
use Rattle.relaxation_points.specs.Points.{IsLight, Point, cost_weight, row_weight}
use Rattle.tight_leaf.specs.PlanPoints.{IsPlanPoint, plan_values, quality_by, share_of}
use Rattle.tight_leaf.proofs.KindSums.{kind-sums, weight_of}
use Rattle.tight_leaf.proofs.LimitWeights.{mixed_limit, mixed_limit-weight, path_limit, path_limit-weight}
use Rattle.tight_leaf.proofs.PlanValues.{values-are, weight-small}
use Rattle.tight_leaf.proofs.RowCaps.{IsCapped, IsFewLimit, IsNoLarger, each-row, excess-few, low_caps, path_quality-few, retained-few, room-few, size-neg}

-- ---- sums kind by kind

-- natural numbers for each variable
pub record Sizes : Type 0 where
  pub x : ℕ → ℕ
  pub y : ℕ
  pub z : ℕ
  pub w : ℕ
  pub proportion : ℕ
  pub quality : ℕ
  pub mixed : ℕ

abbrev by_kind : Sizes → PerVariable
by_kind s = record { x = λ e. pos (s.x e); y = λ o. pos s.y; z = λ e. pos s.z; w = λ q. pos s.w; proportion = λ e. pos s.proportion; quality = λ l k. pos s.quality; mixed = λ o k. pos s.mixed }

even-sum : (a n : ℕ) → sum_below (λ i. a) n ≤ n * a
even-sum a n = sum_below-most (λ i. a) a n (λ i lt. omega arith)

-- what the products of two numbers for each variable come to
products : (n : Net) (c s : Sizes) (cx : ℕ) → ((e : ℕ) → e < n.feeds → c.x e ≡ cx)
    → weight_of n (by_kind c) (by_kind s)
    ≤ cx * sum_below s.x n.feeds + n.outs * (c.y * s.y) + n.directs * (c.z * s.z) + path_count n * (c.w * s.w) + n.feeds * (c.proportion * s.proportion)
    + n.pools * (n.qualities * (c.quality * s.quality)) + n.outs * (n.qualities * (c.mixed * s.mixed))
products n c s cx few =
    total (weight_of n (by_kind c) (by_kind s)) (sum_below (λ e. c.x e * s.x e) n.feeds) (sum_below (λ o. c.y * s.y) n.outs) (sum_below (λ e. c.z * s.z) n.directs) (sum_below (λ q. c.w * s.w) (path_count n))
    (sum_below (λ e. c.proportion * s.proportion) n.feeds) (sum_below (λ l. sum_below (λ k. c.quality * s.quality) n.qualities) n.pools)
    (sum_below (λ o. sum_below (λ k. c.mixed * s.mixed) n.qualities) n.outs) (cx * sum_below s.x n.feeds) (n.outs * (c.y * s.y)) (n.directs * (c.z * s.z)) (path_count n * (c.w * s.w))
    (n.feeds * (c.proportion * s.proportion)) (n.pools * (n.qualities * (c.quality * s.quality))) (n.outs * (n.qualities * (c.mixed * s.mixed)))
    (kind-sums n (by_kind c) (by_kind s))
    (sum_below-same (λ e. c.x e * s.x e) (λ e. cx * s.x e) n.feeds (λ e lt. ap (λ (k : ℕ). k * s.x e) (few e lt)) ∙ sum_below-mul cx s.x n.feeds)
    (even-sum (c.y * s.y) n.outs) (even-sum (c.z * s.z) n.directs) (even-sum (c.w * s.w) (path_count n)) (even-sum (c.proportion * s.proportion) n.feeds)
    (sum_below-most (λ l. sum_below (λ k. c.quality * s.quality) n.qualities) (n.qualities * (c.quality * s.quality)) n.pools (λ l lt. even-sum (c.quality * s.quality) n.qualities))
    (sum_below-most (λ o. sum_below (λ k. c.mixed * s.mixed) n.qualities) (n.qualities * (c.mixed * s.mixed)) n.outs (λ o lt. even-sum (c.mixed * s.mixed) n.qualities))
  where
    total : (t a b c d e f g a' b' c' d' e' f' g' : ℕ) → t ≡ a + b + c + d + e + f + g → a ≡ a' → b ≤ b' → c ≤ c' → d ≤ d' → e ≤ e' → f ≤ f' → g ≤ g'
        → t ≤ a' + b' + c' + d' + e' + f' + g'
    total t a b c d e f g a' b' c' d' e' f' g' h i j k l m o r = omega (arith, h, i, j, k, l, m, o, r)

-- ---- the plan's values

abbrev most_base : ℕ
most_base = 2 ^ 36

abbrev most_flow : ℕ
most_flow = 2 ^ 36 * 10 ^ 12

module _ (n : Net) (w : Written) (lim : IsLimited n) (written : IsWritten n w) (obeys : Obeys n (plan_of n w)) where
  base-small : (plan_of n w).base ≤ most_base
  base-small = omega (arith, mul-le-mul written.flow_base.1 written.base.1)

  out-few : (o : ℕ) → o < n.outs → (plan_of n w).out o ≤ most_flow
  out-few o lt =
      let j = n.out_product o in
      let hj = lim.out_products o lt in
      omega (
        arith,
        term-le-sum_at n.out_product j (plan_of n w).out n.outs o lt refl,
        obeys.carries.at_most j hj,
        mul-le-mul base-small (lim.product_maxima j hj),
      )

  direct-few : (e : ℕ) → e < n.directs → (plan_of n w).direct e ≤ most_flow
  direct-few e lt =
      let j = n.direct_product e in
      let hj = lim.direct_products e lt in
      omega (
        arith,
        term-le-sum_at n.direct_product j (plan_of n w).direct n.directs e lt refl,
        obeys.carries.at_most j hj,
        mul-le-mul base-small (lim.product_maxima j hj),
      )

  -- all feeds together bring what all outs carry
  feeds-few : sum_below (plan_of n w).feed n.feeds ≤ n.outs * most_flow
  feeds-few =
      let p = plan_of n w in
      let in_out : sum_below p.feed n.feeds ≡ sum_below p.out n.outs =
      sym (sum_keys n.feed_pool p.feed n.pools n.feeds lim.feed_pools)
      ∙ sum_below-same (λ l. sum_at n.feed_pool l p.feed n.feeds) (λ l. sum_at n.out_pool l p.out n.outs) n.pools obeys.carries.balanced
      ∙ sum_keys n.out_pool p.out n.pools n.outs lim.out_pools in
      omega (arith, in_out, sum_below-most p.out most_flow n.outs out-few)

  -- what a product takes
  inflow-few : (j : ℕ) → j < n.products → product_inflow n (plan_of n w) j ≤ most_flow
  inflow-few j lt = omega (arith, obeys.carries.at_most j lt, mul-le-mul base-small (lim.product_maxima j lt))

  path-few : (q : ℕ) → q < path_count n → weight w (path_feed n q) * written_out w (path_out n q) ≤ most_flow
  path-few q lt =
      omega (
        arith,
        mul-le-mul_right (written_out w (path_out n q)) (weight-small n w lim written (path_feed n q) (path_feed-below n q lt)),
        out-few (path_out n q) (path_out-below n q lt),
      )

  -- ---- shares and qualities

  share-sum : (l : ℕ) → l < n.pools → sum_at n.feed_pool l (share_of n w) n.feeds ≡ w.base
  share-sum l lt = elim (same_or_other (written_outflow n w l) 0) [
    | inl z ↦
        sum_at-same_key n.feed_pool l (share_of n w) (λ e. w.base * first_weight n e) n.feeds
        (λ e he is. chosen (written_outflow n w (n.feed_pool e)) 0 (w.base * first_weight n e) (weight w e) (ap (written_outflow n w) is ∙ z))
        ∙ sum_at-mul n.feed_pool l w.base (first_weight n) n.feeds
        ∙ ap (λ (k : ℕ). w.base * k) (first_weight-sum n l lim.fed lt)
        ∙ times_one w.base
    | inr nz ↦
        sum_at-same_key n.feed_pool l (share_of n w) (weight w) n.feeds
        (λ e he is. passed (written_outflow n w (n.feed_pool e)) 0 (w.base * first_weight n e) (weight w e) (λ z. nz (ap (written_outflow n w) (sym is) ∙ z)))
        ∙ written.weight_sums l lt
  ]
    where
      times_one : (a : ℕ) → a * 1 ≡ a
      times_one a = omega arith

  share-few : (e : ℕ) → e < n.feeds → share_of n w e ≤ 2 ^ 20
  share-few e lt = omega (arith, term-le-sum_at n.feed_pool (n.feed_pool e) (share_of n w) n.feeds e lt refl, share-sum (n.feed_pool e) (lim.feed_pools e lt), written.base)

  quality-few : (l k : ℕ) → l < n.pools → k < n.qualities → unsigned_abs (quality_by n w l k) ≤ 10 ^ 11 * w.base
  quality-few l k hl hk =
      omega (
        arith,
        abs-int_sum_at n.feed_pool l (λ e. n.source_quality (n.feed_source e) k *ℤ pos (share_of n w e)) (λ e. 10 ^ 11 * share_of n w e) n.feeds
            (λ e lt. abs-mul-le (n.source_quality (n.feed_source e) k) (pos (share_of n w e)) (10 ^ 11) (share_of n w e)
            (within (n.source_quality (n.feed_source e) k) (lim.source_qualities (n.feed_source e) k (lim.feed_sources e lt) hk)) (omega arith)),
        sum_at-mul n.feed_pool l (10 ^ 11) (share_of n w) n.feeds,
        share-sum l hl,
      )
    where
      within : (z : ℤ) → IsWithin (10 ^ 11) z → unsigned_abs z ≤ 10 ^ 11
      within z (low, high) = omega (arith, ints)

  -- an out's mixed variable is at most the greatest quality times its flow
  mixed-few : (o k : ℕ) → o < n.outs → k < n.qualities → unsigned_abs ((plan_values n w).mixed o k) ≤ 10 ^ 11 * (plan_of n w).out o
  mixed-few o k lt lk =
      omega (
        arith,
        abs-mul-le (quality_by n w (n.out_pool o) k) (pos (written_out w o)) (10 ^ 11 * w.base) (written_out w o) (quality-few (n.out_pool o) k (lim.out_pools o lt) lk) (omega arith),
      )

  -- ---- by number

  abbrev sizes : Sizes
  sizes = record { x = (plan_of n w).feed; y = most_flow; z = most_flow; w = most_flow; proportion = 2 ^ 60; quality = 10 ^ 11 * 2 ^ 36; mixed = 10 ^ 11 * most_flow }

  values-few : (v : ℕ) → v < variables n → IsNoLarger (by_number n (plan_values n w) v) (by_number n (by_kind sizes) v)
  values-few = by_number-each n IsNoLarger (plan_values n w) (by_kind sizes) each
    where
      scaled : (s d : ℕ) → s ≤ 2 ^ 20 → d ≤ 65536 → 1048576 * s * d ≤ 2 ^ 60
      scaled s d h k = omega (arith, mul-le-mul h k)

      times-base : (z : ℤ) (r d : ℕ) → unsigned_abs z ≤ 10 ^ 11 * r → d * r ≤ 2 ^ 36 → unsigned_abs (z *ℤ pos d) ≤ 10 ^ 11 * 2 ^ 36
      times-base z r d h k = omega (arith, abs-mul-le z (pos d) (10 ^ 11 * r) d h (omega arith))

      times-flow : (m y : ℕ) → m ≤ 10 ^ 11 * y → y ≤ most_flow → m ≤ 10 ^ 11 * most_flow
      times-flow m y h k = omega (arith, h, k)

      each : HoldsByKind n IsNoLarger (plan_values n w) (by_kind sizes)
      each = record {
        x = λ e lt. omega arith;
        y = λ o lt. out-few o lt;
        z = λ e lt. direct-few e lt;
        w = λ q lt. path-few q lt;
        proportion = λ e lt. scaled (share_of n w e) w.flow_base (share-few e lt) written.flow_base.1;
        quality = λ l k lt lk. times-base (quality_by n w l k) w.base w.flow_base (quality-few l k lt lk) base-small;
        mixed = λ o k lt lk. times-flow (unsigned_abs ((plan_values n w).mixed o k)) ((plan_of n w).out o) (mixed-few o k lt lk) (out-few o lt);
      }

-- ---- rows and the cost

abbrev row_sizes : Sizes
row_sizes = record { x = λ e. 10 ^ 11; y = 10 ^ 12; z = 10 ^ 12; w = 10 ^ 11; proportion = 10 ^ 14; quality = 10 ^ 12; mixed = 1 }

abbrev cost_sizes : Sizes
cost_sizes = record { x = λ e. 2 * 10 ^ 12; y = 2 * 10 ^ 12; z = 3 * 10 ^ 12; w = 0; proportion = 0; quality = 0; mixed = 0 }

cost-caps : (n : Net) → IsLimited n → HoldsByKind n IsNoLarger (costs n) (by_kind cost_sizes)
cost-caps n lim = record {
  x = λ e lt. bought (n.source_cost (n.feed_source e)) (n.feed_cost e) (lim.source_costs (n.feed_source e) (lim.feed_sources e lt)) (lim.feed_costs e lt);
  y = λ o lt. sold (n.out_cost o) (n.price (n.out_product o)) (lim.out_costs o lt) (lim.prices (n.out_product o) (lim.out_products o lt));
  z = λ e lt. passed_on (n.source_cost (n.direct_source e)) (n.direct_cost e) (n.price (n.direct_product e)) (lim.source_costs (n.direct_source e) (lim.direct_sources e lt)) (lim.direct_costs e lt)
      (lim.prices (n.direct_product e) (lim.direct_products e lt));
  w = λ q lt. omega arith;
  proportion = λ e lt. omega arith;
  quality = λ l k lt lk. omega arith;
  mixed = λ o k lt lk. omega arith;
}
  where
    bought : (a b : ℤ) → IsWithin (10 ^ 12) a → IsWithin (10 ^ 12) b → unsigned_abs (a +ℤ b) ≤ 2 * 10 ^ 12
    bought a b (al, ah) (bl, bh) = omega (arith, ints)

    sold : (a b : ℤ) → IsWithin (10 ^ 12) a → IsWithin (10 ^ 12) b → unsigned_abs (a -ℤ b) ≤ 2 * 10 ^ 12
    sold a b (al, ah) (bl, bh) = omega (arith, ints)

    passed_on : (a b c : ℤ) → IsWithin (10 ^ 12) a → IsWithin (10 ^ 12) b → IsWithin (10 ^ 12) c → unsigned_abs (a +ℤ b -ℤ c) ≤ 3 * 10 ^ 12
    passed_on a b c (al, ah) (bl, bh) (cl, ch) = omega (arith, ints)

rows-within : (t f o d q e l k : ℕ)
    → t ≤ 10 ^ 11 * f + o * (10 ^ 12 * most_flow) + d * (10 ^ 12 * most_flow) + q * (10 ^ 11 * most_flow) + e * (10 ^ 14 * 2 ^ 60) + l * (k * (10 ^ 12 * (10 ^ 11 * 2 ^ 36)))
    + o * (k * (1 * (10 ^ 11 * most_flow))) → f ≤ o * most_flow → o ≤ 256 → d ≤ 256 → q ≤ 4096 → e ≤ 256 → l ≤ 16 → k ≤ 8 → t + 10 ^ 24 * 2 ^ 36 ≤ 2 ^ 126
rows-within t f o d q e l k h hf ho hd hq he hl hk = omega (arith, h, hf, ho, hd, hq, he, mul-le-mul hl hk, mul-le-mul ho hk)

cost-within : (t f o d q e l k : ℕ)
    → t ≤ 2 * 10 ^ 12 * f + o * (2 * 10 ^ 12 * most_flow) + d * (3 * 10 ^ 12 * most_flow) + q * (0 * most_flow) + e * (0 * 2 ^ 60) + l * (k * (0 * (10 ^ 11 * 2 ^ 36))) + o * (k * (0 * (10 ^ 11 * most_flow)))
    → f ≤ o * most_flow → e + o + d ≤ 256 → t ≤ 2 ^ 126
cost-within t f o d q e l k h hf few = omega (arith, h, hf, few)

limit-within : (t flow : ℕ) → t ≤ 2 * 10 ^ 14 * flow → flow ≤ most_flow → t + 0 * 2 ^ 36 ≤ 2 ^ 126
limit-within t flow h k = omega (arith, h, k)

module _ (n : Net) (w : Written) (lim : IsLimited n) (written : IsWritten n w) (obeys : Obeys n (plan_of n w)) (q : Point) (is : IsPlanPoint n (plan_of n w) q) where
  pub factors-some : 0 < product_below (factor n (plan_of n w)) n.pools
  factors-some = positive-product_below (factor n (plan_of n w)) n.pools (λ l. omega arith)

  value-is : (v : ℕ) → v < variables n → q.value v ≡ by_number n (plan_values n w) v
  value-is v lt =
      let all = pos (product_below (factor n (plan_of n w)) n.pools) in
      same-cancel all (q.value v) (by_number n (plan_values n w) v) (omega (arith, additive, factors-some))
      (mul_comm_ℤ all (q.value v) ∙ is.value v lt ∙ sym (values-are n w lim written v lt) ∙ mul_comm_ℤ (by_number n (plan_values n w) v) all)

  -- the point's values are the plan's
  weight-is : (f : ℕ → ℤ) → sum_below (λ v. unsigned_abs (f v) * unsigned_abs (q.value v)) (variables n) ≡ sum_below (λ v. unsigned_abs (f v) * unsigned_abs (by_number n (plan_values n w) v)) (variables n)
  weight-is f =
      sum_below-same (λ v. unsigned_abs (f v) * unsigned_abs (q.value v)) (λ v. unsigned_abs (f v) * unsigned_abs (by_number n (plan_values n w) v)) (variables n)
      (λ v lt. ap (λ (z : ℤ). unsigned_abs (f v) * unsigned_abs z) (value-is v lt))

  weight-few : (a : PerVariable) (c : Sizes) → HoldsByKind n IsNoLarger a (by_kind c) → weight_of n a (plan_values n w) ≤ weight_of n (by_kind c) (by_kind (sizes n w lim written obeys))
  weight-few a c few =
      sum_below-le (λ v. unsigned_abs (by_number n a v) * unsigned_abs (by_number n (plan_values n w) v))
      (λ v. unsigned_abs (by_number n (by_kind c) v) * unsigned_abs (by_number n (by_kind (sizes n w lim written obeys)) v)) (variables n)
      (λ v lt. mul-le-mul (by_number-each n IsNoLarger a (by_kind c) few v lt) (values-few n w lim written obeys v lt))

  pub cost-light : cost_weight n q ≤ 2 ^ 126
  cost-light =
      let sums = products n cost_sizes (sizes n w lim written obeys) (2 * 10 ^ 12) (λ e lt. refl) in
      let most = weight-few (costs n) cost_sizes (cost-caps n lim) in
      cost-within (cost_weight n q) (sum_below (plan_of n w).feed n.feeds) n.outs n.directs (path_count n) n.feeds n.pools n.qualities (omega (arith, weight-is (by_number n (costs n)), most, sums))
      (feeds-few n w lim written obeys) lim.arcs

  -- ---- rows

  -- a row weighs little over the greatest base
  abbrev WeighsLittle : Row → Type 0
  WeighsLittle r = weight_of n r.coefs (plan_values n w) + unsigned_abs r.constant * 2 ^ 36 ≤ 2 ^ 126

  low-light : variables n ≤ 4096 → (r : Row) → IsCapped n low_caps r → WeighsLittle r
  low-light few r capped =
      let sums = products n row_sizes (sizes n w lim written obeys) (10 ^ 11) (λ e lt. refl) in
      let most = weight-few r.coefs row_sizes capped.coefs in
      let whole = rows-within (weight_of n r.coefs (plan_values n w)) (sum_below (plan_of n w).feed n.feeds) n.outs n.directs (path_count n) n.feeds n.pools n.qualities (omega (arith, most, sums))
      (feeds-few n w lim written obeys) lim.outs lim.directs (omega (arith, few)) lim.feeds lim.pools lim.qualities in
      omega (arith, whole, capped.constant)

  mixed_limit-light : (u : Limit) (y z mixed : ℕ → ℤ) → IsFewLimit n u → ((o : ℕ) → o < n.outs → unsigned_abs (y o) ≤ 10 ^ 14)
      → ((e : ℕ) → e < n.directs → unsigned_abs (z e) ≤ 2 * 10 ^ 14) → ((o : ℕ) → o < n.outs → unsigned_abs (mixed o) ≤ 1000)
      → weight_of n (mixed_limit n u.product u.quality y z mixed) (plan_values n w) + 0 * 2 ^ 36 ≤ 2 ^ 126
  mixed_limit-light u y z mixed few few_y few_z few_mixed =
      limit-within (weight_of n (mixed_limit n u.product u.quality y z mixed) (plan_values n w)) (product_inflow n (plan_of n w) u.product)
      (mixed_limit-weight n w lim written u.product y z few_y few_z u.quality mixed few.quality few_mixed (λ o lt. mixed-few n w lim written obeys o u.quality lt few.quality))
      (inflow-few n w lim written obeys u.product few.product)

  path_limit-light : (u : Limit) (y z c : ℕ → ℤ) → IsFewLimit n u → ((o : ℕ) → o < n.outs → unsigned_abs (y o) ≤ 10 ^ 14)
      → ((e : ℕ) → e < n.directs → unsigned_abs (z e) ≤ 2 * 10 ^ 14) → ((a : ℕ) → a < path_count n → unsigned_abs (c a) ≤ 10 ^ 14)
      → weight_of n (path_limit n u.product y z c) (plan_values n w) + 0 * 2 ^ 36 ≤ 2 ^ 126
  path_limit-light u y z c few few_y few_z few_c =
      limit-within (weight_of n (path_limit n u.product y z c) (plan_values n w)) (product_inflow n (plan_of n w) u.product)
      (path_limit-weight n w lim written u.product y z few_y few_z c few_c) (inflow-few n w lim written obeys u.product few.product)

  pub row-light : (b : Box) → IsProper n b → variables n ≤ 4096 → (id : ℕ) → id < rows n → row_weight n b q id ≤ 2 ^ 126
  unfolding coef_at constant_at
  row-light b proper few id lt =
      let little = each-row n b lim proper WeighsLittle (low-light few)
      (λ u h. mixed_limit-light u (λ o. limit_parts n u) (λ e. limit_parts n u -ℤ way_quality n (straight e) u.quality) (λ o. neg_ℤ (pos (n.retained (n.out_pool o) u.quality))) h
      (λ o lo. h.limit) (λ e le. room-few n u e lim h le) (λ o lo. size-neg (pos (n.retained (n.out_pool o) u.quality)) 1000 (retained-few n o u.quality lim lo h.quality)))
      (λ u h. mixed_limit-light u (λ o. neg_ℤ (limit_parts n u)) (λ e. way_quality n (straight e) u.quality -ℤ limit_parts n u) (λ o. pos (n.retained (n.out_pool o) u.quality)) h
      (λ o lo. size-neg (limit_parts n u) (10 ^ 14) h.limit) (λ e le. excess-few n u e lim h le) (λ o lo. retained-few n o u.quality lim lo h.quality))
      (λ u h. path_limit-light u (λ o. limit_parts n u) (λ e. limit_parts n u -ℤ way_quality n (straight e) u.quality) (λ a. neg_ℤ (path_quality n a u.quality)) h
      (λ o lo. h.limit) (λ e le. room-few n u e lim h le) (λ a la. size-neg (path_quality n a u.quality) (10 ^ 14) (path_quality-few n a u.quality lim la h.quality)))
      (λ u h. path_limit-light u (λ o. neg_ℤ (limit_parts n u)) (λ e. way_quality n (straight e) u.quality -ℤ limit_parts n u) (λ a. path_quality n a u.quality) h
      (λ o lo. size-neg (limit_parts n u) (10 ^ 14) h.limit) (λ e le. excess-few n u e lim h le) (λ a la. path_quality-few n a u.quality lim la h.quality))
      id lt in
      let base : q.base ≤ 2 ^ 36 = omega (arith, is.base, base-small n w lim written obeys) in
      omega (arith, weight-is (by_number n (row_at n b id).coefs), little, mul-le-mul_left (unsigned_abs (row_at n b id).constant) base)

  pub light : (form : Form) (b : Box) → IsProper n b → variables n ≤ 4096 → IsLight n form b q
  light form b proper few = record { cost = cost-light; rows = λ id h. row-light b proper few id h.0 }
