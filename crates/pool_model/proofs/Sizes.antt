-- How large the cost of a plan and the reach bound are: what they count has room in 128 bits.
use Rattle.std.proofs.Common.{◌≡◌, ℕ, zero, suc, ◌+◌, ◌*◌, ◌^◌, ◌<◌, ◌≤◌, ◌⊎◌, inl, inr, ◌==◌, if◌then◌else◌, Bool, true, false, Option, Some, None, ℤ, pos, neg_ℤ, ◌+ℤ◌, ◌-ℤ◌, ◌*ℤ◌, unsigned_abs, arith, refl, sym, ap, ◌∙◌}
use Rattle.std.specs.Prelude.{option_map}
use Rattle.std.proofs.lemmas.Int.{ints, clamps}
use Rattle.std.proofs.Math.Nat.{mul-le-mul, mul-le-mul_left, mul-le-mul_right}
use Rattle.std.specs.Int.{int_min}
use Rattle.integers.specs.Sums.{int_sum_below, int_sum_at, sum_at, sum_below}
use Rattle.integers.proofs.Order.{abs-mul-le}
use Rattle.integers.proofs.AtKey.{abs-int_sum_below_to, sum_below-mul, sum_below-same, sum_at-mul}
use Rattle.integers.proofs.ByNode.{abs-int_sum_at, sum_below-add, sum_below-most, sum_keys}
use Rattle.pool_model.specs.Network.{Net, IsLimited, IsWithin, feed_delivered, direct_delivered}
use Rattle.pool_model.specs.Plan.{Plan, Carries, Written, IsWritten, Obeys, plan_of, source_outflow, product_inflow, cost_of}
use Rattle.pool_model.specs.Starting.{lesser, least_below, pool_cost, out_delivered, reach_cost, margin, reach_bound}

pub size-within : (size : ℕ) (z : ℤ) → IsWithin size z → unsigned_abs z ≤ size
size-within size z (low, high) = omega (arith, ints)

-- ---- sums of numbers that are limited, each for so much flow

-- over all
pub priced-most : (q : ℕ → ℤ) (x : ℕ → ℕ) (most n : ℕ) → ((i : ℕ) → i < n → unsigned_abs (q i) ≤ most) → unsigned_abs (int_sum_below (λ i. q i *ℤ pos (x i)) n) ≤ most * sum_below x n
priced-most q x most n h =
    omega (
      arith,
      abs-int_sum_below_to (λ i. q i *ℤ pos (x i)) (λ i. most * x i) n (λ i lt. abs-mul-le (q i) (pos (x i)) most (x i) (h i lt) (omega arith)),
      sum_below-mul most x n,
    )

-- over those of one key
pub weighed-most : (key : ℕ → ℕ) (k : ℕ) (q : ℕ → ℤ) (x : ℕ → ℕ) (most n : ℕ) → ((i : ℕ) → i < n → unsigned_abs (q i) ≤ most)
    → unsigned_abs (int_sum_at key k (λ i. q i *ℤ pos (x i)) n) ≤ most * sum_at key k x n
weighed-most key k q x most n h =
    omega (
      arith,
      abs-int_sum_at key k (λ i. q i *ℤ pos (x i)) (λ i. most * x i) n (λ i lt. abs-mul-le (q i) (pos (x i)) most (x i) (h i lt) (omega arith)),
      sum_at-mul key k most x n,
    )

-- over the first of those of one key
pub sum_at-front : (key : ℕ → ℕ) (k : ℕ) (x : ℕ → ℕ) (first n : ℕ) → first ≤ n → sum_at key k x first ≤ sum_at key k x n
sum_at-front key k x first zero h = ap-le (sum_at key k x) first 0 (omega arith)
  where
    ap-le : (f : ℕ → ℕ) (a b : ℕ) → a ≡ b → f a ≤ f b
    ap-le f a b e = omega (arith, ap f e)
sum_at-front key k x first (suc n) h = elim (last_or_below first n h) [
  | inl e ↦ omega (arith, ap (sum_at key k x) e)
  | inr l ↦ omega (arith, sum_at-front key k x first n l)
]
  where
    last_or_below : (i n : ℕ) → i ≤ suc n → (i ≡ suc n) ⊎ (i ≤ n)
    last_or_below i n h = grind arith

pub weighed-front : (key : ℕ → ℕ) (k : ℕ) (q : ℕ → ℤ) (x : ℕ → ℕ) (most first n : ℕ) → first ≤ n → ((i : ℕ) → i < n → unsigned_abs (q i) ≤ most)
    → unsigned_abs (int_sum_at key k (λ i. q i *ℤ pos (x i)) first) ≤ most * sum_at key k x n
weighed-front key k q x most first n le h =
    omega (arith, weighed-most key k q x most first (λ i lt. h i (omega arith)), mul-le-mul_left most (sum_at-front key k x first n le))

-- ---- the cost of a plan

sum_of_five : (a x y z b : ℤ) (ma mx my mz mb : ℕ) → unsigned_abs a ≤ ma → unsigned_abs x ≤ mx → unsigned_abs y ≤ my → unsigned_abs z ≤ mz → unsigned_abs b ≤ mb
    → unsigned_abs (a +ℤ (x +ℤ y +ℤ z) -ℤ b) ≤ ma + (mx + my + mz) + mb
sum_of_five a x y z b ma mx my mz mb ha hx hy hz hb = omega (arith, ints)

module _ (n : Net) (p : Plan) (lim : IsLimited n) (c : Carries n p) where
  -- all that flows into products
  abbrev taken : ℕ
  taken = sum_below (product_inflow n p) n.products

  pub taken-is : sum_below p.out n.outs + sum_below p.direct n.directs ≡ taken
  taken-is =
      omega (
        arith,
        sum_keys n.out_product p.out n.products n.outs lim.out_products,
        sum_keys n.direct_product p.direct n.products n.directs lim.direct_products,
        sum_below-add (λ j. sum_at n.out_product j p.out n.outs) (λ j. sum_at n.direct_product j p.direct n.directs) n.products,
      )

  -- what flows into pools flows out of them
  pub through-is : sum_below p.feed n.feeds ≡ sum_below p.out n.outs
  through-is =
      sym (sum_keys n.feed_pool p.feed n.pools n.feeds lim.feed_pools)
      ∙ sum_below-same (λ l. sum_at n.feed_pool l p.feed n.feeds) (λ l. sum_at n.out_pool l p.out n.outs) n.pools c.balanced
      ∙ sum_keys n.out_pool p.out n.pools n.outs lim.out_pools

  -- what sources send is what products take
  pub sent-is : sum_below (source_outflow n p) n.sources ≡ taken
  sent-is =
      omega (
        arith,
        sum_keys n.feed_source p.feed n.sources n.feeds lim.feed_sources,
        sum_keys n.direct_source p.direct n.sources n.directs lim.direct_sources,
        sum_below-add (λ i. sum_at n.feed_source i p.feed n.feeds) (λ i. sum_at n.direct_source i p.direct n.directs) n.sources,
        through-is,
        taken-is,
      )

  pub taken-most : taken ≤ 64 * (p.base * 10 ^ 12)
  taken-most =
      omega (
        arith,
        sum_below-most (product_inflow n p) (p.base * 10 ^ 12) n.products (λ j lt. omega (arith, c.at_most j lt, mul-le-mul_left p.base (lim.product_maxima j lt))),
        mul-le-mul_right (p.base * 10 ^ 12) lim.products,
      )

  -- a unit is bought once, passes two arcs at the most, and is sold once
  pub cost-most : unsigned_abs (cost_of n p) ≤ 256 * 10 ^ 24 * p.base
  cost-most =
      let bought = priced-most n.source_cost (source_outflow n p) (10 ^ 12) n.sources (λ i lt. size-within (10 ^ 12) (n.source_cost i) (lim.source_costs i lt)) in
      let sold = priced-most n.price (product_inflow n p) (10 ^ 12) n.products (λ j lt. size-within (10 ^ 12) (n.price j) (lim.prices j lt)) in
      let feeds = priced-most n.feed_cost p.feed (10 ^ 12) n.feeds (λ e lt. size-within (10 ^ 12) (n.feed_cost e) (lim.feed_costs e lt)) in
      let outs = priced-most n.out_cost p.out (10 ^ 12) n.outs (λ o lt. size-within (10 ^ 12) (n.out_cost o) (lim.out_costs o lt)) in
      let directs = priced-most n.direct_cost p.direct (10 ^ 12) n.directs (λ e lt. size-within (10 ^ 12) (n.direct_cost e) (lim.direct_costs e lt)) in
      let all = sum_of_five (int_sum_below (λ i. n.source_cost i *ℤ pos (source_outflow n p i)) n.sources)
      (int_sum_below (λ e. n.feed_cost e *ℤ pos (p.feed e)) n.feeds) (int_sum_below (λ o. n.out_cost o *ℤ pos (p.out o)) n.outs)
      (int_sum_below (λ e. n.direct_cost e *ℤ pos (p.direct e)) n.directs) (int_sum_below (λ j. n.price j *ℤ pos (product_inflow n p j)) n.products)
      (10 ^ 12 * sum_below (source_outflow n p) n.sources) (10 ^ 12 * sum_below p.feed n.feeds) (10 ^ 12 * sum_below p.out n.outs) (10 ^ 12 * sum_below p.direct n.directs)
      (10 ^ 12 * taken) bought feeds outs directs sold in
      four_times (sum_below (source_outflow n p) n.sources) (sum_below p.feed n.feeds) (sum_below p.out n.outs) (sum_below p.direct n.directs) taken p.base
      (unsigned_abs (cost_of n p)) all sent-is through-is taken-is taken-most
    where
      four_times : (s x y z t d size : ℕ) → size ≤ 10 ^ 12 * s + (10 ^ 12 * x + 10 ^ 12 * y + 10 ^ 12 * z) + 10 ^ 12 * t → s ≡ t → x ≡ y → y + z ≡ t → t ≤ 64 * (d * 10 ^ 12) → size ≤ 256 * 10 ^ 24 * d
      four_times s x y z t d size h hs hx hy ht = omega (arith, h, hs, hx, hy, ht)

-- a written plan costs less than 2^124 picos over its bases
pub written-most : (n : Net) (w : Written) → IsLimited n → IsWritten n w → Obeys n (plan_of n w) → unsigned_abs (cost_of n (plan_of n w)) < 2 ^ 124
written-most n w lim written obeys =
    small (unsigned_abs (cost_of n (plan_of n w))) (w.flow_base * w.base) (cost-most n (plan_of n w) lim obeys.carries) (mul-le-mul written.flow_base.1 written.base.1)
  where
    small : (size d : ℕ) → size ≤ 256 * 10 ^ 24 * d → d ≤ 65536 * 1048576 → size < 2 ^ 124
    small size d h k = omega (arith, h, k)

-- ---- the reach bound

-- a cost that is there is limited
abbrev IsCostly : ℕ → Option ℤ → Type 0
IsCostly most o = (z : ℤ) → o ≡ Some z → unsigned_abs z ≤ most

costly-lesser : (most : ℕ) (a b : Option ℤ) → IsCostly most a → IsCostly most b → IsCostly most (lesser a b)
costly-lesser most None b ha hb z is = hb z is
costly-lesser most (Some a) None ha hb z is = ha z is
costly-lesser most (Some a) (Some b) ha hb z is = let same : int_min a b ≡ z = cc in omega (arith, ints, clamps, same, ha a refl, hb b refl)

costly-least : (most : ℕ) (f : ℕ → Option ℤ) (n : ℕ) → ((i : ℕ) → i < n → IsCostly most (f i)) → IsCostly most (least_below f n)
costly-least most f zero h z is = cc
costly-least most f (suc n) h z is = costly-lesser most (least_below f n) (f n) (costly-least most f n (λ i lt. h i (omega arith))) (h n (omega arith)) z is

costly_if : (most : ℕ) (test : Bool) (o : Option ℤ) → IsCostly most o → IsCostly most (if test then o else None)
costly_if most true o h z is = h z is
costly_if most false o h z is = cc

costly-some : (most : ℕ) (a : ℤ) → unsigned_abs a ≤ most → IsCostly most (Some a)
costly-some most a h z is = let same : a ≡ z = cc in omega (arith, ap unsigned_abs same, h)

pool-costly : (n : Net) (l : ℕ) → IsLimited n → IsCostly (2 * 10 ^ 12) (pool_cost n l)
pool-costly n l lim =
    costly-least (2 * 10 ^ 12) (λ e. if n.feed_pool e == l then Some (feed_delivered n e) else None) n.feeds
    (λ e lt. costly_if (2 * 10 ^ 12) (n.feed_pool e == l) (Some (feed_delivered n e)) (costly-some (2 * 10 ^ 12) (feed_delivered n e)
    (twice (n.source_cost (n.feed_source e)) (n.feed_cost e) (lim.source_costs (n.feed_source e) (lim.feed_sources e lt)) (lim.feed_costs e lt))))
  where
    twice : (a b : ℤ) → IsWithin (10 ^ 12) a → IsWithin (10 ^ 12) b → unsigned_abs (a +ℤ b) ≤ 2 * 10 ^ 12
    twice a b (al, ah) (bl, bh) = omega (arith, ints)

out-costly : (n : Net) (o : ℕ) → IsLimited n → o < n.outs → IsCostly (3 * 10 ^ 12) (out_delivered n o)
out-costly n o lim lt = more (pool_cost n (n.out_pool o)) (n.out_cost o) (pool-costly n (n.out_pool o) lim) (lim.out_costs o lt)
  where
    more : (c : Option ℤ) (a : ℤ) → IsCostly (2 * 10 ^ 12) c → IsWithin (10 ^ 12) a → IsCostly (3 * 10 ^ 12) (option_map (λ z. z +ℤ a) c)
    more None a h k z is = cc
    more (Some c) a h (low, high) z is = let same : c +ℤ a ≡ z = cc in omega (arith, ints, same, h c refl)

reach-costly : (n : Net) (j : ℕ) → IsLimited n → IsCostly (3 * 10 ^ 12) (reach_cost n j)
reach-costly n j lim =
    costly-lesser (3 * 10 ^ 12)
    (least_below (λ e. if n.direct_product e == j then Some (direct_delivered n e) else None) n.directs)
    (least_below (λ o. if n.out_product o == j then out_delivered n o else None) n.outs)
    (costly-least (3 * 10 ^ 12) (λ e. if n.direct_product e == j then Some (direct_delivered n e) else None) n.directs
    (λ e lt. costly_if (3 * 10 ^ 12) (n.direct_product e == j) (Some (direct_delivered n e)) (costly-some (3 * 10 ^ 12) (direct_delivered n e)
    (thrice (n.source_cost (n.direct_source e)) (n.direct_cost e) (lim.source_costs (n.direct_source e) (lim.direct_sources e lt)) (lim.direct_costs e lt)))))
    (costly-least (3 * 10 ^ 12) (λ o. if n.out_product o == j then out_delivered n o else None) n.outs
    (λ o lt. costly_if (3 * 10 ^ 12) (n.out_product o == j) (out_delivered n o) (out-costly n o lim lt)))
  where
    thrice : (a b : ℤ) → IsWithin (10 ^ 12) a → IsWithin (10 ^ 12) b → unsigned_abs (a +ℤ b) ≤ 3 * 10 ^ 12
    thrice a b (al, ah) (bl, bh) = omega (arith, ints)

margin-most : (o : Option ℤ) (price : ℤ) → IsCostly (3 * 10 ^ 12) o → IsWithin (10 ^ 12) price → unsigned_abs (margin o price) ≤ 4 * 10 ^ 12
margin-most None price h k = omega arith
margin-most (Some c) price h (low, high) = omega (arith, ints, clamps, h c refl)

pub reach-most : (n : Net) → IsLimited n → unsigned_abs (reach_bound n) ≤ 256 * 10 ^ 24
reach-most n lim =
    let best = λ (j : ℕ). margin (reach_cost n j) (n.price j) in
    let each = λ (j : ℕ) (lt : j < n.products). abs-mul-le (pos (n.product_max j)) (best j) (10 ^ 12) (4 * 10 ^ 12) (lim.product_maxima j lt) (margin-most (reach_cost n j) (n.price j) (reach-costly n j lim) (lim.prices j lt)) in
    turned (int_sum_below (λ j. pos (n.product_max j) *ℤ best j) n.products)
    (abs-int_sum_below_to (λ j. pos (n.product_max j) *ℤ best j) (λ _. 10 ^ 12 * (4 * 10 ^ 12)) n.products each)
    (sum_below-most (λ _. 10 ^ 12 * (4 * 10 ^ 12)) (10 ^ 12 * (4 * 10 ^ 12)) n.products (λ j lt. omega arith))
    (mul-le-mul_right (10 ^ 12 * (4 * 10 ^ 12)) lim.products)
  where
    turned : (z : ℤ) {s t : ℕ} → unsigned_abs z ≤ s → s ≤ t → t ≤ 64 * (10 ^ 12 * (4 * 10 ^ 12)) → unsigned_abs (neg_ℤ z) ≤ 256 * 10 ^ 24
    turned z h k m = omega (arith, ints, h, k, m)
