-- Forms Q and Pq: the point of a plan that obeys is a point of them, the flows of a point are a plan that obeys, and the
-- further rows of Pq hold at every point of Q.
use Rattle.std.proofs.Common.{◌≡◌, ℕ, ◌*◌, ◌<◌, ◌≤◌, ℤ, pos, ◌+ℤ◌, ◌*ℤ◌, ◌≤ℤ◌, arith, refl, sym, ap, ◌∙◌}
use Rattle.std.proofs.Math.Nat.{mul-le-mul, mul-le-mul_left}
use Rattle.integers.specs.Sums.{product_but, int_sum_at, sum_at}
use Rattle.integers.proofs.Ring.{additive, linear, sorted, mul_comm_ℤ, mul-add, mul_assoc_ℤ, mul_left_comm_ℤ}
use Rattle.integers.proofs.Order.{le-mul, same-cancel, same_pos}
use Rattle.integers.proofs.AtKey.{int_sum_at-same, int_sum_at-mul, sum_at-mul, pos-sum_at, product_but_is}
use Rattle.integers.proofs.ByNode.{sum_at-same_key}
use Rattle.pool_model.specs.Network.{Net, IsLimited}
use Rattle.pool_model.specs.Plan.{Plan, Carries, Obeys, outflow, limit_room, mix, direct_mix, factor}
use Rattle.row_model.specs.Boxes.{share}
use Rattle.row_model.specs.Variables.{path_count, path_feed, path_out}
use Rattle.row_model.proofs.PathSums.{path_out-below, path-joined, paths_at_key, natural_paths_at_feed, natural_paths_at_out}
use Rattle.row_model.proofs.Shares.{share-sum, share-out}
use Rattle.program_model.specs.Points.{ProportionPoint, proportion_flows}
use Rattle.row_model.specs.Catalogue.{path_quality}
use Rattle.program_model.specs.Programs.{IsPointOfQ, IsPointOfPq, path_inflow}
use Rattle.program_model.specs.Lifted.{factors, proportion_point}
use Rattle.program_model.proofs.Means.{HasQualities, BlendsByMeans, mean_inflow, positive-factors, blends-by_means}
use Rattle.program_model.proofs.Scaled.{carries-scaled}
use Rattle.program_model.proofs.LiftedFlows.{path_inflow-lifted, feeds-lifted, room-lifted}

-- ---- the point of a plan
proportions-lifted : (n : Net) (p : Plan) (l : ℕ) → IsLimited n → Carries n p → l < n.pools → sum_at n.feed_pool l (proportion_point n p).proportion n.feeds ≡ factors n p
proportions-lifted n p l lim c lt =
    let b = λ (i : ℕ). product_but i (factor n p) n.pools in
    sum_at-same_key n.feed_pool l (λ e. b (n.feed_pool e) * share n p e) (λ e. b l * share n p e) n.feeds (λ e le is. ap (λ i. b i * share n p e) is)
    ∙ sum_at-mul n.feed_pool l (b l) (share n p) n.feeds
    ∙ ap (λ z. b l * z) (share-sum n p l lim c lt)
    ∙ product_but_is l (factor n p) n.pools lt

products-lifted : (n : Net) (p : Plan) (a : ℕ) → a < path_count n
    → (proportion_point n p).path a * factors n p ≡ (proportion_point n p).proportion (path_feed n a) * (factors n p * p.out (path_out n a))
products-lifted n p a lt =
    let e = path_feed n a in
    let o = path_out n a in
    let b = λ (i : ℕ). product_but i (factor n p) n.pools in
    ap (λ i. b i * (p.feed e * p.out o) * factors n p) (path-joined n a lt)
    ∙ turned (b (n.feed_pool e)) (factors n p) (share n p e) (p.feed e) (p.out o) (share-out n p e o (path_out-below n a lt) (path-joined n a lt))
  where
    turned : (b m s x y : ℕ) → s * y ≡ x * y → b * (x * y) * m ≡ b * s * (m * y)
    turned b m s x y e = omega (arith, ap (λ z. b * m * z) e)

pub lifted-point_of_q : (n : Net) (p : Plan) → IsLimited n → Obeys n p → IsPointOfQ n (proportion_point n p)
lifted-point_of_q n p lim o = record {
  base = mul-le-mul o.denominator (positive-factors n p);
  prop_base = positive-factors n p;
  carries = carries-scaled n (factors n p) p o.carries;
  proportions = λ l lt. proportions-lifted n p l lim o.carries lt;
  feeds = λ e lt. feeds-lifted n p e lim o.carries lt;
  at_most = λ j k u product lk set. omega (arith, additive, path_inflow-lifted n p j k lim, room-lifted n p j u, o.blends.at_most j k u product lk set);
  at_least = λ j k u product lk set. omega (arith, additive, path_inflow-lifted n p j k lim, room-lifted n p j u, o.blends.at_least j k u product lk set);
  products = λ a lt. products-lifted n p a lt;
}

-- ---- the flows of a point

-- a feed brings its proportion of what its pool sends
pub feed-of_q : (n : Net) (q : ProportionPoint) (e : ℕ) → IsLimited n → IsPointOfQ n q → e < n.feeds
    → q.prop_base * q.feed e ≡ q.proportion e * outflow n (proportion_flows q) (n.feed_pool e)
feed-of_q n q e lim h lt =
    ap (λ z. q.prop_base * z) (h.feeds e lt)
    ∙ sym (sum_at-mul (path_feed n) e q.prop_base q.path (path_count n))
    ∙ sum_at-same_key (path_feed n) e (λ a. q.prop_base * q.path a) (λ a. q.proportion e * q.out (path_out n a)) (path_count n)
    (λ a la is. turned q.prop_base (q.path a) ∙ h.products a la ∙ ap (λ i. q.proportion i * q.out (path_out n a)) is)
    ∙ sum_at-mul (path_feed n) e (q.proportion e) (λ a. q.out (path_out n a)) (path_count n)
    ∙ ap (λ z. q.proportion e * z) (natural_paths_at_feed n q.out e record { each = lim.feed_pools } lt)
  where
    turned : (r w : ℕ) → r * w ≡ w * r
    turned r w = omega arith

-- the quality of a pool by the proportions of its feeds, over their base
abbrev pub proportion_quality : Net → ProportionPoint → ℕ → ℕ → ℤ
proportion_quality n q l k = int_sum_at n.feed_pool l (λ e. n.source_quality (n.feed_source e) k *ℤ pos (q.proportion e)) n.feeds

-- what the pool retains of it
abbrev pub retained_proportion : Net → ProportionPoint → ℕ → ℕ → ℤ
retained_proportion n q l k = pos (n.retained l k) *ℤ proportion_quality n q l k

-- it is the pool's mean quality
mean-of_q : (n : Net) (q : ProportionPoint) (l k : ℕ) → IsLimited n → IsPointOfQ n q
    → pos q.prop_base *ℤ mix n (proportion_flows q) l k ≡ proportion_quality n q l k *ℤ pos (outflow n (proportion_flows q) l)
mean-of_q n q l k lim h =
    let quality = λ (e : ℕ). n.source_quality (n.feed_source e) k in
    let t = outflow n (proportion_flows q) l in
    sym (int_sum_at-mul n.feed_pool l (pos q.prop_base) (λ e. quality e *ℤ pos (q.feed e)) n.feeds)
    ∙ int_sum_at-same n.feed_pool l (λ e. pos q.prop_base *ℤ (quality e *ℤ pos (q.feed e))) (λ e. pos t *ℤ (quality e *ℤ pos (q.proportion e))) n.feeds
    (λ e le is.
    mul_left_comm_ℤ (pos q.prop_base) (quality e) (pos (q.feed e))
    ∙ ap (λ z. quality e *ℤ pos z) (feed-of_q n q e lim h le ∙ ap (λ i. q.proportion e * outflow n (proportion_flows q) i) is)
    ∙ last (quality e) (pos (q.proportion e)) (pos t))
    ∙ int_sum_at-mul n.feed_pool l (pos t) (λ e. quality e *ℤ pos (q.proportion e)) n.feeds
    ∙ mul_comm_ℤ (pos t) (proportion_quality n q l k)
  where
    last : (q r t : ℤ) → q *ℤ (r *ℤ t) ≡ t *ℤ (q *ℤ r)
    last q r t = simp sorted refl

pub has_qualities-of_q : (n : Net) (q : ProportionPoint) → IsLimited n → IsPointOfQ n q → HasQualities n (proportion_flows q) q.prop_base (retained_proportion n q)
has_qualities-of_q n q lim h = record {
  each = λ l k lt lk.
      let r = pos (n.retained l k) in
      mul_left_comm_ℤ (pos q.prop_base) r (mix n (proportion_flows q) l k)
      ∙ ap (λ z. r *ℤ z) (mean-of_q n q l k lim h)
      ∙ sym (mul_assoc_ℤ r (proportion_quality n q l k) (pos (outflow n (proportion_flows q) l)));
}

-- what reaches a product by the pools' qualities is what flows along paths bring
pub mean_inflow-of_q : (n : Net) (q : ProportionPoint) (j k : ℕ) → IsLimited n → IsPointOfQ n q
    → mean_inflow n (proportion_flows q) q.prop_base (retained_proportion n q) j k ≡ pos q.prop_base *ℤ path_inflow n q j k
mean_inflow-of_q n q j k lim h =
    let r = pos q.prop_base in
    let quality = λ (e : ℕ). n.source_quality (n.feed_source e) k in
    let retained = λ (o : ℕ). pos (n.retained (n.out_pool o) k) in
    let of_pair = λ (e o : ℕ). (retained o *ℤ quality e) *ℤ (pos (q.proportion e) *ℤ pos (q.out o)) in
    let along = λ (a : ℕ). path_quality n a k *ℤ pos (q.path a) in
    let key = λ (a : ℕ). n.out_product (path_out n a) in
    let d = direct_mix n (proportion_flows q) j k in
    ap (λ z. z +ℤ r *ℤ d)
    (int_sum_at-same n.out_product j (λ o. retained_proportion n q (n.out_pool o) k *ℤ pos (q.out o)) (λ o. int_sum_at n.feed_pool (n.out_pool o) (λ e. of_pair e o) n.feeds) n.outs
    (λ o lo is.
    first (retained o) (proportion_quality n q (n.out_pool o) k) (pos (q.out o))
    ∙ sym (int_sum_at-mul n.feed_pool (n.out_pool o) (retained o *ℤ pos (q.out o)) (λ e. quality e *ℤ pos (q.proportion e)) n.feeds)
    ∙ int_sum_at-same n.feed_pool (n.out_pool o) (λ e. (retained o *ℤ pos (q.out o)) *ℤ (quality e *ℤ pos (q.proportion e))) (λ e. of_pair e o) n.feeds
    (λ e le at. turned (retained o) (pos (q.out o)) (quality e) (pos (q.proportion e))))
    ∙ sym (paths_at_key n of_pair n.out_product j record { each = lim.feed_pools })
    ∙ int_sum_at-same key j (λ a. of_pair (path_feed n a) (path_out n a)) (λ a. r *ℤ along a) (path_count n)
    (λ a la is. ap (λ z. path_quality n a k *ℤ pos z) (sym (h.products a la)) ∙ last (path_quality n a k) (pos (q.path a)) r)
    ∙ int_sum_at-mul key j r along (path_count n))
    ∙ sym (mul-add r (int_sum_at key j along (path_count n)) d)
  where
    first : (t q y : ℤ) → t *ℤ q *ℤ y ≡ (t *ℤ y) *ℤ q
    first t q y = simp sorted refl

    turned : (t y q r : ℤ) → (t *ℤ y) *ℤ (q *ℤ r) ≡ (t *ℤ q) *ℤ (r *ℤ y)
    turned t y q r = simp sorted refl

    last : (q w r : ℤ) → q *ℤ (w *ℤ r) ≡ r *ℤ (q *ℤ w)
    last q w r = simp sorted refl

nonneg : (b : ℕ) → pos 0 ≤ℤ pos b
nonneg b = omega (arith, linear)

pub means-of_q : (n : Net) (q : ProportionPoint) → IsLimited n → IsPointOfQ n q → BlendsByMeans n (proportion_flows q) q.prop_base (retained_proportion n q)
means-of_q n q lim h = record {
  at_most = λ j k u product lk set.
      rw (mean_inflow-of_q n q j k lim h)
      (le-mul (pos q.prop_base) (path_inflow n q j k) (limit_room n (proportion_flows q) j u) (nonneg q.prop_base) (h.at_most j k u product lk set));
  at_least = λ j k u product lk set.
      rw (mean_inflow-of_q n q j k lim h)
      (le-mul (pos q.prop_base) (limit_room n (proportion_flows q) j u) (path_inflow n q j k) (nonneg q.prop_base) (h.at_least j k u product lk set));
}

pub point_of_q-obeys : (n : Net) (q : ProportionPoint) → IsLimited n → IsPointOfQ n q → Obeys n (proportion_flows q)
point_of_q-obeys n q lim h = record {
  denominator = h.base;
  carries = h.carries;
  blends = blends-by_means n (proportion_flows q) q.prop_base (retained_proportion n q) lim h.prop_base (has_qualities-of_q n q lim h) (means-of_q n q lim h);
}

-- ---- the further rows of Pq

cancel : (m a b : ℕ) → 0 < m → m * a ≡ m * b → a ≡ b
cancel m a b h e = same_pos a b (same-cancel (pos m) (pos a) (pos b) (omega (arith, linear)) (ap pos e))

-- along paths to a product flows what its outs carry, where proportions sum to 1 and paths carry their products
pub paths_into : (n : Net) (q : ProportionPoint) (j : ℕ) → IsLimited n → 0 < q.prop_base → ((l : ℕ) → l < n.pools → sum_at n.feed_pool l q.proportion n.feeds ≡ q.prop_base)
    → ((a : ℕ) → a < path_count n → q.path a * q.prop_base ≡ q.proportion (path_feed n a) * q.out (path_out n a))
    → sum_at (λ a. n.out_product (path_out n a)) j q.path (path_count n) ≡ sum_at n.out_product j q.out n.outs
paths_into n q j lim some proportions products =
    let key = λ (a : ℕ). n.out_product (path_out n a) in
    let r = q.prop_base in
    let of_pair = λ (e o : ℕ). pos (q.proportion e * q.out o) in
    cancel r (sum_at key j q.path (path_count n)) (sum_at n.out_product j q.out n.outs) some
    (sym (sum_at-mul key j r q.path (path_count n))
    ∙ sum_at-same_key key j (λ a. r * q.path a) (λ a. q.proportion (path_feed n a) * q.out (path_out n a)) (path_count n) (λ a la is. turned r (q.path a) ∙ products a la)
    ∙ same_pos (sum_at key j (λ a. q.proportion (path_feed n a) * q.out (path_out n a)) (path_count n)) (sum_at n.out_product j (λ o. r * q.out o) n.outs)
    (sym (pos-sum_at key j (λ a. q.proportion (path_feed n a) * q.out (path_out n a)) (path_count n))
    ∙ paths_at_key n of_pair n.out_product j record { each = lim.feed_pools }
    ∙ int_sum_at-same n.out_product j (λ o. int_sum_at n.feed_pool (n.out_pool o) (λ e. of_pair e o) n.feeds) (λ o. pos (r * q.out o)) n.outs
    (λ o lo is.
    pos-sum_at n.feed_pool (n.out_pool o) (λ e. q.proportion e * q.out o) n.feeds
    ∙ ap pos (sum_at-same_key n.feed_pool (n.out_pool o) (λ e. q.proportion e * q.out o) (λ e. q.out o * q.proportion e) n.feeds (λ e le at. turned (q.proportion e) (q.out o))
    ∙ sum_at-mul n.feed_pool (n.out_pool o) (q.out o) q.proportion n.feeds
    ∙ ap (λ z. q.out o * z) (proportions (n.out_pool o) (lim.out_pools o lo))
    ∙ turned (q.out o) r))
    ∙ pos-sum_at n.out_product j (λ o. r * q.out o) n.outs)
    ∙ sum_at-mul n.out_product j r q.out n.outs)
  where
    turned : (a b : ℕ) → a * b ≡ b * a
    turned a b = omega arith

-- what flows along an out comes along its paths
outs-of_q : (n : Net) (q : ProportionPoint) (o : ℕ) → IsLimited n → IsPointOfQ n q → o < n.outs → sum_at (path_out n) o q.path (path_count n) ≡ q.out o
outs-of_q n q o lim h lt =
    cancel q.prop_base (sum_at (path_out n) o q.path (path_count n)) (q.out o) h.prop_base
    (sym (sum_at-mul (path_out n) o q.prop_base q.path (path_count n))
    ∙ sum_at-same_key (path_out n) o (λ a. q.prop_base * q.path a) (λ a. q.out o * q.proportion (path_feed n a)) (path_count n)
    (λ a la is. turned q.prop_base (q.path a) ∙ h.products a la ∙ ap (λ i. q.proportion (path_feed n a) * q.out i) is ∙ turned (q.proportion (path_feed n a)) (q.out o))
    ∙ sum_at-mul (path_out n) o (q.out o) (λ a. q.proportion (path_feed n a)) (path_count n)
    ∙ ap (λ z. q.out o * z) (natural_paths_at_out n q.proportion o record { each = lim.feed_pools } lt ∙ h.proportions (n.out_pool o) (lim.out_pools o lt))
    ∙ turned (q.out o) q.prop_base)
  where
    turned : (a b : ℕ) → a * b ≡ b * a
    turned a b = omega arith

-- a feed brings no more than its proportion of its pool's maximum
shares-of_q : (n : Net) (q : ProportionPoint) (e : ℕ) → IsLimited n → IsPointOfQ n q → e < n.feeds
    → q.prop_base * sum_at (path_feed n) e q.path (path_count n) ≤ n.pool_max (n.feed_pool e) * q.proportion e * q.base
shares-of_q n q e lim h lt =
    let l = n.feed_pool e in
    omega (
      arith,
      ap (λ z. q.prop_base * z) (h.feeds e lt),
      feed-of_q n q e lim h lt,
      mul-le-mul_left (q.proportion e) (h.carries.pools l (lim.feed_pools e lt)),
    )

pub point_of_q-point_of_pq : (n : Net) (q : ProportionPoint) → IsLimited n → IsPointOfQ n q → IsPointOfPq n q
point_of_q-point_of_pq n q lim h = record {
  of_q = h;
  outs = λ o lt. outs-of_q n q o lim h lt;
  shares = λ e lt. shares-of_q n q e lim h lt;
}
