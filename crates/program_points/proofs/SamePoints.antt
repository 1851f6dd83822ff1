-- Points with the same numbers are points of the same programs.
use Rattle.std.proofs.Common.{◌≡◌, ℕ, ◌*◌, ◌<◌, ℤ, pos, ◌+ℤ◌, ◌*ℤ◌, ◌≤ℤ◌, arith, sym, ap, subst, ◌∙◌}
use Rattle.integers.specs.Sums.{int_sum_at}
use Rattle.integers.proofs.AtKey.{int_sum_at-same}
use Rattle.integers.proofs.ByNode.{sum_at-same}
use Rattle.pool_model.specs.Network.{Net, IsLimited}
use Rattle.pool_model.specs.Plan.{Plan, product_inflow, limit_room, mix, direct_mix}
use Rattle.row_model.specs.Boxes.{qual, root_low, root_high}
use Rattle.row_model.specs.Variables.{path_count, path_feed, path_out}
use Rattle.row_model.specs.Catalogue.{path_quality}
use Rattle.row_model.proofs.PathSums.{path_feed-below, path_out-below}
use Rattle.program_model.specs.Points.{ProportionPoint, QualityPoint, proportion_flows, quality_flows, SameFlows}
use Rattle.program_model.specs.Programs.{IsPointOfP, IsPointOfQ, path_inflow, mixed_inflow}
use Rattle.program_model.proofs.FormP.{point_of_p-obeys}
use Rattle.program_model.proofs.FormQ.{point_of_q-obeys}
use Rattle.program_model.proofs.SameFlows.{obeys-same}

-- ---- flows

-- the same flows over the same base
pub record AreEqualFlows (n : Net) (a b : Plan) : Type 0 where
  pub base : a.base ≡ b.base
  pub feed : (e : ℕ) → e < n.feeds → a.feed e ≡ b.feed e
  pub out : (o : ℕ) → o < n.outs → a.out o ≡ b.out o
  pub direct : (e : ℕ) → e < n.directs → a.direct e ≡ b.direct e

times_same : (x y c d : ℕ) → x ≡ y → c ≡ d → x * d ≡ y * c
times_same x y c d e f = ap (λ z. z * d) e ∙ ap (λ z. y * z) (sym f)

pub equal-same : (n : Net) (a b : Plan) → AreEqualFlows n a b → SameFlows n a b
equal-same n a b h = record {
  feed = λ e lt. times_same (a.feed e) (b.feed e) a.base b.base (h.feed e lt) h.base;
  out = λ o lt. times_same (a.out o) (b.out o) a.base b.base (h.out o lt) h.base;
  direct = λ e lt. times_same (a.direct e) (b.direct e) a.base b.base (h.direct e lt) h.base;
}

positive-same : (a b : ℕ) → a ≡ b → 0 < a → 0 < b
positive-same a b e h = omega arith

product_inflow-equal : (n : Net) (a b : Plan) (j : ℕ) → AreEqualFlows n a b → product_inflow n a j ≡ product_inflow n b j
product_inflow-equal n a b j h = omega (arith, sum_at-same n.out_product j a.out b.out n.outs h.out, sum_at-same n.direct_product j a.direct b.direct n.directs h.direct)

direct_mix-equal : (n : Net) (a b : Plan) (j k : ℕ) → AreEqualFlows n a b → direct_mix n a j k ≡ direct_mix n b j k
direct_mix-equal n a b j k h =
    ap (λ z. pos n.scale *ℤ z)
    (int_sum_at-same n.direct_product j (λ e. n.source_quality (n.direct_source e) k *ℤ pos (a.direct e)) (λ e. n.source_quality (n.direct_source e) k *ℤ pos (b.direct e)) n.directs
    (λ e lt is. ap (λ z. n.source_quality (n.direct_source e) k *ℤ pos z) (h.direct e lt)))

limit_room-equal : (n : Net) (a b : Plan) (j : ℕ) (u : ℤ) → AreEqualFlows n a b → limit_room n a j u ≡ limit_room n b j u
limit_room-equal n a b j u h = ap (λ z. pos n.scale *ℤ u *ℤ pos z) (product_inflow-equal n a b j h)

mix-equal : (n : Net) (a b : Plan) (l k : ℕ) → AreEqualFlows n a b → mix n a l k ≡ mix n b l k
mix-equal n a b l k h =
    int_sum_at-same n.feed_pool l (λ e. n.source_quality (n.feed_source e) k *ℤ pos (a.feed e)) (λ e. n.source_quality (n.feed_source e) k *ℤ pos (b.feed e)) n.feeds
    (λ e lt is. ap (λ z. n.source_quality (n.feed_source e) k *ℤ pos z) (h.feed e lt))

compared_equal : (x y u v : ℤ) → x ≡ y → u ≡ v → x ≤ℤ u → y ≤ℤ v
compared_equal x y u v e f h = subst (λ z. z ≤ℤ v) e (subst (λ z. x ≤ℤ z) f h)

-- ---- points of Q

pub record AreEqualProportions (n : Net) (a b : ProportionPoint) : Type 0 where
  pub flows : AreEqualFlows n (proportion_flows a) (proportion_flows b)
  pub prop_base : a.prop_base ≡ b.prop_base
  pub proportion : (e : ℕ) → e < n.feeds → a.proportion e ≡ b.proportion e
  pub path : (q : ℕ) → q < path_count n → a.path q ≡ b.path q

path_inflow-equal : (n : Net) (a b : ProportionPoint) (j k : ℕ) → AreEqualProportions n a b → path_inflow n a j k ≡ path_inflow n b j k
path_inflow-equal n a b j k h =
    let quality = λ (q : ℕ). path_quality n q k in
    let through = λ (p : ProportionPoint). int_sum_at (λ q. n.out_product (path_out n q)) j (λ q. quality q *ℤ pos (p.path q)) (path_count n) in
    ap (λ z. z +ℤ direct_mix n (proportion_flows a) j k)
    (int_sum_at-same (λ q. n.out_product (path_out n q)) j (λ q. quality q *ℤ pos (a.path q)) (λ q. quality q *ℤ pos (b.path q)) (path_count n) (λ q lt is. ap (λ z. quality q *ℤ pos z) (h.path q lt)))
    ∙ ap (λ z. through b +ℤ z) (direct_mix-equal n (proportion_flows a) (proportion_flows b) j k h.flows)

pub point_of_q-equal : (n : Net) (a b : ProportionPoint) → IsLimited n → AreEqualProportions n a b → IsPointOfQ n a → IsPointOfQ n b
point_of_q-equal n a b lim h p =
    let fa = proportion_flows a in
    let fb = proportion_flows b in
    let base = positive-same a.base b.base h.flows.base p.base in
    record {
      base = base;
      prop_base = positive-same a.prop_base b.prop_base h.prop_base p.prop_base;
      carries = (obeys-same n fa fb lim base (equal-same n fa fb h.flows) (point_of_q-obeys n a lim p)).carries;
      proportions = λ l lt. sym (sum_at-same n.feed_pool l a.proportion b.proportion n.feeds h.proportion) ∙ p.proportions l lt ∙ h.prop_base;
      feeds = λ e lt. sym (h.flows.feed e lt) ∙ p.feeds e lt ∙ sum_at-same (path_feed n) e a.path b.path (path_count n) h.path;
      at_most = λ j k u product lk set.
          compared_equal (path_inflow n a j k) (path_inflow n b j k) (limit_room n fa j u) (limit_room n fb j u)
          (path_inflow-equal n a b j k h) (limit_room-equal n fa fb j u h.flows) (p.at_most j k u product lk set);
      at_least = λ j k u product lk set.
          compared_equal (limit_room n fa j u) (limit_room n fb j u) (path_inflow n a j k) (path_inflow n b j k)
          (limit_room-equal n fa fb j u h.flows) (path_inflow-equal n a b j k h) (p.at_least j k u product lk set);
      products = λ q lt.
          ap (λ z. z * b.prop_base) (sym (h.path q lt)) ∙ ap (λ z. a.path q * z) (sym h.prop_base) ∙ p.products q lt
          ∙ ap (λ z. z * a.out (path_out n q)) (h.proportion (path_feed n q) (path_feed-below n q lt))
          ∙ ap (λ z. b.proportion (path_feed n q) * z) (h.flows.out (path_out n q) (path_out-below n q lt));
    }

-- ---- points of P

pub record AreEqualQualities (n : Net) (a b : QualityPoint) : Type 0 where
  pub flows : AreEqualFlows n (quality_flows a) (quality_flows b)
  pub qual_base : a.qual_base ≡ b.qual_base
  pub quality : (l k : ℕ) → l < n.pools → k < n.qualities → a.quality l k ≡ b.quality l k
  pub mixed : (o k : ℕ) → o < n.outs → k < n.qualities → a.mixed o k ≡ b.mixed o k

mixed_inflow-equal : (n : Net) (a b : QualityPoint) (j k : ℕ) → AreEqualQualities n a b → k < n.qualities → mixed_inflow n a j k ≡ mixed_inflow n b j k
mixed_inflow-equal n a b j k h lk =
    let kept = λ (q : QualityPoint) (o : ℕ). pos (n.retained (n.out_pool o) k) *ℤ q.mixed o k in
    ap (λ z. z +ℤ direct_mix n (quality_flows a) j k)
    (int_sum_at-same n.out_product j (kept a) (kept b) n.outs (λ o lt is. ap (λ z. pos (n.retained (n.out_pool o) k) *ℤ z) (h.mixed o k lt lk)))
    ∙ ap (λ z. int_sum_at n.out_product j (kept b) n.outs +ℤ z) (direct_mix-equal n (quality_flows a) (quality_flows b) j k h.flows)

pub point_of_p-equal : (n : Net) (a b : QualityPoint) → IsLimited n → AreEqualQualities n a b → IsPointOfP n a → IsPointOfP n b
point_of_p-equal n a b lim h p =
    let fa = quality_flows a in
    let fb = quality_flows b in
    let base = positive-same a.base b.base h.flows.base p.base in
    record {
      base = base;
      qual_base = positive-same a.qual_base b.qual_base h.qual_base p.qual_base;
      carries = (obeys-same n fa fb lim base (equal-same n fa fb h.flows) (point_of_p-obeys n a lim p)).carries;
      mixing = λ l k lt lk.
          sym (mix-equal n fa fb l k h.flows) ∙ p.mixing l k lt lk ∙ int_sum_at-same n.out_pool l (λ o. a.mixed o k) (λ o. b.mixed o k) n.outs (λ o lo is. h.mixed o k lo lk);
      at_most = λ j k u product lk set.
          compared_equal (mixed_inflow n a j k) (mixed_inflow n b j k) (limit_room n fa j u) (limit_room n fb j u)
          (mixed_inflow-equal n a b j k h lk) (limit_room-equal n fa fb j u h.flows) (p.at_most j k u product lk set);
      at_least = λ j k u product lk set.
          compared_equal (limit_room n fa j u) (limit_room n fb j u) (mixed_inflow n a j k) (mixed_inflow n b j k)
          (limit_room-equal n fa fb j u h.flows) (mixed_inflow-equal n a b j k h lk) (p.at_least j k u product lk set);
      products = λ o k lt lk.
          ap (λ z. z *ℤ pos b.qual_base) (sym (h.mixed o k lt lk)) ∙ ap (λ z. a.mixed o k *ℤ pos z) (sym h.qual_base) ∙ p.products o k lt lk
          ∙ ap (λ z. z *ℤ pos (a.out o)) (h.quality (n.out_pool o) k (lim.out_pools o lt) lk)
          ∙ ap (λ z. b.quality (n.out_pool o) k *ℤ pos z) (h.flows.out o lt);
      low = λ l k lt lk. subst (λ z. (root_low n (qual l k) *ℤ pos z) ≤ℤ b.quality l k) h.qual_base
          (subst (λ z. (root_low n (qual l k) *ℤ pos a.qual_base) ≤ℤ z) (h.quality l k lt lk) (p.low l k lt lk));
      high = λ l k lt lk. subst (λ z. b.quality l k ≤ℤ (root_high n (qual l k) *ℤ pos z)) h.qual_base
          (subst (λ z. z ≤ℤ (root_high n (qual l k) *ℤ pos a.qual_base)) (h.quality l k lt lk) (p.high l k lt lk));
    }
