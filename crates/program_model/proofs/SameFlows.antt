-- Plans with the same flows over other denominators obey alike and cost the same.
use Rattle.std.proofs.Common.{◌≡◌, ℕ, ◌*◌, ◌<◌, ◌≤◌, ℤ, pos, ◌+ℤ◌, ◌*ℤ◌, ◌≤ℤ◌, ◌<ℤ◌, arith, refl, sym, ap, ◌∙◌}
use Rattle.integers.specs.Sums.{int_sum_below, int_sum_at, sum_at}
use Rattle.integers.proofs.Ring.{additive, linear, sorted, mul-add, mul_left_comm_ℤ}
use Rattle.integers.proofs.Order.{le-mul, le-cancel, same-cancel, same_pos, mul_out}
use Rattle.integers.proofs.ByIndex.{int_sum_below-same, int_sum_below-mul}
use Rattle.integers.proofs.AtKey.{sum_at-mul, int_sum_at-same, int_sum_at-mul}
use Rattle.integers.proofs.ByNode.{sum_at-same}
use Rattle.pool_model.specs.Network.{Net, IsLimited}
use Rattle.pool_model.specs.Plan.{Plan, Carries, Obeys, outflow, pool_inflow, source_outflow, product_inflow, mix, treated, direct_mix, carriage}
use Rattle.program_model.specs.Points.{SameFlows, SameCost, quality_flows}
use Rattle.program_model.specs.Lifted.{factors, quality_point}
use Rattle.program_model.proofs.Means.{HasQualities, BlendsByMeans, mean_inflow, mean_room, blends-by_means}
use Rattle.program_model.proofs.FormP.{retained_quality, lifted-point_of_p, has_qualities-of_p, means-of_p}

-- ---- sums of the same flows

-- sums at a key of numbers that are in one ratio are in that ratio
in_ratio : (key : ℕ → ℕ) (k r s : ℕ) (f g : ℕ → ℕ) (n : ℕ) → ((i : ℕ) → i < n → f i * r ≡ g i * s) → r * sum_at key k f n ≡ s * sum_at key k g n
in_ratio key k r s f g n h =
    sym (sum_at-mul key k r f n)
    ∙ sum_at-same key k (λ i. r * f i) (λ i. s * g i) n (λ i lt. omega (arith, h i lt))
    ∙ sum_at-mul key k s g n

qualities_in_ratio : (key : ℕ → ℕ) (k r s : ℕ) (quality : ℕ → ℤ) (f g : ℕ → ℕ) (n : ℕ) → ((i : ℕ) → i < n → f i * r ≡ g i * s)
    → pos r *ℤ int_sum_at key k (λ i. quality i *ℤ pos (f i)) n ≡ pos s *ℤ int_sum_at key k (λ i. quality i *ℤ pos (g i)) n
qualities_in_ratio key k r s quality f g n h =
    sym (int_sum_at-mul key k (pos r) (λ i. quality i *ℤ pos (f i)) n)
    ∙ int_sum_at-same key k (λ i. pos r *ℤ (quality i *ℤ pos (f i))) (λ i. pos s *ℤ (quality i *ℤ pos (g i))) n
    (λ i lt is. turned (quality i) (f i) r ∙ ap (λ z. quality i *ℤ pos z) (h i lt) ∙ sym (turned (quality i) (g i) s))
    ∙ int_sum_at-mul key k (pos s) (λ i. quality i *ℤ pos (g i)) n
  where
    turned : (q : ℤ) (x r : ℕ) → pos r *ℤ (q *ℤ pos x) ≡ q *ℤ pos (x * r)
    turned q x r = moved (pos r) q (pos x)
      where
        moved : (r q x : ℤ) → r *ℤ (q *ℤ x) ≡ q *ℤ (x *ℤ r)
        moved r q x = simp sorted refl

outflow-same : (n : Net) (a b : Plan) (l : ℕ) → SameFlows n a b → b.base * outflow n a l ≡ a.base * outflow n b l
outflow-same n a b l h = in_ratio n.out_pool l b.base a.base a.out b.out n.outs h.out

pool_inflow-same : (n : Net) (a b : Plan) (l : ℕ) → SameFlows n a b → b.base * pool_inflow n a l ≡ a.base * pool_inflow n b l
pool_inflow-same n a b l h = in_ratio n.feed_pool l b.base a.base a.feed b.feed n.feeds h.feed

source_outflow-same : (n : Net) (a b : Plan) (i : ℕ) → SameFlows n a b → b.base * source_outflow n a i ≡ a.base * source_outflow n b i
source_outflow-same n a b i h =
    omega (arith, in_ratio n.feed_source i b.base a.base a.feed b.feed n.feeds h.feed, in_ratio n.direct_source i b.base a.base a.direct b.direct n.directs h.direct)

product_inflow-same : (n : Net) (a b : Plan) (j : ℕ) → SameFlows n a b → b.base * product_inflow n a j ≡ a.base * product_inflow n b j
product_inflow-same n a b j h =
    omega (arith, in_ratio n.out_product j b.base a.base a.out b.out n.outs h.out, in_ratio n.direct_product j b.base a.base a.direct b.direct n.directs h.direct)

mix-same : (n : Net) (a b : Plan) (l k : ℕ) → SameFlows n a b → pos b.base *ℤ mix n a l k ≡ pos a.base *ℤ mix n b l k
mix-same n a b l k h = qualities_in_ratio n.feed_pool l b.base a.base (λ e. n.source_quality (n.feed_source e) k) a.feed b.feed n.feeds h.feed

treated-same : (n : Net) (a b : Plan) (l k : ℕ) → SameFlows n a b → pos b.base *ℤ treated n a l k ≡ pos a.base *ℤ treated n b l k
treated-same n a b l k h =
    let r = pos (n.retained l k) in
    mul_left_comm_ℤ (pos b.base) r (mix n a l k) ∙ ap (λ z. r *ℤ z) (mix-same n a b l k h) ∙ mul_left_comm_ℤ r (pos a.base) (mix n b l k)

direct_mix-same : (n : Net) (a b : Plan) (j k : ℕ) → SameFlows n a b → pos b.base *ℤ direct_mix n a j k ≡ pos a.base *ℤ direct_mix n b j k
direct_mix-same n a b j k h =
    let scale = pos n.scale in
    let brought = λ (p : Plan). int_sum_at n.direct_product j (λ e. n.source_quality (n.direct_source e) k *ℤ pos (p.direct e)) n.directs in
    mul_left_comm_ℤ (pos b.base) scale (brought a)
    ∙ ap (λ z. scale *ℤ z) (qualities_in_ratio n.direct_product j b.base a.base (λ e. n.source_quality (n.direct_source e) k) a.direct b.direct n.directs h.direct)
    ∙ mul_left_comm_ℤ scale (pos a.base) (brought b)

-- ---- what carries

positive-ℤ : (m : ℕ) → 0 < m → pos 0 <ℤ pos m
positive-ℤ m h = omega (arith, linear)

nonneg : (m : ℕ) → pos 0 ≤ℤ pos m
nonneg m = omega (arith, linear)

-- two comparisons in one ratio
compared : (r s : ℕ) (x y u v : ℤ) → 0 < s → pos r *ℤ x ≡ pos s *ℤ y → pos r *ℤ u ≡ pos s *ℤ v → x ≤ℤ u → y ≤ℤ v
compared r s x y u v hs e f h = le-cancel (pos s) y v (positive-ℤ s hs) (omega (arith, additive, e, f, le-mul (pos r) x u (nonneg r) h))

natural : (x y : ℕ) → pos x ≤ℤ pos y → x ≤ y
natural x y h = omega (arith, linear)

signed : (x y : ℕ) → x ≤ y → pos x ≤ℤ pos y
signed x y h = omega (arith, linear)

room : (r s m : ℕ) → r * (s * m) ≡ s * (r * m)
room r s m = omega arith

at_most-same : (r s x y m : ℕ) → 0 < s → r * x ≡ s * y → x ≤ s * m → y ≤ r * m
at_most-same r s x y m hs e h =
    natural y (r * m) (compared r s (pos x) (pos y) (pos (s * m)) (pos (r * m)) hs (ap pos e) (ap pos (room r s m)) (signed x (s * m) h))

at_least-same : (r s x y m : ℕ) → 0 < s → r * x ≡ s * y → s * m ≤ x → r * m ≤ y
at_least-same r s x y m hs e h =
    natural (r * m) y (compared r s (pos (s * m)) (pos (r * m)) (pos x) (pos y) hs (ap pos (room r s m)) (ap pos e) (signed (s * m) x h))

-- one flow in the ratio of the bases
turned : (f r g s : ℕ) → f * r ≡ g * s → r * f ≡ s * g
turned f r g s e = omega (arith, e)

cancel : (m a b : ℕ) → 0 < m → m * a ≡ m * b → a ≡ b
cancel m a b h e = same_pos a b (same-cancel (pos m) (pos a) (pos b) (positive-ℤ m h) (ap pos e))

carries-same : (n : Net) (a b : Plan) → 0 < a.base → SameFlows n a b → Carries n a → Carries n b
carries-same n a b ha h c = record {
  sources = λ i lt. at_most-same b.base a.base (source_outflow n a i) (source_outflow n b i) (n.source_max i) ha (source_outflow-same n a b i h) (c.sources i lt);
  balanced = λ l lt. cancel a.base (pool_inflow n b l) (outflow n b l) ha
      (sym (pool_inflow-same n a b l h) ∙ ap (λ z. b.base * z) (c.balanced l lt) ∙ outflow-same n a b l h);
  pools = λ l lt. at_most-same b.base a.base (outflow n a l) (outflow n b l) (n.pool_max l) ha (outflow-same n a b l h) (c.pools l lt);
  at_least = λ j lt. at_least-same b.base a.base (product_inflow n a j) (product_inflow n b j) (n.product_min j) ha (product_inflow-same n a b j h) (c.at_least j lt);
  at_most = λ j lt. at_most-same b.base a.base (product_inflow n a j) (product_inflow n b j) (n.product_max j) ha (product_inflow-same n a b j h) (c.at_most j lt);
  arcs = record {
    feeds = λ e m lt is. at_most-same b.base a.base (a.feed e) (b.feed e) m ha (turned (a.feed e) b.base (b.feed e) a.base (h.feed e lt)) (c.arcs.feeds e m lt is);
    outs = λ o m lt is. at_most-same b.base a.base (a.out o) (b.out o) m ha (turned (a.out o) b.base (b.out o) a.base (h.out o lt)) (c.arcs.outs o m lt is);
    directs = λ e m lt is. at_most-same b.base a.base (a.direct e) (b.direct e) m ha (turned (a.direct e) b.base (b.direct e) a.base (h.direct e lt)) (c.arcs.directs e m lt is);
  };
}

-- ---- what blends

-- the same pools send the same qualities
has_qualities-same : (n : Net) (a b : Plan) (base : ℕ) (quality : ℕ → ℕ → ℤ) → 0 < a.base → SameFlows n a b → HasQualities n a base quality → HasQualities n b base quality
has_qualities-same n a b base quality ha h q = record {
  each = λ l k lt lk.
      same-cancel (pos a.base) (pos base *ℤ treated n b l k) (quality l k *ℤ pos (outflow n b l)) (positive-ℤ a.base ha)
      (mul_left_comm_ℤ (pos a.base) (pos base) (treated n b l k)
      ∙ ap (λ z. pos base *ℤ z) (sym (treated-same n a b l k h))
      ∙ mul_left_comm_ℤ (pos base) (pos b.base) (treated n a l k)
      ∙ ap (λ z. pos b.base *ℤ z) (q.each l k lt lk)
      ∙ mul_left_comm_ℤ (pos b.base) (quality l k) (pos (outflow n a l))
      ∙ ap (λ z. quality l k *ℤ pos z) (outflow-same n a b l h)
      ∙ mul_left_comm_ℤ (quality l k) (pos a.base) (pos (outflow n b l)));
}

through-same : (n : Net) (a b : Plan) (quality : ℕ → ℕ → ℤ) (j k : ℕ) → SameFlows n a b
    → pos b.base *ℤ int_sum_at n.out_product j (λ o. quality (n.out_pool o) k *ℤ pos (a.out o)) n.outs
    ≡ pos a.base *ℤ int_sum_at n.out_product j (λ o. quality (n.out_pool o) k *ℤ pos (b.out o)) n.outs
through-same n a b quality j k h = qualities_in_ratio n.out_product j b.base a.base (λ o. quality (n.out_pool o) k) a.out b.out n.outs h.out

mean_inflow-same : (n : Net) (a b : Plan) (base : ℕ) (quality : ℕ → ℕ → ℤ) (j k : ℕ) → SameFlows n a b
    → pos b.base *ℤ mean_inflow n a base quality j k ≡ pos a.base *ℤ mean_inflow n b base quality j k
mean_inflow-same n a b base quality j k h =
    let through = λ (p : Plan). int_sum_at n.out_product j (λ o. quality (n.out_pool o) k *ℤ pos (p.out o)) n.outs in
    mul-add (pos b.base) (through a) (pos base *ℤ direct_mix n a j k)
    ∙ ap (λ z. z +ℤ pos b.base *ℤ (pos base *ℤ direct_mix n a j k)) (through-same n a b quality j k h)
    ∙ ap (λ z. pos a.base *ℤ through b +ℤ z) (mul_left_comm_ℤ (pos b.base) (pos base) (direct_mix n a j k) ∙ ap (λ z. pos base *ℤ z) (direct_mix-same n a b j k h)
    ∙ mul_left_comm_ℤ (pos base) (pos a.base) (direct_mix n b j k))
    ∙ sym (mul-add (pos a.base) (through b) (pos base *ℤ direct_mix n b j k))

mean_room-same : (n : Net) (a b : Plan) (base j : ℕ) (u : ℤ) → SameFlows n a b → pos b.base *ℤ mean_room n a base j u ≡ pos a.base *ℤ mean_room n b base j u
mean_room-same n a b base j u h =
    let limit = pos n.scale *ℤ u in
    first (pos b.base) (pos base) limit (pos (product_inflow n a j))
    ∙ ap (λ z. (pos base *ℤ limit) *ℤ pos z) (product_inflow-same n a b j h)
    ∙ last (pos base) limit (pos a.base) (pos (product_inflow n b j))
  where
    first : (r b u x : ℤ) → r *ℤ (b *ℤ (u *ℤ x)) ≡ (b *ℤ u) *ℤ (r *ℤ x)
    first r b u x = simp sorted refl

    last : (b u s x : ℤ) → (b *ℤ u) *ℤ (s *ℤ x) ≡ s *ℤ (b *ℤ (u *ℤ x))
    last b u s x = simp sorted refl

means-same : (n : Net) (a b : Plan) (base : ℕ) (quality : ℕ → ℕ → ℤ) → 0 < a.base → SameFlows n a b → BlendsByMeans n a base quality → BlendsByMeans n b base quality
means-same n a b base quality ha h m = record {
  at_most = λ j k u product lk set.
      compared b.base a.base (mean_inflow n a base quality j k) (mean_inflow n b base quality j k) (mean_room n a base j u) (mean_room n b base j u) ha
      (mean_inflow-same n a b base quality j k h) (mean_room-same n a b base j u h) (m.at_most j k u product lk set);
  at_least = λ j k u product lk set.
      compared b.base a.base (mean_room n a base j u) (mean_room n b base j u) (mean_inflow n a base quality j k) (mean_inflow n b base quality j k) ha
      (mean_room-same n a b base j u h) (mean_inflow-same n a b base quality j k h) (m.at_least j k u product lk set);
}

-- ---- both

-- a plan that obeys, times the factors of all its pools, has the same flows as every plan that has its flows
lifted-same : (n : Net) (a b : Plan) → SameFlows n a b → SameFlows n (quality_flows (quality_point n a)) b
lifted-same n a b h = record {
  feed = λ e lt. longer (factors n a) (a.feed e) b.base (b.feed e) a.base (h.feed e lt);
  out = λ o lt. longer (factors n a) (a.out o) b.base (b.out o) a.base (h.out o lt);
  direct = λ e lt. longer (factors n a) (a.direct e) b.base (b.direct e) a.base (h.direct e lt);
}
  where
    longer : (m f d g c : ℕ) → f * d ≡ g * c → m * f * d ≡ g * (c * m)
    longer m f d g c e = omega (arith, ap (λ z. m * z) e)

pub obeys-same : (n : Net) (a b : Plan) → IsLimited n → 0 < b.base → SameFlows n a b → Obeys n a → Obeys n b
obeys-same n a b lim hb h o =
    let q = quality_point n a in
    let lifted = quality_flows q in
    let same = lifted-same n a b h in
    let point = lifted-point_of_p n a lim o in
    record {
      denominator = hb;
      carries = carries-same n a b o.denominator h o.carries;
      blends = blends-by_means n b q.qual_base (retained_quality n q) lim point.qual_base
          (has_qualities-same n lifted b q.qual_base (retained_quality n q) point.base same (has_qualities-of_p n q lim point))
          (means-same n lifted b q.qual_base (retained_quality n q) point.base same (means-of_p n q point));
    }

-- what flows in one ratio cost is in that ratio
priced_in_ratio : (c : ℕ → ℤ) (r s : ℕ) (f g : ℕ → ℕ) (n : ℕ) → ((i : ℕ) → i < n → r * f i ≡ s * g i)
    → pos r *ℤ int_sum_below (λ i. c i *ℤ pos (f i)) n ≡ pos s *ℤ int_sum_below (λ i. c i *ℤ pos (g i)) n
priced_in_ratio c r s f g n h =
    sym (int_sum_below-mul (pos r) (λ i. c i *ℤ pos (f i)) n)
    ∙ int_sum_below-same (λ i. pos r *ℤ (c i *ℤ pos (f i))) (λ i. pos s *ℤ (c i *ℤ pos (g i))) n
    (λ i lt. mul_left_comm_ℤ (pos r) (c i) (pos (f i)) ∙ ap (λ z. c i *ℤ pos z) (h i lt) ∙ mul_left_comm_ℤ (c i) (pos s) (pos (g i)))
    ∙ int_sum_below-mul (pos s) (λ i. c i *ℤ pos (g i)) n

carriage-same : (n : Net) (a b : Plan) → SameFlows n a b → pos b.base *ℤ carriage n a ≡ pos a.base *ℤ carriage n b
carriage-same n a b h =
    let feeds = λ (p : Plan). int_sum_below (λ e. n.feed_cost e *ℤ pos (p.feed e)) n.feeds in
    let outs = λ (p : Plan). int_sum_below (λ o. n.out_cost o *ℤ pos (p.out o)) n.outs in
    let directs = λ (p : Plan). int_sum_below (λ e. n.direct_cost e *ℤ pos (p.direct e)) n.directs in
    let parts = λ (r : ℤ) (p : Plan). mul-add r (feeds p +ℤ outs p) (directs p) ∙ ap (λ z. z +ℤ r *ℤ directs p) (mul-add r (feeds p) (outs p)) in
    omega (
      arith,
      additive,
      parts (pos b.base) a,
      priced_in_ratio n.feed_cost b.base a.base a.feed b.feed n.feeds (λ e lt. turned (a.feed e) b.base (b.feed e) a.base (h.feed e lt)),
      priced_in_ratio n.out_cost b.base a.base a.out b.out n.outs (λ o lt. turned (a.out o) b.base (b.out o) a.base (h.out o lt)),
      priced_in_ratio n.direct_cost b.base a.base a.direct b.direct n.directs (λ e lt. turned (a.direct e) b.base (b.direct e) a.base (h.direct e lt)),
      parts (pos a.base) b,
    )

pub cost-same : (n : Net) (a b : Plan) → SameFlows n a b → SameCost n a b
cost-same n a b h =
    let bought = λ (q : Plan) (i : ℕ). n.source_cost i *ℤ pos (source_outflow n q i) in
    let sold = λ (q : Plan) (j : ℕ). n.price j *ℤ pos (product_inflow n q j) in
    omega (
      arith,
      additive,
      mul_out (pos b.base) (int_sum_below (bought a) n.sources +ℤ carriage n a) (int_sum_below (sold a) n.products),
      mul-add (pos b.base) (int_sum_below (bought a) n.sources) (carriage n a),
      priced_in_ratio n.source_cost b.base a.base (source_outflow n a) (source_outflow n b) n.sources (λ i lt. source_outflow-same n a b i h),
      carriage-same n a b h,
      priced_in_ratio n.price b.base a.base (product_inflow n a) (product_inflow n b) n.products (λ j lt. product_inflow-same n a b j h),
      mul-add (pos a.base) (int_sum_below (bought b) n.sources) (carriage n b),
      mul_out (pos a.base) (int_sum_below (bought b) n.sources +ℤ carriage n b) (int_sum_below (sold b) n.products),
    )
