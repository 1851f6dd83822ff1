-- A plan whose flows and denominator are multiplied by one number.
use Rattle.std.proofs.Common.{◌≡◌, ℕ, ◌*◌, ◌≤◌, ℤ, pos, ◌+ℤ◌, ◌*ℤ◌, arith, refl, sym, ap, ◌∙◌}
use Rattle.std.proofs.Math.Nat.{mul-le-mul_left}
use Rattle.integers.specs.Sums.{int_sum_below, int_sum_at}
use Rattle.integers.proofs.Ring.{additive, sorted, mul-add, mul_left_comm_ℤ}
use Rattle.integers.proofs.Order.{mul_out}
use Rattle.integers.proofs.ByIndex.{int_sum_below-same, int_sum_below-mul}
use Rattle.integers.proofs.AtKey.{sum_at-mul, int_sum_at-same, int_sum_at-mul}
use Rattle.pool_model.specs.Network.{Net}
use Rattle.pool_model.specs.Plan.{Plan, Carries, outflow, pool_inflow, source_outflow, product_inflow, mix, direct_mix, carriage, cost_of}
use Rattle.program_model.specs.Points.{SameFlows, SameCost}

abbrev pub scaled : ℕ → Plan → Plan
scaled m p = record { base = p.base * m; feed = λ e. m * p.feed e; out = λ o. m * p.out o; direct = λ e. m * p.direct e }

pub outflow-scaled : (n : Net) (m : ℕ) (p : Plan) (l : ℕ) → outflow n (scaled m p) l ≡ m * outflow n p l
outflow-scaled n m p l = sum_at-mul n.out_pool l m p.out n.outs

pool_inflow-scaled : (n : Net) (m : ℕ) (p : Plan) (l : ℕ) → pool_inflow n (scaled m p) l ≡ m * pool_inflow n p l
pool_inflow-scaled n m p l = sum_at-mul n.feed_pool l m p.feed n.feeds

source_outflow-scaled : (n : Net) (m : ℕ) (p : Plan) (i : ℕ) → source_outflow n (scaled m p) i ≡ m * source_outflow n p i
source_outflow-scaled n m p i = omega (arith, sum_at-mul n.feed_source i m p.feed n.feeds, sum_at-mul n.direct_source i m p.direct n.directs)

pub product_inflow-scaled : (n : Net) (m : ℕ) (p : Plan) (j : ℕ) → product_inflow n (scaled m p) j ≡ m * product_inflow n p j
product_inflow-scaled n m p j = omega (arith, sum_at-mul n.out_product j m p.out n.outs, sum_at-mul n.direct_product j m p.direct n.directs)

-- the same quality of a source, times more flow
more_flow : (q m : ℤ) (x : ℕ) → q *ℤ (m *ℤ pos x) ≡ m *ℤ (q *ℤ pos x)
more_flow q m x = mul_left_comm_ℤ q m (pos x)

pub mix-scaled : (n : Net) (m : ℕ) (p : Plan) (l k : ℕ) → mix n (scaled m p) l k ≡ pos m *ℤ mix n p l k
mix-scaled n m p l k =
    let quality = λ (e : ℕ). n.source_quality (n.feed_source e) k in
    int_sum_at-same n.feed_pool l (λ e. quality e *ℤ pos (m * p.feed e)) (λ e. pos m *ℤ (quality e *ℤ pos (p.feed e))) n.feeds (λ e le is. more_flow (quality e) (pos m) (p.feed e))
    ∙ int_sum_at-mul n.feed_pool l (pos m) (λ e. quality e *ℤ pos (p.feed e)) n.feeds

pub direct_mix-scaled : (n : Net) (m : ℕ) (p : Plan) (j k : ℕ) → direct_mix n (scaled m p) j k ≡ pos m *ℤ direct_mix n p j k
direct_mix-scaled n m p j k =
    let quality = λ (e : ℕ). n.source_quality (n.direct_source e) k in
    ap (λ z. pos n.scale *ℤ z)
    (int_sum_at-same n.direct_product j (λ e. quality e *ℤ pos (m * p.direct e)) (λ e. pos m *ℤ (quality e *ℤ pos (p.direct e))) n.directs (λ e le is. more_flow (quality e) (pos m) (p.direct e))
    ∙ int_sum_at-mul n.direct_product j (pos m) (λ e. quality e *ℤ pos (p.direct e)) n.directs)
    ∙ mul_left_comm_ℤ (pos n.scale) (pos m) (int_sum_at n.direct_product j (λ e. quality e *ℤ pos (p.direct e)) n.directs)

times_le : (m f b a : ℕ) → f ≤ b * a → m * f ≤ b * m * a
times_le m f b a h = omega (arith, mul-le-mul_left m h)

times_ge : (m f b a : ℕ) → b * a ≤ f → b * m * a ≤ m * f
times_ge m f b a h = omega (arith, mul-le-mul_left m h)

pub carries-scaled : (n : Net) (m : ℕ) (p : Plan) → Carries n p → Carries n (scaled m p)
carries-scaled n m p c = record {
  sources = λ i lt. rw (source_outflow-scaled n m p i) (times_le m (source_outflow n p i) p.base (n.source_max i) (c.sources i lt));
  balanced = λ l lt. pool_inflow-scaled n m p l ∙ ap (λ z. m * z) (c.balanced l lt) ∙ sym (outflow-scaled n m p l);
  pools = λ l lt. rw (outflow-scaled n m p l) (times_le m (outflow n p l) p.base (n.pool_max l) (c.pools l lt));
  at_least = λ j lt. rw (product_inflow-scaled n m p j) (times_ge m (product_inflow n p j) p.base (n.product_min j) (c.at_least j lt));
  at_most = λ j lt. rw (product_inflow-scaled n m p j) (times_le m (product_inflow n p j) p.base (n.product_max j) (c.at_most j lt));
  arcs = record {
    feeds = λ e most lt is. times_le m (p.feed e) p.base most (c.arcs.feeds e most lt is);
    outs = λ o most lt is. times_le m (p.out o) p.base most (c.arcs.outs o most lt is);
    directs = λ e most lt is. times_le m (p.direct e) p.base most (c.arcs.directs e most lt is);
  };
}

-- what more flow costs
priced-scaled : (c : ℕ → ℤ) (m : ℕ) (x : ℕ → ℕ) (n : ℕ) → int_sum_below (λ i. c i *ℤ pos (m * x i)) n ≡ pos m *ℤ int_sum_below (λ i. c i *ℤ pos (x i)) n
priced-scaled c m x n =
    int_sum_below-same (λ i. c i *ℤ pos (m * x i)) (λ i. pos m *ℤ (c i *ℤ pos (x i))) n (λ i lt. more_flow (c i) (pos m) (x i))
    ∙ int_sum_below-mul (pos m) (λ i. c i *ℤ pos (x i)) n

carriage-scaled : (n : Net) (m : ℕ) (p : Plan) → carriage n (scaled m p) ≡ pos m *ℤ carriage n p
carriage-scaled n m p =
    let feeds = int_sum_below (λ e. n.feed_cost e *ℤ pos (p.feed e)) n.feeds in
    let outs = int_sum_below (λ o. n.out_cost o *ℤ pos (p.out o)) n.outs in
    let directs = int_sum_below (λ e. n.direct_cost e *ℤ pos (p.direct e)) n.directs in
    omega (
      arith,
      additive,
      priced-scaled n.feed_cost m p.feed n.feeds,
      priced-scaled n.out_cost m p.out n.outs,
      priced-scaled n.direct_cost m p.direct n.directs,
      mul-add (pos m) (feeds +ℤ outs) directs,
      mul-add (pos m) feeds outs,
    )

pub cost-scaled : (n : Net) (m : ℕ) (p : Plan) → cost_of n (scaled m p) ≡ pos m *ℤ cost_of n p
cost-scaled n m p =
    let bought = λ (q : Plan) (i : ℕ). n.source_cost i *ℤ pos (source_outflow n q i) in
    let sold = λ (q : Plan) (j : ℕ). n.price j *ℤ pos (product_inflow n q j) in
    omega (
      arith,
      additive,
      int_sum_below-same (bought (scaled m p)) (λ i. pos m *ℤ bought p i) n.sources
          (λ i lt. ap (λ z. n.source_cost i *ℤ pos z) (source_outflow-scaled n m p i) ∙ more_flow (n.source_cost i) (pos m) (source_outflow n p i)),
      int_sum_below-mul (pos m) (bought p) n.sources,
      int_sum_below-same (sold (scaled m p)) (λ j. pos m *ℤ sold p j) n.products
          (λ j lt. ap (λ z. n.price j *ℤ pos z) (product_inflow-scaled n m p j) ∙ more_flow (n.price j) (pos m) (product_inflow n p j)),
      int_sum_below-mul (pos m) (sold p) n.products,
      carriage-scaled n m p,
      mul_out (pos m) (int_sum_below (bought p) n.sources +ℤ carriage n p) (int_sum_below (sold p) n.products),
      mul-add (pos m) (int_sum_below (bought p) n.sources) (carriage n p),
    )

pub same_flows-scaled : (n : Net) (m : ℕ) (p : Plan) → SameFlows n (scaled m p) p
same_flows-scaled n m p = record {
  feed = λ e le. turned m (p.feed e) p.base;
  out = λ o lo. turned m (p.out o) p.base;
  direct = λ e le. turned m (p.direct e) p.base;
}
  where
    turned : (m f b : ℕ) → m * f * b ≡ f * (b * m)
    turned m f b = omega arith

pub same_cost-scaled : (n : Net) (m : ℕ) (p : Plan) → SameCost n (scaled m p) p
same_cost-scaled n m p = ap (λ z. pos p.base *ℤ z) (cost-scaled n m p) ∙ regroup (pos p.base) (pos m) (cost_of n p)
  where
    regroup : (b m c : ℤ) → b *ℤ (m *ℤ c) ≡ (b *ℤ m) *ℤ c
    regroup b m c = simp sorted refl
