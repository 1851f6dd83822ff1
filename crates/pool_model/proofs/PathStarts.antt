-- The simple plans of paths: they are written as they should be, they obey where nothing is demanded, and what they cost.
use Rattle.std.proofs.Common.{◌≡◌, ℕ, zero, suc, ◌*◌, ◌<◌, ◌≤◌, inl, inr, min, max, ◌==◌, if◌then◌else◌, Some, ℤ, pos, ◌*ℤ◌, arith, refl, sym, ap, ◌∙◌}
use Rattle.std.proofs.Math.IntN.{*ℤ-zero}
use Rattle.integers.specs.Sums.{sum_at, product_below, product_but}
use Rattle.integers.proofs.Ring.{additive, sorted, add-mul, mul_assoc_ℤ}
use Rattle.integers.proofs.AtKey.{same_or_other, chosen, passed, none_either, sum_at-one, product_but_is}
use Rattle.integers.proofs.ByNode.{sum_at-same_key, sum_at-nothing, sum_at-alone, int_sum_below-nothing, int_sum_at-nothing, int_sum_at-alone}
use Rattle.pool_model.specs.Network.{Net, IsLimited, HasFeeds, capped}
use Rattle.pool_model.specs.Plan.{Plan, Obeys, KeepsMaxima, source_outflow, pool_inflow, outflow, product_inflow, carriage, cost_of, mix, treated, direct_mix, factor, quality_inflow}
use Rattle.pool_model.specs.Plan.{weight, written_out, written_outflow, plan_of, IsWritten}
use Rattle.pool_model.specs.Starting.{MeetsMinima, IsWay, first_weight, simple_plan, through, alone, suits, way_quality, way_carriage, path_flow, path_room, way_cost}
use Rattle.integers.proofs.Tabulate.{length-tabulate, get_or-tabulate, get_or-nothing}
use Rattle.pool_model.proofs.Capped.{capped-le, capped-max, alone-keeps}
use Rattle.pool_model.proofs.ArcCosts.{paid_alone}
use Rattle.pool_model.proofs.Shipments.{Ships, chosen-le, flow-le, flow-suits, carries-ships, blends-ships, cost-ships, ships-minima}
use Rattle.pool_model.proofs.Starts.{first_weights-one}

-- a plan with an amount on one feed and on one out of its pool, and nothing else, over 1
record OnlyPath (n : Net) (p : Plan) (e o t : ℕ) : Type 0 where
  base : p.base ≡ 1
  way : IsWay n (through e o)
  pool : n.out_pool o < n.pools
  feed : (i : ℕ) → i < n.feeds → p.feed i ≡ (if i == e then t else 0)
  out : (i : ℕ) → i < n.outs → p.out i ≡ (if i == o then t else 0)
  direct : (i : ℕ) → i < n.directs → p.direct i ≡ 0

source_outflow-path : (n : Net) (p : Plan) (e o t i : ℕ) → OnlyPath n p e o t → source_outflow n p i ≡ (if n.feed_source e == i then t else 0)
source_outflow-path n p e o t i h = omega (arith, sum_at-nothing n.direct_source i p.direct n.directs h.direct, sum_at-alone n.feed_source i p.feed e t n.feeds (inl h.way.0) h.feed)

product_inflow-path : (n : Net) (p : Plan) (e o t j : ℕ) → OnlyPath n p e o t → product_inflow n p j ≡ (if n.out_product o == j then t else 0)
product_inflow-path n p e o t j h = omega (arith, sum_at-nothing n.direct_product j p.direct n.directs h.direct, sum_at-alone n.out_product j p.out o t n.outs (inl h.way.1) h.out)

outflow-path : (n : Net) (p : Plan) (e o t l : ℕ) → OnlyPath n p e o t → outflow n p l ≡ (if n.out_pool o == l then t else 0)
outflow-path n p e o t l h = sum_at-alone n.out_pool l p.out o t n.outs (inl h.way.1) h.out

pool_inflow-path : (n : Net) (p : Plan) (e o t l : ℕ) → OnlyPath n p e o t → pool_inflow n p l ≡ (if n.out_pool o == l then t else 0)
pool_inflow-path n p e o t l h = sum_at-alone n.feed_pool l p.feed e t n.feeds (inl h.way.0) h.feed ∙ ap (λ k. if k == l then t else 0) h.way.2

-- ---- what reaches the product has the source's qualities
mix-path : (n : Net) (p : Plan) (e o t k : ℕ) → OnlyPath n p e o t → mix n p (n.out_pool o) k ≡ n.source_quality (n.feed_source e) k *ℤ pos t
mix-path n p e o t k h =
    int_sum_at-alone n.feed_pool (n.out_pool o) (λ i. n.source_quality (n.feed_source i) k) p.feed e t n.feeds (inl h.way.0) h.feed
    ∙ ap (λ z. n.source_quality (n.feed_source e) k *ℤ pos z) (chosen (n.feed_pool e) (n.out_pool o) t 0 h.way.2)

treated-path : (n : Net) (p : Plan) (e o t k : ℕ) → OnlyPath n p e o t → treated n p (n.out_pool o) k ≡ way_quality n (through e o) k *ℤ pos t
treated-path n p e o t k h =
    let retained = pos (n.retained (n.out_pool o) k) in
    ap (λ z. retained *ℤ z) (mix-path n p e o t k h) ∙ sym (mul_assoc_ℤ retained (n.source_quality (n.feed_source e) k) (pos t))

regroup : (b q t s : ℤ) → (b *ℤ (q *ℤ t)) *ℤ s ≡ (b *ℤ t) *ℤ (q *ℤ s)
regroup b q t s = simp sorted refl

-- a mean over one pool, where the other factors and its own make all
one_mean : (but all t s : ℕ) (q : ℤ) → but * max t 1 ≡ all → (t ≡ 0 → s ≡ 0) → (pos but *ℤ (q *ℤ pos t)) *ℤ pos s ≡ pos all *ℤ (q *ℤ pos s)
one_mean but all zero s q e none =
    ap (λ z. (pos but *ℤ (q *ℤ pos 0)) *ℤ pos z) (none refl) ∙ *ℤ-zero (pos but *ℤ (q *ℤ pos 0))
    ∙ sym (ap (λ z. pos all *ℤ (q *ℤ pos z)) (none refl) ∙ ap (λ z. pos all *ℤ z) (*ℤ-zero q) ∙ *ℤ-zero (pos all))
one_mean but all (suc t) s q e none = regroup (pos but) q (pos (suc t)) (pos s) ∙ ap (λ z. pos z *ℤ (q *ℤ pos s)) (ap (λ z. but * z) (let m : suc t ≡ max (suc t) 1 = omega arith in m) ∙ e)

quality_inflow-path : (n : Net) (p : Plan) (e o t j k : ℕ) → OnlyPath n p e o t
    → quality_inflow n p j k ≡ pos (product_below (factor n p) n.pools) *ℤ (way_quality n (through e o) k *ℤ pos (product_inflow n p j))
quality_inflow-path n p e o t j k h =
    let but = product_but (n.out_pool o) (factor n p) n.pools in
    let all = product_below (factor n p) n.pools in
    let q = way_quality n (through e o) k in
    let s = if n.out_product o == j then t else 0 in
    let own : outflow n p (n.out_pool o) ≡ t = outflow-path n p e o t (n.out_pool o) h ∙ chosen (n.out_pool o) (n.out_pool o) t 0 refl in
    let factors : but * max t 1 ≡ all = ap (λ z. but * max z 1) (sym own) ∙ product_but_is (n.out_pool o) (factor n p) n.pools h.pool in
    omega (
      arith,
      additive,
      int_sum_at-alone n.out_product j (λ i. pos (product_but (n.out_pool i) (factor n p) n.pools) *ℤ treated n p (n.out_pool i) k) p.out o t n.outs (inl h.way.1) h.out,
      ap (λ z. (pos but *ℤ z) *ℤ pos s) (treated-path n p e o t k h),
      one_mean but all t s q factors (λ none. none_either (n.out_product o == j) t none),
      ap (λ z. pos all *ℤ (q *ℤ pos z)) (product_inflow-path n p e o t j h),
      ap (λ z. pos all *ℤ z) none ∙ *ℤ-zero (pos all),
    )
  where
    none : direct_mix n p j k ≡ pos 0
    none =
        ap (λ z. pos n.scale *ℤ z) (int_sum_at-nothing n.direct_product j (λ i. n.source_quality (n.direct_source i) k *ℤ pos (p.direct i)) n.directs
        (λ i lt. ap (λ z. n.source_quality (n.direct_source i) k *ℤ pos z) (h.direct i lt) ∙ *ℤ-zero (n.source_quality (n.direct_source i) k)))
        ∙ *ℤ-zero (pos n.scale)

-- no arcs cost anything but the feed and the out
carriage-path : (n : Net) (p : Plan) (e o t : ℕ) → OnlyPath n p e o t → carriage n p ≡ way_carriage n (through e o) *ℤ pos t
carriage-path n p e o t h =
    omega (
      arith,
      additive,
      paid_alone n.feed_cost p.feed e t n.feeds (inl h.way.0) h.feed,
      paid_alone n.out_cost p.out o t n.outs (inl h.way.1) h.out,
      int_sum_below-nothing (λ i. n.direct_cost i *ℤ pos (p.direct i)) n.directs (λ i lt. ap (λ z. n.direct_cost i *ℤ pos z) (h.direct i lt) ∙ *ℤ-zero (n.direct_cost i)),
      add-mul (n.feed_cost e) (n.out_cost o) (pos t),
    )

ships-path : (n : Net) (p : Plan) (e o t : ℕ) → OnlyPath n p e o t → Ships n p (through e o) t
ships-path n p e o t h = record {
  base = h.base;
  sent = λ i. source_outflow-path n p e o t i h;
  taken = λ j. product_inflow-path n p e o t j h;
  quality = λ j k. quality_inflow-path n p e o t j k h;
  carried = carriage-path n p e o t h;
}

keeps-path : (n : Net) (p : Plan) (e o t : ℕ) → OnlyPath n p e o t → ((m : ℕ) → n.feed_max e ≡ Some m → t ≤ m) → ((m : ℕ) → n.out_max o ≡ Some m → t ≤ m) → KeepsMaxima n p
keeps-path n p e o t h feed out = record {
  feeds = λ i m lt is. omega (arith, h.feed i lt, alone-keeps i e t p.base n.feed_max m h.base feed is);
  outs = λ i m lt is. omega (arith, h.out i lt, alone-keeps i o t p.base n.out_max m h.base out is);
  directs = λ i m lt is. omega (arith, h.direct i lt);
}

-- ---- the simple plan of a path
simple-out : (n : Net) (e o i : ℕ) → i < n.outs → written_out (simple_plan n (through e o)) i ≡ (if i == o then path_flow n e o else 0)
simple-out n e o i lt = get_or-tabulate (alone o (path_flow n e o)) n.outs i 0 lt

simple-outflow : (n : Net) (e o l : ℕ) → o < n.outs → written_outflow n (simple_plan n (through e o)) l ≡ (if n.out_pool o == l then path_flow n e o else 0)
simple-outflow n e o l h = sum_at-alone n.out_pool l (written_out (simple_plan n (through e o))) o (path_flow n e o) n.outs (inl h) (λ i lt. simple-out n e o i lt)

simple-weight : (n : Net) (e o i : ℕ) → i < n.feeds → weight (simple_plan n (through e o)) i ≡ (if n.feed_pool i == n.feed_pool e then alone e 1 i else first_weight n i)
simple-weight n e o i lt = get_or-tabulate (λ f. if n.feed_pool f == n.feed_pool e then alone e 1 f else first_weight n f) n.feeds i 0 lt

-- the weight of a feed that isn't the path's, and what its pool sends out: one of them is nothing
simple-feed : (n : Net) (e o i : ℕ) → IsWay n (through e o) → i < n.feeds
    → weight (simple_plan n (through e o)) i * written_outflow n (simple_plan n (through e o)) (n.feed_pool i) ≡ (if i == e then path_flow n e o else 0)
simple-feed n e o i way lt =
    let w = simple_plan n (through e o) in
    let t = path_flow n e o in
    elim (same_or_other i e) [
      | inl same ↦
          let one : weight w i ≡ 1 = simple-weight n e o i lt ∙ chosen (n.feed_pool i) (n.feed_pool e) (alone e 1 i) (first_weight n i) (ap n.feed_pool same) ∙ chosen {X = ℕ} i e 1 0 same in
          let flow : written_outflow n w (n.feed_pool i) ≡ t = simple-outflow n e o (n.feed_pool i) way.1 ∙ chosen (n.out_pool o) (n.feed_pool i) t 0 (sym (ap n.feed_pool same ∙ way.2)) in
          ap (λ z. z * written_outflow n w (n.feed_pool i)) one ∙ omega (arith, flow, chosen i e t 0 same)
      | inr other ↦ elim (same_or_other (n.feed_pool i) (n.feed_pool e)) [
        | inl at ↦
            let none : weight w i ≡ 0 = simple-weight n e o i lt ∙ chosen (n.feed_pool i) (n.feed_pool e) (alone e 1 i) (first_weight n i) at ∙ passed {X = ℕ} i e 1 0 other in
            ap (λ z. z * written_outflow n w (n.feed_pool i)) none ∙ omega (arith, passed i e t 0 other)
        | inr elsewhere ↦
            let dry : written_outflow n w (n.feed_pool i) ≡ 0 = simple-outflow n e o (n.feed_pool i) way.1 ∙ passed (n.out_pool o) (n.feed_pool i) t 0 (λ is. elsewhere (sym is ∙ sym way.2)) in
            ap (λ z. weight w i * z) dry ∙ omega (arith, passed i e t 0 other)
      ]
    ]

path-only : (n : Net) (e o : ℕ) → IsWay n (through e o) → n.feed_pool e < n.pools → OnlyPath n (plan_of n (simple_plan n (through e o))) e o (path_flow n e o)
path-only n e o way pool = record {
  base = refl;
  way = way;
  pool = omega (arith, way.2);
  feed = λ i lt. simple-feed n e o i way lt;
  out = λ i lt. ap (λ z. 1 * z) (simple-out n e o i lt) ∙ omega arith;
  direct = λ i lt. ap (λ z. 1 * z) (get_or-nothing n.directs i);
}

pub path-obeys : (n : Net) (e o : ℕ) → MeetsMinima n (n.out_product o) (path_flow n e o) → IsWay n (through e o) → n.feed_pool e < n.pools → Obeys n (plan_of n (simple_plan n (through e o)))
path-obeys n e o m way pool =
    let p = plan_of n (simple_plan n (through e o)) in
    let i = n.feed_source e in
    let j = n.out_product o in
    let t = path_flow n e o in
    let nodes = min (n.source_max i) (min (n.pool_max (n.out_pool o)) (n.product_max j)) in
    let room = path_room n e o in
    let by_feed = capped (n.feed_max e) nodes in
    let below : room ≤ nodes = omega (arith, capped-le (n.out_max o) by_feed, capped-le (n.feed_max e) nodes) in
    let test = suits n (way_quality n (through e o)) j in
    let only = path-only n e o way pool in
    record {
      denominator = omega arith;
      carries = carries-ships n p (through e o) t (ships-path n p e o t only) m
          (flow-le test room (n.source_max i) (omega (arith, below)))
          (flow-le test room (n.product_max j) (omega (arith, below)))
          (λ l lt. pool_inflow-path n p e o t l only ∙ sym (outflow-path n p e o t l only))
          (λ l lt. omega (arith, outflow-path n p e o t l only, chosen-le (n.out_pool o) l t p.base n.pool_max only.base (flow-le test room (n.pool_max (n.out_pool o)) (omega (arith, below)))))
          (keeps-path n p e o t only
          (λ c is. flow-le test room c (omega (arith, capped-le (n.out_max o) by_feed, capped-max (n.feed_max e) nodes c is)))
          (λ c is. flow-le test room c (capped-max (n.out_max o) by_feed c is)));
      blends = blends-ships n p (through e o) t (ships-path n p e o t only) (flow-suits n (through e o) room);
    }

pub path-minima : (n : Net) (e o : ℕ) → IsWay n (through e o) → n.feed_pool e < n.pools → Obeys n (plan_of n (simple_plan n (through e o))) → MeetsMinima n (n.out_product o) (path_flow n e o)
path-minima n e o way pool obeys =
    let p = plan_of n (simple_plan n (through e o)) in
    ships-minima n p (through e o) (path_flow n e o) (ships-path n p e o (path_flow n e o) (path-only n e o way pool)) obeys

-- the weights of the path's pool sum to 1, and so do those of the others
simple-weights : (n : Net) (e o l : ℕ) → HasFeeds n → IsWay n (through e o) → l < n.pools → sum_at n.feed_pool l (weight (simple_plan n (through e o))) n.feeds ≡ 1
simple-weights n e o l has way lt = elim (same_or_other (n.feed_pool e) l) [
  | inl same ↦
      sum_at-same_key n.feed_pool l (weight (simple_plan n (through e o))) (λ f. if f == e then 1 else 0) n.feeds
      (λ f h at. simple-weight n e o f h ∙ chosen (n.feed_pool f) (n.feed_pool e) (alone e 1 f) (first_weight n f) (at ∙ sym same))
      ∙ sum_at-one n.feed_pool l e 1 n.feeds way.0 ∙ chosen {X = ℕ} (n.feed_pool e) l 1 0 same
  | inr other ↦
      first_weights-one n (simple_plan n (through e o)) l has lt
      (λ f h at. simple-weight n e o f h ∙ passed (n.feed_pool f) (n.feed_pool e) (alone e 1 f) (first_weight n f) (λ is. other (sym is ∙ at)))
]

pub path-written : (n : Net) (e o : ℕ) → HasFeeds n → IsWay n (through e o) → IsWritten n (simple_plan n (through e o))
path-written n e o has way = record {
  base = (omega arith, omega arith);
  flow_base = (omega arith, omega arith);
  weights = length-tabulate (λ f. if n.feed_pool f == n.feed_pool e then alone e 1 f else first_weight n f) n.feeds;
  outflows = length-tabulate (alone o (path_flow n e o)) n.outs;
  direct = length-tabulate (λ _. 0) n.directs;
  weight_sums = λ l lt. simple-weights n e o l has way lt;
}

pub path-cost : (n : Net) (e o : ℕ) → IsLimited n → IsWay n (through e o) → cost_of n (plan_of n (simple_plan n (through e o))) ≡ way_cost n (through e o)
path-cost n e o lim way =
    let p = plan_of n (simple_plan n (through e o)) in
    cost-ships n p (through e o) (path_flow n e o)
    (ships-path n p e o (path_flow n e o) (path-only n e o way (lim.feed_pools e way.0))) (lim.feed_sources e way.0) (lim.out_products o way.1)
