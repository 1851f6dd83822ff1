-- The zero plan and the simple plans of directs: they are written as they should be, they obey where nothing is demanded, and what they cost.
use Rattle.std.proofs.Common.{◌≡◌, ℕ, zero, suc, ◌+◌, ◌*◌, ◌<◌, ◌≤◌, ◌⊎◌, inl, inr, min, ◌==◌, if◌then◌else◌, Some, pos, ◌*ℤ◌, arith, refl, sym, ap, ◌∙◌}
use Rattle.std.proofs.Math.IntN.{*ℤ-zero}
use Rattle.integers.specs.Sums.{sum_at, product_below, product_but}
use Rattle.integers.proofs.Ring.{additive, mul_assoc_ℤ}
use Rattle.integers.proofs.AtKey.{same_or_other, chosen, passed, none_either, term-le-sum_at}
use Rattle.integers.proofs.ByNode.{sum_at-same_key, sum_at-nothing, sum_at-alone, int_sum_at-nothing, int_sum_at-alone, int_sum_below-nothing}
use Rattle.pool_model.specs.Network.{Net, IsLimited, HasFeeds}
use Rattle.pool_model.specs.Plan.{Plan, Obeys, Carries, KeepsMaxima, source_outflow, product_inflow, carriage, cost_of, treated, factor, direct_mix, quality_inflow}
use Rattle.pool_model.specs.Plan.{Written, weight, written_out, plan_of, IsWritten}
use Rattle.pool_model.specs.Starting.{HasNoMinima, MeetsMinima, feeds_before, first_weight, zero_plan, simple_plan, straight, alone, suits, way_quality, direct_flow, direct_room, way_cost}
use Rattle.integers.proofs.Tabulate.{length-tabulate, get_or-tabulate, get_or-nothing}
use Rattle.pool_model.proofs.Capped.{capped-le, capped-max, alone-keeps}
use Rattle.pool_model.proofs.ArcCosts.{paid_alone}
use Rattle.pool_model.proofs.Shipments.{Ships, le-none_or, flow-le, flow-suits, carries-ships, blends-ships, cost-ships, ships-minima, meets-nothing, meets-none}

-- a plan with an amount on one direct and nothing else, over 1
record OnlyDirect (n : Net) (p : Plan) (e t : ℕ) : Type 0 where
  base : p.base ≡ 1
  there : (e < n.directs) ⊎ (t ≡ 0)
  feed : (i : ℕ) → i < n.feeds → p.feed i ≡ 0
  out : (i : ℕ) → i < n.outs → p.out i ≡ 0
  direct : (i : ℕ) → i < n.directs → p.direct i ≡ (if i == e then t else 0)

source_outflow-only : (n : Net) (p : Plan) (e t i : ℕ) → OnlyDirect n p e t → source_outflow n p i ≡ (if n.direct_source e == i then t else 0)
source_outflow-only n p e t i o = omega (arith, sum_at-nothing n.feed_source i p.feed n.feeds o.feed, sum_at-alone n.direct_source i p.direct e t n.directs o.there o.direct)

product_inflow-only : (n : Net) (p : Plan) (e t j : ℕ) → OnlyDirect n p e t → product_inflow n p j ≡ (if n.direct_product e == j then t else 0)
product_inflow-only n p e t j o = omega (arith, sum_at-nothing n.out_product j p.out n.outs o.out, sum_at-alone n.direct_product j p.direct e t n.directs o.there o.direct)

-- the quality that reaches a product, by the one direct alone
quality_inflow-only : (n : Net) (p : Plan) (e t j k : ℕ) → OnlyDirect n p e t
    → quality_inflow n p j k ≡ pos (product_below (factor n p) n.pools) *ℤ (way_quality n (straight e) k *ℤ pos (product_inflow n p j))
quality_inflow-only n p e t j k o =
    let q = n.source_quality (n.direct_source e) k in
    let brought : direct_mix n p j k ≡ way_quality n (straight e) k *ℤ pos (product_inflow n p j) =
    ap (λ z. pos n.scale *ℤ z)
    (int_sum_at-alone n.direct_product j (λ i. n.source_quality (n.direct_source i) k) p.direct e t n.directs o.there o.direct
    ∙ ap (λ z. q *ℤ pos z) (sym (product_inflow-only n p e t j o)))
    ∙ sym (mul_assoc_ℤ (pos n.scale) q (pos (product_inflow n p j))) in
    omega (
      arith,
      additive,
      int_sum_at-nothing n.out_product j (λ i. pos (product_but (n.out_pool i) (factor n p) n.pools) *ℤ treated n p (n.out_pool i) k *ℤ pos (p.out i)) n.outs
          (λ i lt. ap (λ z. pos (product_but (n.out_pool i) (factor n p) n.pools) *ℤ treated n p (n.out_pool i) k *ℤ pos z) (o.out i lt)
          ∙ *ℤ-zero (pos (product_but (n.out_pool i) (factor n p) n.pools) *ℤ treated n p (n.out_pool i) k)),
      ap (λ z. pos (product_below (factor n p) n.pools) *ℤ z) brought,
    )

-- no arc costs anything but the one direct
carriage-only : (n : Net) (p : Plan) (e t : ℕ) → OnlyDirect n p e t → carriage n p ≡ n.direct_cost e *ℤ pos t
carriage-only n p e t o =
    omega (
      arith,
      additive,
      int_sum_below-nothing (λ i. n.feed_cost i *ℤ pos (p.feed i)) n.feeds (λ i lt. ap (λ z. n.feed_cost i *ℤ pos z) (o.feed i lt) ∙ *ℤ-zero (n.feed_cost i)),
      int_sum_below-nothing (λ i. n.out_cost i *ℤ pos (p.out i)) n.outs (λ i lt. ap (λ z. n.out_cost i *ℤ pos z) (o.out i lt) ∙ *ℤ-zero (n.out_cost i)),
      paid_alone n.direct_cost p.direct e t n.directs o.there o.direct,
    )

ships-only : (n : Net) (p : Plan) (e t : ℕ) → OnlyDirect n p e t → Ships n p (straight e) t
ships-only n p e t o = record {
  base = o.base;
  sent = λ i. source_outflow-only n p e t i o;
  taken = λ j. product_inflow-only n p e t j o;
  quality = λ j k. quality_inflow-only n p e t j k o;
  carried = carriage-only n p e t o;
}

keeps-only : (n : Net) (p : Plan) (e t : ℕ) → OnlyDirect n p e t → ((m : ℕ) → n.direct_max e ≡ Some m → t ≤ m) → KeepsMaxima n p
keeps-only n p e t o keeps = record {
  feeds = λ i m lt is. omega (arith, o.feed i lt);
  outs = λ i m lt is. omega (arith, o.out i lt);
  directs = λ i m lt is. omega (arith, o.direct i lt, alone-keeps i e t p.base n.direct_max m o.base keeps is);
}

carries-only : (n : Net) (p : Plan) (e t : ℕ) → OnlyDirect n p e t → MeetsMinima n (n.direct_product e) t → t ≤ n.source_max (n.direct_source e) → t ≤ n.product_max (n.direct_product e)
    → ((m : ℕ) → n.direct_max e ≡ Some m → t ≤ m) → Carries n p
carries-only n p e t o m source product keeps =
    carries-ships n p (straight e) t (ships-only n p e t o) m source product
    (λ l lt. sum_at-nothing n.feed_pool l p.feed n.feeds o.feed ∙ sym (sum_at-nothing n.out_pool l p.out n.outs o.out))
    (λ l lt. omega (arith, sum_at-nothing n.out_pool l p.out n.outs o.out))
    (keeps-only n p e t o keeps)

-- ---- the zero plan
zero-out : (n : Net) (o : ℕ) → written_out (zero_plan n) o ≡ 0
zero-out n o = get_or-nothing n.outs o

zero-only : (n : Net) → OnlyDirect n (plan_of n (zero_plan n)) 0 0
zero-only n = record {
  base = refl;
  there = inr refl;
  feed = λ i lt. ap (λ z. weight (zero_plan n) i * z) (sum_at-nothing n.out_pool (n.feed_pool i) (written_out (zero_plan n)) n.outs (λ o h. zero-out n o)) ∙ omega arith;
  out = λ i lt. ap (λ z. 1 * z) (zero-out n i);
  direct = λ i lt. ap (λ z. 1 * z) (get_or-nothing n.directs i) ∙ sym (none_either (i == 0) 0 refl);
}

pub zero-obeys : (n : Net) → HasNoMinima n → Obeys n (plan_of n (zero_plan n))
zero-obeys n m = record {
  denominator = omega arith;
  carries = carries-only n (plan_of n (zero_plan n)) 0 0 (zero-only n) (meets-nothing n (n.direct_product 0) m) (omega arith) (omega arith) (λ c is. omega arith);
  blends = blends-ships n (plan_of n (zero_plan n)) (straight 0) 0
      (ships-only n (plan_of n (zero_plan n)) 0 0 (zero-only n))
      (record {
        most = λ k u lk is. le-none_or (way_quality n (straight 0) k) (pos n.scale *ℤ u) 0 refl;
        least = λ k u lk is. le-none_or (pos n.scale *ℤ u) (way_quality n (straight 0) k) 0 refl;
      });
}

pub zero-minima : (n : Net) → Obeys n (plan_of n (zero_plan n)) → HasNoMinima n
zero-minima n obeys =
    meets-none n (n.direct_product 0) (ships-minima n (plan_of n (zero_plan n)) (straight 0) 0 (ships-only n (plan_of n (zero_plan n)) 0 0 (zero-only n)) obeys)

pub zero-cost : (n : Net) → cost_of n (plan_of n (zero_plan n)) ≡ pos 0
zero-cost n =
    omega (
      arith,
      additive,
      int_sum_below-nothing (λ i. n.source_cost i *ℤ pos (source_outflow n p i)) n.sources
          (λ i lt. ap (λ z. n.source_cost i *ℤ pos z) (source_outflow-only n p 0 0 i (zero-only n) ∙ none_either (n.direct_source 0 == i) 0 refl) ∙ *ℤ-zero (n.source_cost i)),
      int_sum_below-nothing (λ j. n.price j *ℤ pos (product_inflow n p j)) n.products
          (λ j lt. ap (λ z. n.price j *ℤ pos z) (product_inflow-only n p 0 0 j (zero-only n) ∙ none_either (n.direct_product 0 == j) 0 refl) ∙ *ℤ-zero (n.price j)),
      carriage-only n p 0 0 (zero-only n) ∙ *ℤ-zero (n.direct_cost 0),
    )
  where
    p : Plan
    p = plan_of n (zero_plan n)

-- ---- all weight on the first feed
-- the weights of a pool's first feeds sum to 1 where it has a feed, and to 0 where it has none
pub first_weights : (n : Net) (l m : ℕ) → sum_at n.feed_pool l (first_weight n) m ≡ min 1 (sum_at n.feed_pool l (λ _. 1) m)
first_weights n l zero = refl
first_weights n l (suc m) = elim (same_or_other (n.feed_pool m) l) [
  | inl e ↦ omega (
    arith,
    first_weights n l m,
    chosen (n.feed_pool m) l (first_weight n m) 0 e,
    chosen {X = ℕ} (n.feed_pool m) l 1 0 e,
    first_or_later (feeds_before n m) (sum_at n.feed_pool l (λ _. 1) m) (ap (λ k. sum_at n.feed_pool k (λ _. 1) m) e),
  )
  | inr d ↦ omega (arith, first_weights n l m, passed (n.feed_pool m) l (first_weight n m) 0 d, passed {X = ℕ} (n.feed_pool m) l 1 0 d)
]
  where
    first_or_later : (before count : ℕ) → before ≡ count → min 1 count + (if before == 0 then 1 else 0) ≡ min 1 (count + 1)
    first_or_later before count e = elim (same_or_other before 0) [
      | inl z ↦ omega (arith, chosen {X = ℕ} before 0 1 0 z)
      | inr d ↦ omega (arith, passed {X = ℕ} before 0 1 0 d)
    ]

pub first_weights-one : (n : Net) (w : Written) (l : ℕ) → HasFeeds n → l < n.pools
    → ((e : ℕ) → e < n.feeds → n.feed_pool e ≡ l → weight w e ≡ first_weight n e) → sum_at n.feed_pool l (weight w) n.feeds ≡ 1
first_weights-one n w l has lt is =
    let f = has l lt in
    sum_at-same_key n.feed_pool l (weight w) (first_weight n) n.feeds is
    ∙ omega (arith, first_weights n l n.feeds, term-le-sum_at n.feed_pool l (λ _. 1) n.feeds f.0 f.1 f.2)

pub zero-written : (n : Net) → HasFeeds n → IsWritten n (zero_plan n)
zero-written n has = record {
  base = (omega arith, omega arith);
  flow_base = (omega arith, omega arith);
  weights = length-tabulate (first_weight n) n.feeds;
  outflows = length-tabulate (λ _. 0) n.outs;
  direct = length-tabulate (λ _. 0) n.directs;
  weight_sums = λ l lt. first_weights-one n (zero_plan n) l has lt (λ e h at. get_or-tabulate (first_weight n) n.feeds e 0 h);
}

-- ---- the simple plan of a direct
direct-only : (n : Net) (e : ℕ) → e < n.directs → OnlyDirect n (plan_of n (simple_plan n (straight e))) e (direct_flow n e)
direct-only n e h = record {
  base = refl;
  there = inl h;
  feed = λ i lt. ap (λ z. weight (simple_plan n (straight e)) i * z)
      (sum_at-nothing n.out_pool (n.feed_pool i) (written_out (simple_plan n (straight e))) n.outs (λ o ho. get_or-nothing n.outs o)) ∙ omega arith;
  out = λ i lt. ap (λ z. 1 * z) (get_or-nothing n.outs i);
  direct = λ i lt. ap (λ z. 1 * z) (get_or-tabulate (alone e (direct_flow n e)) n.directs i 0 lt) ∙ omega arith;
}

pub direct-obeys : (n : Net) (e : ℕ) → MeetsMinima n (n.direct_product e) (direct_flow n e) → e < n.directs → Obeys n (plan_of n (simple_plan n (straight e)))
direct-obeys n e m h =
    let p = plan_of n (simple_plan n (straight e)) in
    let i = n.direct_source e in
    let j = n.direct_product e in
    let test = suits n (way_quality n (straight e)) j in
    let ends = min (n.source_max i) (n.product_max j) in
    record {
      denominator = omega arith;
      carries = carries-only n p e (direct_flow n e) (direct-only n e h) m
          (flow-le test (direct_room n e) (n.source_max i) (omega (arith, capped-le (n.direct_max e) ends)))
          (flow-le test (direct_room n e) (n.product_max j) (omega (arith, capped-le (n.direct_max e) ends)))
          (λ c is. flow-le test (direct_room n e) c (capped-max (n.direct_max e) ends c is));
      blends = blends-ships n p (straight e) (direct_flow n e) (ships-only n p e (direct_flow n e) (direct-only n e h)) (flow-suits n (straight e) (direct_room n e));
    }

pub direct-minima : (n : Net) (e : ℕ) → e < n.directs → Obeys n (plan_of n (simple_plan n (straight e))) → MeetsMinima n (n.direct_product e) (direct_flow n e)
direct-minima n e h obeys =
    let p = plan_of n (simple_plan n (straight e)) in
    ships-minima n p (straight e) (direct_flow n e) (ships-only n p e (direct_flow n e) (direct-only n e h)) obeys

pub direct-written : (n : Net) (e : ℕ) → HasFeeds n → e < n.directs → IsWritten n (simple_plan n (straight e))
direct-written n e has h = record {
  base = (omega arith, omega arith);
  flow_base = (omega arith, omega arith);
  weights = length-tabulate (first_weight n) n.feeds;
  outflows = length-tabulate (λ _. 0) n.outs;
  direct = length-tabulate (alone e (direct_flow n e)) n.directs;
  weight_sums = λ l lt. first_weights-one n (simple_plan n (straight e)) l has lt (λ f hf at. get_or-tabulate (first_weight n) n.feeds f 0 hf);
}

pub direct-cost : (n : Net) (e : ℕ) → IsLimited n → e < n.directs → cost_of n (plan_of n (simple_plan n (straight e))) ≡ way_cost n (straight e)
direct-cost n e lim h =
    cost-ships n (plan_of n (simple_plan n (straight e))) (straight e) (direct_flow n e)
    (ships-only n (plan_of n (simple_plan n (straight e))) e (direct_flow n e) (direct-only n e h)) (lim.direct_sources e h) (lim.direct_products e h)
