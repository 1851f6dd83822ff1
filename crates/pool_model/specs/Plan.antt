-- What a plan is, when it obeys the network, and what it costs.
use Rattle.std.specs.Prelude.{◌≡◌, ℕ, ◌+◌, ◌*◌, ◌<◌, ◌≤◌, max, List, length, get_or, Some, ℤ, pos, ◌+ℤ◌, ◌-ℤ◌, ◌*ℤ◌, ◌≤ℤ◌, ◌<ℤ◌}
use Rattle.integers.specs.Sums.{int_sum_below, product_below, int_sum_at, sum_at, product_but}
use Rattle.pool_model.specs.Network.{Net, by_arc}

-- Flows over the denominator `base`, by feed, out and direct: each counts that many parts of a millionth of flow.
-- No limit is set to the denominator.
pub record Plan : Type 0 where
  pub base : ℕ
  pub feed : ℕ → ℕ
  pub out : ℕ → ℕ
  pub direct : ℕ → ℕ

-- ---- flows

-- what a pool sends out
abbrev pub outflow : Net → Plan → ℕ → ℕ
outflow n p l = sum_at n.out_pool l p.out n.outs

-- what flows into a pool
abbrev pub pool_inflow : Net → Plan → ℕ → ℕ
pool_inflow n p l = sum_at n.feed_pool l p.feed n.feeds

-- what a source sends out
abbrev pub source_outflow : Net → Plan → ℕ → ℕ
source_outflow n p i = sum_at n.feed_source i p.feed n.feeds + sum_at n.direct_source i p.direct n.directs

-- what flows into a product
abbrev pub product_inflow : Net → Plan → ℕ → ℕ
product_inflow n p j = sum_at n.out_product j p.out n.outs + sum_at n.direct_product j p.direct n.directs

-- what flows along an arc, by its number among all
abbrev pub arc_flow : Net → Plan → ℕ → ℕ
arc_flow n p = by_arc n p.feed p.out p.direct

-- no arc with a maximum carries more
pub record KeepsMaxima (n : Net) (p : Plan) : Type 0 where
  pub feeds : (e m : ℕ) → e < n.feeds → n.feed_max e ≡ Some m → p.feed e ≤ p.base * m
  pub outs : (o m : ℕ) → o < n.outs → n.out_max o ≡ Some m → p.out o ≤ p.base * m
  pub directs : (e m : ℕ) → e < n.directs → n.direct_max e ≡ Some m → p.direct e ≤ p.base * m

-- No node takes or sends more than its maximum and no arc carries more, a product takes at least its minimum, and what flows
-- into a pool flows out of it.
pub record Carries (n : Net) (p : Plan) : Type 0 where
  pub sources : (i : ℕ) → i < n.sources → source_outflow n p i ≤ p.base * n.source_max i
  pub balanced : (l : ℕ) → l < n.pools → pool_inflow n p l ≡ outflow n p l
  pub pools : (l : ℕ) → l < n.pools → outflow n p l ≤ p.base * n.pool_max l
  pub at_least : (j : ℕ) → j < n.products → p.base * n.product_min j ≤ product_inflow n p j
  pub at_most : (j : ℕ) → j < n.products → product_inflow n p j ≤ p.base * n.product_max j
  pub arcs : KeepsMaxima n p

-- ---- qualities, multiplied out over all pools: no division

-- the quality that flows into a pool, times its flow
abbrev pub mix : Net → Plan → ℕ → ℕ → ℤ
mix n p l k = int_sum_at n.feed_pool l (λ e. n.source_quality (n.feed_source e) k *ℤ pos (p.feed e)) n.feeds

-- what a pool sends out, and 1 for a pool that sends nothing
abbrev pub factor : Net → Plan → ℕ → ℕ
factor n p l = max (outflow n p l) 1

-- the parts of it that leave the pool again
abbrev pub treated : Net → Plan → ℕ → ℕ → ℤ
treated n p l k = pos (n.retained l k) *ℤ mix n p l k

-- the quality that directs bring to a product, in parts of the scale, times their flow
abbrev pub direct_mix : Net → Plan → ℕ → ℕ → ℤ
direct_mix n p j k = pos n.scale *ℤ int_sum_at n.direct_product j (λ e. n.source_quality (n.direct_source e) k *ℤ pos (p.direct e)) n.directs

-- the quality that reaches a product, in parts of the scale, times its flow and the factors of all pools
abbrev pub quality_inflow : Net → Plan → ℕ → ℕ → ℤ
quality_inflow n p j k =
    int_sum_at n.out_product j (λ o. pos (product_but (n.out_pool o) (factor n p) n.pools) *ℤ treated n p (n.out_pool o) k *ℤ pos (p.out o)) n.outs
    +ℤ pos (product_below (factor n p) n.pools) *ℤ direct_mix n p j k

-- a quality, in parts of the scale, times the product's inflow
abbrev pub limit_room : Net → Plan → ℕ → ℤ → ℤ
limit_room n p j u = pos n.scale *ℤ u *ℤ pos (product_inflow n p j)

-- the same, times the factors of all pools
abbrev pub quality_room : Net → Plan → ℕ → ℤ → ℤ
quality_room n p j u = pos (product_below (factor n p) n.pools) *ℤ limit_room n p j u

-- Every product's mean quality lies between its limits. A pool mixes by flow, and all that leaves it has what it retains of its
-- mean.
pub record Blends (n : Net) (p : Plan) : Type 0 where
  pub at_most : (j k : ℕ) (u : ℤ) → j < n.products → k < n.qualities → n.most j k ≡ Some u → quality_inflow n p j k ≤ℤ quality_room n p j u
  pub at_least : (j k : ℕ) (u : ℤ) → j < n.products → k < n.qualities → n.least j k ≡ Some u → quality_room n p j u ≤ℤ quality_inflow n p j k

-- A plan obeys the network: its denominator is at least 1, it carries and it blends.
pub record Obeys (n : Net) (p : Plan) : Type 0 where
  pub denominator : 0 < p.base
  pub carries : Carries n p
  pub blends : Blends n p

-- ---- cost

-- what the flows along all arcs cost, in picos over the plan's denominator
abbrev pub carriage : Net → Plan → ℤ
carriage n p =
    int_sum_below (λ e. n.feed_cost e *ℤ pos (p.feed e)) n.feeds
    +ℤ int_sum_below (λ o. n.out_cost o *ℤ pos (p.out o)) n.outs
    +ℤ int_sum_below (λ e. n.direct_cost e *ℤ pos (p.direct e)) n.directs

-- purchases and carriage less revenue, in picos over the plan's denominator
abbrev pub cost_of : Net → Plan → ℤ
cost_of n p = int_sum_below (λ i. n.source_cost i *ℤ pos (source_outflow n p i)) n.sources
    +ℤ carriage n p
    -ℤ int_sum_below (λ j. n.price j *ℤ pos (product_inflow n p j)) n.products

-- a plan costs less than this many picos over a base
abbrev pub CostsLess : Net → Plan → ℤ → ℕ → Type 0
CostsLess n p cost base = (pos base *ℤ cost_of n p) <ℤ (cost *ℤ pos p.base)

-- ---- written plans

-- A plan as it is written: for each feed its weight in its pool, over `base`; for each out and each direct its flow,
-- over `flow_base`, in millionths.
pub record Written : Type 0 where
  pub base : ℕ
  pub flow_base : ℕ
  pub weights : List ℕ
  pub outflows : List ℕ
  pub direct : List ℕ

abbrev pub weight : Written → ℕ → ℕ
weight w e = get_or w.weights e 0

abbrev pub written_out : Written → ℕ → ℕ
written_out w o = get_or w.outflows o 0

abbrev pub written_direct : Written → ℕ → ℕ
written_direct w e = get_or w.direct e 0

-- what a pool sends out, as it is written
abbrev pub written_outflow : Net → Written → ℕ → ℕ
written_outflow n w l = sum_at n.out_pool l (written_out w) n.outs

-- The plan that a written plan stands for, over both bases: a feed takes its weight's part of what its pool sends out.
abbrev pub plan_of : Net → Written → Plan
plan_of n w = record {
  base = w.flow_base * w.base;
  feed = λ e. weight w e * written_outflow n w (n.feed_pool e);
  out = λ o. w.base * written_out w o;
  direct = λ e. w.base * written_direct w e;
}

-- A written plan has a number for each arc, its bases are within the limits, and each pool's weights sum to the base.
pub record IsWritten (n : Net) (w : Written) : Type 0 where
  pub base : (1 ≤ w.base) × (w.base ≤ 1048576)
  pub flow_base : (1 ≤ w.flow_base) × (w.flow_base ≤ 65536)
  pub weights : length w.weights ≡ n.feeds
  pub outflows : length w.outflows ≡ n.outs
  pub direct : length w.direct ≡ n.directs
  pub weight_sums : (l : ℕ) → l < n.pools → sum_at n.feed_pool l (weight w) n.feeds ≡ w.base
