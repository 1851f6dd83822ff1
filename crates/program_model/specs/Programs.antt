-- The exact programs: when a point of each form is one of the pooling problem. The product of a quality or a proportion and
-- a flow stands as it is, without an envelope.
use Rattle.std.specs.Prelude.{◌≡◌, ℕ, ◌*◌, ◌<◌, ◌≤◌, Some, ℤ, pos, ◌+ℤ◌, ◌*ℤ◌, ◌≤ℤ◌}
use Rattle.integers.specs.Sums.{int_sum_at, sum_at}
use Rattle.pool_model.specs.Network.{Net}
use Rattle.pool_model.specs.Plan.{Carries, mix, direct_mix, limit_room}
use Rattle.row_model.specs.Boxes.{qual, root_low, root_high}
use Rattle.row_model.specs.Variables.{path_count, path_feed, path_out}
use Rattle.row_model.specs.Catalogue.{path_quality}
use Rattle.program_model.specs.Points.{ProportionPoint, QualityPoint, proportion_flows, quality_flows}

-- ---- form P, by qualities (Haverly 1978)

-- the quality that reaches a product, in parts of the scale, times its flow: what pools retain of the mixed variables
abbrev pub mixed_inflow : Net → QualityPoint → ℕ → ℕ → ℤ
mixed_inflow n q j k = int_sum_at n.out_product j (λ o. pos (n.retained (n.out_pool o) k) *ℤ q.mixed o k) n.outs +ℤ direct_mix n (quality_flows q) j k

-- The flows carry. The quality that flows into a pool flows out of it, each product's mean quality lies between its limits,
-- and mixed variables are the quality that enters the out's pool times the out's flow. That quality lies between the least and the
-- greatest that the pool is fed.
pub record IsPointOfP (n : Net) (q : QualityPoint) : Type 0 where
  pub base : 0 < q.base
  pub qual_base : 0 < q.qual_base
  pub carries : Carries n (quality_flows q)
  pub mixing : (l k : ℕ) → l < n.pools → k < n.qualities → mix n (quality_flows q) l k ≡ int_sum_at n.out_pool l (λ o. q.mixed o k) n.outs
  pub at_most : (j k : ℕ) (u : ℤ) → j < n.products → k < n.qualities → n.most j k ≡ Some u → mixed_inflow n q j k ≤ℤ limit_room n (quality_flows q) j u
  pub at_least : (j k : ℕ) (u : ℤ) → j < n.products → k < n.qualities → n.least j k ≡ Some u → limit_room n (quality_flows q) j u ≤ℤ mixed_inflow n q j k
  pub products : (o k : ℕ) → o < n.outs → k < n.qualities → q.mixed o k *ℤ pos q.qual_base ≡ q.quality (n.out_pool o) k *ℤ pos (q.out o)
  pub low : (l k : ℕ) → l < n.pools → k < n.qualities → (root_low n (qual l k) *ℤ pos q.qual_base) ≤ℤ q.quality l k
  pub high : (l k : ℕ) → l < n.pools → k < n.qualities → q.quality l k ≤ℤ (root_high n (qual l k) *ℤ pos q.qual_base)

-- ---- form Q, by proportions (Ben-Tal, Eiger and Gershovitz 1994)

-- the quality that reaches a product, in parts of the scale, times its flow, by the flows along paths
abbrev pub path_inflow : Net → ProportionPoint → ℕ → ℕ → ℤ
path_inflow n q j k =
    int_sum_at (λ a. n.out_product (path_out n a)) j (λ a. path_quality n a k *ℤ pos (q.path a)) (path_count n)
    +ℤ direct_mix n (proportion_flows q) j k

-- The flows carry. The proportions of a pool's feeds sum to 1, what a feed brings goes along its paths, each product's mean
-- quality lies between its limits, and along a path flows its feed's proportion of what its out carries.
pub record IsPointOfQ (n : Net) (q : ProportionPoint) : Type 0 where
  pub base : 0 < q.base
  pub prop_base : 0 < q.prop_base
  pub carries : Carries n (proportion_flows q)
  pub proportions : (l : ℕ) → l < n.pools → sum_at n.feed_pool l q.proportion n.feeds ≡ q.prop_base
  pub feeds : (e : ℕ) → e < n.feeds → q.feed e ≡ sum_at (path_feed n) e q.path (path_count n)
  pub at_most : (j k : ℕ) (u : ℤ) → j < n.products → k < n.qualities → n.most j k ≡ Some u → path_inflow n q j k ≤ℤ limit_room n (proportion_flows q) j u
  pub at_least : (j k : ℕ) (u : ℤ) → j < n.products → k < n.qualities → n.least j k ≡ Some u → limit_room n (proportion_flows q) j u ≤ℤ path_inflow n q j k
  pub products : (a : ℕ) → a < path_count n → q.path a * q.prop_base ≡ q.proportion (path_feed n a) * q.out (path_out n a)

-- ---- form Pq (Tawarmalani and Sahinidis 2002)

-- A point of form Q. What flows along an out comes along its paths, and a feed brings no more than its proportion of its
-- pool's maximum.
pub record IsPointOfPq (n : Net) (q : ProportionPoint) : Type 0 where
  pub of_q : IsPointOfQ n q
  pub outs : (o : ℕ) → o < n.outs → sum_at (path_out n) o q.path (path_count n) ≡ q.out o
  pub shares : (e : ℕ) → e < n.feeds → q.prop_base * sum_at (path_feed n) e q.path (path_count n) ≤ n.pool_max (n.feed_pool e) * q.proportion e * q.base
