-- The rows of the exact programs in the catalogue: those that are the same in every box, read at the numbers of a point.
use Rattle.std.specs.Prelude.{◌≡◌, ℕ, ◌*◌, ◌/◌, ◌%◌, ◌<◌, List, [], ◌∷◌, ◌++◌, length, get_or, pos, ◌*ℤ◌, ◌≤ℤ◌}
use Rattle.pool_model.specs.Network.{Net}
use Rattle.pool_model.specs.Plan.{KeepsMaxima}
use Rattle.pool_model.specs.Limits.{most_limits, least_limits, no_limit}
use Rattle.row_model.specs.Boxes.{grain, qual, root_low, root_high}
use Rattle.row_model.specs.Variables.{PerVariable, none, path_count, path_feed, path_out}
use Rattle.row_model.specs.Catalogue.{Family, HoldsOfEach, network_families, pq_families, mixing_row, mixed_most_row, mixed_least_row, proportions_row, feed_row, path_most_row, path_least_row}
use Rattle.row_model.specs.Lift.{MeetsRow, with_flows}
use Rattle.program_model.specs.Points.{ProportionPoint, QualityPoint, proportion_flows, quality_flows}

-- ---- rows

-- the families of P and of Q without their envelopes
abbrev pub exact_p_families : Net → List Family
exact_p_families n =
    record { count = n.pools * n.qualities; row = λ i. mixing_row n (i / n.qualities) (i % n.qualities) }
    ∷ record { count = length (most_limits n); row = λ i. mixed_most_row n (get_or (most_limits n) i no_limit) }
    ∷ record { count = length (least_limits n); row = λ i. mixed_least_row n (get_or (least_limits n) i no_limit) }
    ∷ []

abbrev pub exact_q_families : Net → List Family
exact_q_families n =
    record { count = n.pools; row = proportions_row n }
    ∷ record { count = n.feeds; row = feed_row n }
    ∷ record { count = length (most_limits n); row = λ i. path_most_row n (get_or (most_limits n) i no_limit) }
    ∷ record { count = length (least_limits n); row = λ i. path_least_row n (get_or (least_limits n) i no_limit) }
    ∷ []

-- ---- points

-- the numbers of a point over both of its bases; proportions are counted in parts of the grain
abbrev pub proportion_values : ProportionPoint → PerVariable
proportion_values q = with_flows q.prop_base (proportion_flows q) record none {
  w = λ a. pos q.prop_base *ℤ pos (q.path a);
  proportion = λ e. pos (grain * q.base * q.proportion e);
}

abbrev pub quality_values : QualityPoint → PerVariable
quality_values q = with_flows q.qual_base (quality_flows q) record none {
  quality = λ l k. pos q.base *ℤ q.quality l k;
  mixed = λ o k. pos q.qual_base *ℤ q.mixed o k;
}

-- ---- the programs by their rows: what their texts say

-- numbers with bases above 0 that meet the rows of P and its products, with qualities between their ends and no flow above the
-- maximum of its arc
pub record SolvesP (n : Net) (q : QualityPoint) : Type 0 where
  pub base : 0 < q.base
  pub qual_base : 0 < q.qual_base
  pub rows : HoldsOfEach (MeetsRow n (quality_values q) (q.base * q.qual_base)) (network_families n ++ exact_p_families n)
  pub products : (o k : ℕ) → o < n.outs → k < n.qualities → q.mixed o k *ℤ pos q.qual_base ≡ q.quality (n.out_pool o) k *ℤ pos (q.out o)
  pub low : (l k : ℕ) → l < n.pools → k < n.qualities → (root_low n (qual l k) *ℤ pos q.qual_base) ≤ℤ q.quality l k
  pub high : (l k : ℕ) → l < n.pools → k < n.qualities → q.quality l k ≤ℤ (root_high n (qual l k) *ℤ pos q.qual_base)
  pub maxima : KeepsMaxima n (quality_flows q)

-- the same of Q
pub record SolvesQ (n : Net) (q : ProportionPoint) : Type 0 where
  pub base : 0 < q.base
  pub prop_base : 0 < q.prop_base
  pub rows : HoldsOfEach (MeetsRow n (proportion_values q) (q.base * q.prop_base)) (network_families n ++ exact_q_families n)
  pub products : (a : ℕ) → a < path_count n → q.path a * q.prop_base ≡ q.proportion (path_feed n a) * q.out (path_out n a)
  pub maxima : KeepsMaxima n (proportion_flows q)

-- and of Pq
pub record SolvesPq (n : Net) (q : ProportionPoint) : Type 0 where
  pub base : 0 < q.base
  pub prop_base : 0 < q.prop_base
  pub rows : HoldsOfEach (MeetsRow n (proportion_values q) (q.base * q.prop_base)) (network_families n ++ (exact_q_families n ++ pq_families n))
  pub products : (a : ℕ) → a < path_count n → q.path a * q.prop_base ≡ q.proportion (path_feed n a) * q.out (path_out n a)
  pub maxima : KeepsMaxima n (proportion_flows q)
