-- What the tests of a point of P look at, part by part.
use Rattle.std.specs.Prelude.{◌≡◌, ℕ, ◌*◌, ◌<◌, ◌≤◌, ◌^◌, length, ℤ, pos, ◌*ℤ◌, ◌≤ℤ◌, unsigned_abs}
use Rattle.integers.specs.Sums.{int_sum_at}
use Rattle.pool_model.specs.Network.{Net}
use Rattle.pool_model.specs.Plan.{mix, outflow, pool_inflow, product_inflow}
use Rattle.row_model.specs.Boxes.{qual, root_low, root_high}
use Rattle.program_model.specs.Points.{QualityPoint, quality_flows}
use Rattle.program_model.specs.Programs.{IsPointOfP, mixed_inflow}
use Rattle.point_checks.specs.Sizes.{AreAtMost}
use Rattle.point_checks.specs.Qualities.{MeetsLimits}
use Rattle.point_checks.specs.ProportionTests.{AreBases}
use Rattle.point_checks.specs.QualSlices.{seen}
use Rattle.point_checks.specs.declared.qual_slices.QualSlices.{QualSlices}

-- bases within their limits, and a number for each variable
pub record HasQualShape (n : Net) (s : QualSlices) : Type 0 where
  pub bases : AreBases s.flows.base s.qual_base
  pub quals : length s.quals.now ≡ n.pools * n.qualities
  pub x : length s.flows.feeds.now ≡ n.feeds
  pub y : length s.flows.outs.now ≡ n.outs
  pub z : length s.flows.directs.now ≡ n.directs
  pub mixed : length s.mix.now ≡ n.outs * n.qualities

-- a point of P within the limits
pub record IsQualPoint (n : Net) (s : QualSlices) : Type 0 where
  pub shape : HasQualShape n s
  pub point : IsPointOfP n (seen n s)

-- Small enough for sums of qualities: mixed variables are at most 10^11 for each unit of their outs' flows, and what pools and products
-- take is limited.
pub record AreSmallQuals (n : Net) (s : QualSlices) : Type 0 where
  pub outs : AreAtMost (2 ^ 76) s.flows.outs.now
  pub directs : AreAtMost (2 ^ 76) s.flows.directs.now
  pub mixed : (o k : ℕ) → o < n.outs → k < n.qualities → unsigned_abs ((seen n s).mixed o k) ≤ 10 ^ 11 * (seen n s).out o
  pub fed : (l : ℕ) → l < n.pools → pool_inflow n (quality_flows (seen n s)) l ≤ 2 ^ 83
  pub sent : (l : ℕ) → l < n.pools → outflow n (quality_flows (seen n s)) l ≤ 2 ^ 83
  pub inflow : (j : ℕ) → j < n.products → product_inflow n (quality_flows (seen n s)) j ≤ 2 ^ 76

-- a pool's quality lies between the least and the greatest that it is fed
pub record LiesBetween (n : Net) (q : QualityPoint) (l k : ℕ) : Type 0 where
  pub low : (root_low n (qual l k) *ℤ pos q.qual_base) ≤ℤ q.quality l k
  pub high : q.quality l k ≤ℤ (root_high n (qual l k) *ℤ pos q.qual_base)

-- what flows along an out has its pool's quality
abbrev pub HasQuality : Net → QualityPoint → ℕ → ℕ → Type 0
HasQuality n q o k = q.mixed o k *ℤ pos q.qual_base ≡ q.quality (n.out_pool o) k *ℤ pos (q.out o)

-- the quality that flows into a pool flows out of it
abbrev pub KeepsQuality : Net → QualityPoint → ℕ → ℕ → Type 0
KeepsQuality n q l k = mix n (quality_flows q) l k ≡ int_sum_at n.out_pool l (λ o. q.mixed o k) n.outs

-- a product's mean of a quality lies between its limits
abbrev pub KeepsLimits : Net → QualityPoint → ℕ → ℕ → Type 0
KeepsLimits n q j k = MeetsLimits n j k (product_inflow n (quality_flows q) j) (mixed_inflow n q j k)
