-- What the tests of a point look at, part by part.
use Rattle.std.specs.Prelude.{◌≡◌, ℕ, ◌*◌, ◌<◌, ◌≤◌, ◌^◌, length}
use Rattle.integers.specs.Sums.{sum_at}
use Rattle.pool_model.specs.Network.{Net}
use Rattle.pool_model.specs.Plan.{product_inflow}
use Rattle.row_model.specs.Variables.{path_count, path_feed, path_out}
use Rattle.program_model.specs.Points.{ProportionPoint, proportion_flows}
use Rattle.program_model.specs.Programs.{IsPointOfQ, path_inflow}
use Rattle.point_checks.specs.Flows.{FlowsFit}
use Rattle.point_checks.specs.Sizes.{AreAtMost}
use Rattle.point_checks.specs.Qualities.{MeetsLimits}
use Rattle.point_checks.specs.PropSlices.{seen}
use Rattle.point_checks.specs.declared.prop_slices.PropSlices.{PropSlices}

-- both bases of a point are above 0 and within their limits
pub record AreBases (first other : ℕ) : Type 0 where
  pub base : 0 < first
  pub base_most : first ≤ 2 ^ 36
  pub second : 0 < other
  pub second_most : other ≤ 2 ^ 20

-- ---- points of Q

-- bases within their limits, and a number for each variable
pub record HasPropShape (n : Net) (s : PropSlices) : Type 0 where
  pub bases : AreBases s.flows.base s.prop_base
  pub props : length s.props.now ≡ n.feeds
  pub x : length s.flows.feeds.now ≡ n.feeds
  pub y : length s.flows.outs.now ≡ n.outs
  pub z : length s.flows.directs.now ≡ n.directs
  pub paths : length s.paths.now ≡ path_count n

-- a point of Q within the limits
pub record IsPropPoint (n : Net) (s : PropSlices) : Type 0 where
  pub shape : HasPropShape n s
  pub point : IsPointOfQ n (seen s)

-- the flows fit, no flow along a path is above 10^14 millionths, and no proportion above 1
pub record FitsProps (n : Net) (s : PropSlices) : Type 0 where
  pub flows : FlowsFit n s.flows.base s.flows.feeds.now s.flows.outs.now s.flows.directs.now
  pub paths : AreAtMost (s.flows.base * 10 ^ 14) s.paths.now
  pub proportions : AreAtMost s.prop_base s.props.now

-- Small enough for sums of qualities: what a product takes is limited, and so is all that flows to products.
pub record AreSmallProps (n : Net) (s : PropSlices) : Type 0 where
  pub outs : AreAtMost (2 ^ 76) s.flows.outs.now
  pub directs : AreAtMost (2 ^ 76) s.flows.directs.now
  pub paths : (j : ℕ) → j < n.products → sum_at (λ a. n.out_product (path_out n a)) j (seen s).path (path_count n) ≤ 2 ^ 76
  pub inflow : (j : ℕ) → j < n.products → product_inflow n (proportion_flows (seen s)) j ≤ 2 ^ 76

-- at one pool, feed and path
abbrev pub SumsToOne : Net → ProportionPoint → ℕ → Type 0
SumsToOne n q l = sum_at n.feed_pool l q.proportion n.feeds ≡ q.prop_base

abbrev pub ComesFrom : Net → ProportionPoint → ℕ → Type 0
ComesFrom n q e = q.feed e ≡ sum_at (path_feed n) e q.path (path_count n)

abbrev pub IsProduct : Net → ProportionPoint → ℕ → Type 0
IsProduct n q a = q.path a * q.prop_base ≡ q.proportion (path_feed n a) * q.out (path_out n a)

-- a product's mean of a quality lies between its limits
abbrev pub KeepsLimits : Net → ProportionPoint → ℕ → ℕ → Type 0
KeepsLimits n q j k = MeetsLimits n j k (product_inflow n (proportion_flows q) j) (path_inflow n q j k)
