-- The quality that flows bring to a node, and the limits on it.
use Rattle.std.specs.Prelude.{◌≡◌, ℕ, ◌^◌, ◌<ℤ◌, ◌≤ℤ◌, Option, Some, None, ℤ, pos, ◌*ℤ◌}
use Rattle.integers.specs.Sums.{int_sum_at, sum_at}
use Rattle.pool_model.specs.Network.{Net}
use Rattle.pool_model.specs.Starting.{straight, way_quality}
use Rattle.row_model.specs.Catalogue.{path_quality}
use Rattle.blend_network.specs.Keys.{key_of, count_of}
use Rattle.blend_network.specs.declared.keys.Key.{Key}
use Rattle.blend_network.specs.declared.keys.Key.TheVariants.{FeedsInto, DirectsInto, PathsInto}
use Rattle.point_checks.specs.declared.carriers.Carrier.{Carrier}
use Rattle.point_checks.specs.declared.carriers.Carrier.TheVariants.{Feeds, Directs, Paths}

-- by which key feeds, directs and paths end at a node
abbrev pub key_by : Carrier → Key
key_by Feeds = FeedsInto
key_by Directs = DirectsInto
key_by Paths = PathsInto

-- what one brings of a quality: a feed what its source has, and directs and paths what reaches a product, in parts of the scale
abbrev pub quality_by : Net → Carrier → ℕ → ℕ → ℤ
quality_by n Feeds i k = n.source_quality (n.feed_source i) k
quality_by n Directs i k = way_quality n (straight i) k
quality_by n Paths i k = path_quality n i k

-- how much that is at the most
abbrev pub most_by : Carrier → ℕ
most_by Feeds = 10 ^ 11
most_by Directs = 10 ^ 14
most_by Paths = 10 ^ 14

-- what flows to a node
abbrev pub flow_into : Net → Carrier → ℕ → (ℕ → ℕ) → ℕ
flow_into n by node flow = sum_at (key_of n (key_by by)) node flow (count_of n (key_by by))

-- the quality that they bring to a node, times their flow
abbrev pub quality_brought : Net → Carrier → ℕ → ℕ → (ℕ → ℕ) → ℤ
quality_brought n by node k flow = int_sum_at (key_of n (key_by by)) node (λ i. quality_by n by i k *ℤ pos (flow i)) (count_of n (key_by by))

-- a quality that reaches a product, in parts of a scale, passes a most, if there is one
abbrev pub IsAbove : Option ℤ → ℤ → ℕ → ℤ → Type 0
IsAbove None scale inflow quality = ⊥
IsAbove (Some most) scale inflow quality = (scale *ℤ most *ℤ pos inflow) <ℤ quality

-- and stays below a least, if there is one
abbrev pub IsBelow : Option ℤ → ℤ → ℕ → ℤ → Type 0
IsBelow None scale inflow quality = ⊥
IsBelow (Some least) scale inflow quality = quality <ℤ (scale *ℤ least *ℤ pos inflow)

-- the quality that reaches a product, in parts of the scale, times its inflow, lies between the product's limits
pub record MeetsLimits (n : Net) (j k inflow : ℕ) (quality : ℤ) : Type 0 where
  pub at_most : (u : ℤ) → n.most j k ≡ Some u → quality ≤ℤ (pos n.scale *ℤ u *ℤ pos inflow)
  pub at_least : (u : ℤ) → n.least j k ≡ Some u → (pos n.scale *ℤ u *ℤ pos inflow) ≤ℤ quality
