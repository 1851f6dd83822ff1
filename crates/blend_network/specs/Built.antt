-- What holds of every network.
use Rattle.std.specs.Prelude.{◌≡◌, ℕ, ◌<◌, ◌≤◌, List, length, get_or}
use Rattle.pool_model.specs.Network as model
use Rattle.pool_model.specs.Network.{net_of, IsLimited, scale_of, no_source, no_pool, no_product}
use Rattle.pool_model.specs.Paths as paths
use Rattle.pool_model.specs.Paths.{paths_of}
use Rattle.blend_network.specs.Made.{IsMade}
use Rattle.blend_network.specs.Keys.{IsIndexOf}
use Rattle.blend_network.specs.Limits.{AreLimitsOf}
use Rattle.blend_network.specs.declared.network.limits.Limits.{Limits}

-- Every network was made from rows, is within the limits, has one place per quality in each of its lists of qualities,
-- and keeps its paths, its index, the limits that are set and its scale.
pub record IsBuilt (n : model.Network) (kept : List paths.Path) (index : List (List (List ℕ))) (limits : Limits) (scale : ℕ) : Type 0 where
  pub made : IsMade n
  pub limited : IsLimited (net_of n)
  pub quality : (i : ℕ) → i < length n.sources → length (get_or n.sources i no_source).quality ≡ length n.qualities
  pub least : (j : ℕ) → j < length n.products → length (get_or n.products j no_product).least ≡ length n.qualities
  pub most : (j : ℕ) → j < length n.products → length (get_or n.products j no_product).most ≡ length n.qualities
  pub ratio : (l : ℕ) → l < length n.pools → length (get_or n.pools l no_pool).ratio ≡ length n.qualities
  pub paths : kept ≡ paths_of (net_of n)
  pub few : length kept ≤ 512
  pub grouped : IsIndexOf (net_of n) index
  pub set : AreLimitsOf (net_of n) limits
  pub scaled : scale ≡ scale_of n.pools
