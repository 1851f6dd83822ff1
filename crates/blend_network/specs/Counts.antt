-- How many there are of each kind, as code holds it.
use Rattle.std.specs.Prelude.{◌≡◌, length}
use Rattle.pool_model.specs.Network.{Net}
use Rattle.pool_model.specs.Paths.{paths_of}
use Rattle.blend_network.specs.declared.counts.Counts.{Counts}

-- these are the counts of a network
pub record AreCounts (n : Net) (c : Counts) : Type 0 where
  pub sources : c.sources ≡ n.sources
  pub pools : c.pools ≡ n.pools
  pub products : c.products ≡ n.products
  pub qualities : c.qualities ≡ n.qualities
  pub feeds : c.feeds ≡ n.feeds
  pub outs : c.outs ≡ n.outs
  pub directs : c.directs ≡ n.directs
  pub paths : c.paths ≡ length (paths_of n)
