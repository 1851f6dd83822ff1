-- Arcs and paths as the model sees them.
use Rattle.std.specs.Prelude.{ℕ, List, length, map, get_or, None, pos}
use Rattle.pool_model.specs.Network as model
use Rattle.pool_model.specs.Network.{Net, no_arc}
use Rattle.pool_model.specs.Paths as paths
use Rattle.integers.specs.Numbers.{numbers_at}
use Rattle.network_parts.specs.declared.arcs.Arc.{Arc}
use Rattle.network_parts.specs.declared.arcs.Path.{Path}

abbrev pub shown_arc : Arc → model.Arc
shown_arc a = record { from = a.from; to = a.to; cost = a.cost; max = a.max }

abbrev pub shown_path : Path → paths.Path
shown_path p = record { feed = p.feed; out = p.out }

-- the same back
abbrev pub kept_arc : model.Arc → Arc
kept_arc a = record { from = a.from; to = a.to; cost = a.cost; max = a.max }

-- nothing but this many pools, with feeds and outs: all that paths are made of
abbrev pub joined_net : ℕ → List model.Arc → List model.Arc → Net
joined_net pools feeds outs = record {
  sources = 0;
  pools = pools;
  products = 0;
  qualities = 0;
  feeds = length feeds;
  outs = length outs;
  directs = 0;
  feed_source = λ e. (get_or feeds e no_arc).from;
  feed_pool = λ e. (get_or feeds e no_arc).to;
  out_pool = λ o. (get_or outs o no_arc).from;
  out_product = λ o. (get_or outs o no_arc).to;
  direct_source = λ _. 0;
  direct_product = λ _. 0;
  source_cost = λ _. pos 0;
  source_max = λ _. 0;
  source_quality = λ _ _. pos 0;
  pool_max = λ _. 0;
  price = λ _. pos 0;
  product_min = λ _. 0;
  product_max = λ _. 0;
  least = λ _ _. None;
  most = λ _ _. None;
  feed_cost = λ _. pos 0;
  out_cost = λ _. pos 0;
  direct_cost = λ _. pos 0;
  feed_max = λ _. None;
  out_max = λ _. None;
  direct_max = λ _. None;
  scale = 1;
  retained = λ _ _. 1;
}

-- the paths of a feed that goes to a pool, through the outs below a number
abbrev pub paths_behind : List model.Arc → ℕ → ℕ → ℕ → List paths.Path
paths_behind outs feed pool count = map (λ o. record { feed = feed; out = o }) (numbers_at (λ o. (get_or outs o no_arc).from) pool count)
