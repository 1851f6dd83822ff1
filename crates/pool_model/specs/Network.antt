-- A network: its lists in file order, and the same by number, as plans speak of it.
use Rattle.std.specs.Prelude.{◌≡◌, ℕ, ◌+◌, ◌^◌, ◌<◌, ◌≤◌, min, ◌==◌, Bool, if◌then◌else◌, List, [], ◌∷◌, length, get_or, Option, Some, None, ℤ, pos, neg_ℤ, ◌+ℤ◌, ◌≤ℤ◌}
use Rattle.std.specs.List.{list_all}
use Rattle.integers.specs.Sums.{piece}

-- a source: millionths of money a unit, millionths of flow at the most, millionths of each quality
pub record Source : Type 0 where
  pub name : List ℕ
  pub cost : ℤ
  pub max : ℕ
  pub quality : List ℤ

-- a pool: millionths of flow at the most, and of each quality that enters how many thousandths leave
pub record Pool : Type 0 where
  pub name : List ℕ
  pub max : ℕ
  pub ratio : List ℕ

pub record Product : Type 0 where
  pub name : List ℕ
  pub price : ℤ
  pub min : ℕ
  pub max : ℕ
  pub least : List (Option ℤ)
  pub most : List (Option ℤ)

-- an arc, by the numbers of its two ends: millionths of money a unit, and millionths of flow at the most, if that is limited
pub record Arc : Type 0 where
  pub from : ℕ
  pub to : ℕ
  pub cost : ℤ
  pub max : Option ℕ

-- Sources, pools, products and qualities are numbered from 0 in file order. The arcs are kept by kind, each kind in
-- file order: feeds go from a source to a pool, outs from a pool to a product, directs from a source to a product.
pub record Network : Type 0 where
  pub qualities : List (List ℕ)
  pub sources : List Source
  pub pools : List Pool
  pub products : List Product
  pub feeds : List Arc
  pub outs : List Arc
  pub directs : List Arc

-- ---- the same by number

-- Counts, the ends of the arcs by number, and the numbers of each node and arc. Of `scale` parts of a quality that enters a pool
-- so many leave it as `retained` says: both are 1 where no pool removes anything. What stands behind a count has no meaning.
pub record Net : Type 0 where
  pub sources : ℕ
  pub pools : ℕ
  pub products : ℕ
  pub qualities : ℕ
  pub feeds : ℕ
  pub outs : ℕ
  pub directs : ℕ
  pub feed_source : ℕ → ℕ
  pub feed_pool : ℕ → ℕ
  pub out_pool : ℕ → ℕ
  pub out_product : ℕ → ℕ
  pub direct_source : ℕ → ℕ
  pub direct_product : ℕ → ℕ
  pub source_cost : ℕ → ℤ
  pub source_max : ℕ → ℕ
  pub source_quality : ℕ → ℕ → ℤ
  pub pool_max : ℕ → ℕ
  pub price : ℕ → ℤ
  pub product_min : ℕ → ℕ
  pub product_max : ℕ → ℕ
  pub least : ℕ → ℕ → Option ℤ
  pub most : ℕ → ℕ → Option ℤ
  pub feed_cost : ℕ → ℤ
  pub out_cost : ℕ → ℤ
  pub direct_cost : ℕ → ℤ
  pub feed_max : ℕ → Option ℕ
  pub out_max : ℕ → Option ℕ
  pub direct_max : ℕ → Option ℕ
  pub scale : ℕ
  pub retained : ℕ → ℕ → ℕ

-- what stands behind the end of a list
abbrev pub no_source : Source
no_source = record { name = []; cost = pos 0; max = 0; quality = [] }

abbrev pub no_pool : Pool
no_pool = record { name = []; max = 0; ratio = [] }

abbrev pub no_product : Product
no_product = record { name = []; price = pos 0; min = 0; max = 0; least = []; most = [] }

abbrev pub no_arc : Arc
no_arc = record { from = 0; to = 0; cost = pos 0; max = None }

-- ---- what pools remove

-- no pool removes anything
abbrev pub removes_nothing : List Pool → Bool
removes_nothing pools = list_all (λ p. list_all (λ r. r == 1000) p.ratio) pools

-- in how many parts a quality that enters a pool is counted
abbrev pub scale_of : List Pool → ℕ
scale_of pools = if removes_nothing pools then 1 else 1000

-- how many of these parts leave the pool
abbrev pub retained_of : List Pool → ℕ → ℕ → ℕ
retained_of pools l k = if removes_nothing pools then 1 else get_or (get_or pools l no_pool).ratio k 1000

unfoldable pub net_of : Network → Net
net_of n = record {
  sources = length n.sources;
  pools = length n.pools;
  products = length n.products;
  qualities = length n.qualities;
  feeds = length n.feeds;
  outs = length n.outs;
  directs = length n.directs;
  feed_source = λ e. (get_or n.feeds e no_arc).from;
  feed_pool = λ e. (get_or n.feeds e no_arc).to;
  out_pool = λ o. (get_or n.outs o no_arc).from;
  out_product = λ o. (get_or n.outs o no_arc).to;
  direct_source = λ e. (get_or n.directs e no_arc).from;
  direct_product = λ e. (get_or n.directs e no_arc).to;
  source_cost = λ i. (get_or n.sources i no_source).cost;
  source_max = λ i. (get_or n.sources i no_source).max;
  source_quality = λ i k. get_or (get_or n.sources i no_source).quality k (pos 0);
  pool_max = λ l. (get_or n.pools l no_pool).max;
  price = λ j. (get_or n.products j no_product).price;
  product_min = λ j. (get_or n.products j no_product).min;
  product_max = λ j. (get_or n.products j no_product).max;
  least = λ j k. get_or (get_or n.products j no_product).least k None;
  most = λ j k. get_or (get_or n.products j no_product).most k None;
  feed_cost = λ e. (get_or n.feeds e no_arc).cost;
  out_cost = λ o. (get_or n.outs o no_arc).cost;
  direct_cost = λ e. (get_or n.directs e no_arc).cost;
  feed_max = λ e. (get_or n.feeds e no_arc).max;
  out_max = λ o. (get_or n.outs o no_arc).max;
  direct_max = λ e. (get_or n.directs e no_arc).max;
  scale = scale_of n.pools;
  retained = λ l k. retained_of n.pools l k;
}

-- sources, pools, products, qualities, feeds, outs, directs
abbrev pub counts_of : Net → List ℕ
counts_of n = n.sources ∷ n.pools ∷ n.products ∷ n.qualities ∷ n.feeds ∷ n.outs ∷ n.directs ∷ []

-- ---- arcs

-- all arcs by one number: feeds, then outs, then directs
abbrev pub arcs : Net → ℕ
arcs n = n.feeds + n.outs + n.directs

abbrev pub by_arc : {X : Type 0} → Net → (feed out direct : ℕ → X) → ℕ → X
by_arc n feed out direct = piece n.feeds feed (piece n.outs out direct)

-- what a unit along an arc costs, and how much it can carry, if that is limited
abbrev pub arc_cost : Net → ℕ → ℤ
arc_cost n = by_arc n n.feed_cost n.out_cost n.direct_cost

abbrev pub arc_max : Net → ℕ → Option ℕ
arc_max n = by_arc n n.feed_max n.out_max n.direct_max

-- what a unit costs that a feed or a direct brings: at its source and along the arc
abbrev pub feed_delivered : Net → ℕ → ℤ
feed_delivered n e = n.source_cost (n.feed_source e) +ℤ n.feed_cost e

abbrev pub direct_delivered : Net → ℕ → ℤ
direct_delivered n e = n.source_cost (n.direct_source e) +ℤ n.direct_cost e

-- the lesser of an amount and a maximum: one that isn't there bounds nothing
abbrev pub capped : Option ℕ → ℕ → ℕ
capped None amount = amount
capped (Some most) amount = min most amount

-- ---- limits

-- at most this size
abbrev pub IsWithin : ℕ → ℤ → Type 0
IsWithin size z = (neg_ℤ (pos size) ≤ℤ z) × (z ≤ℤ pos size)

-- every pool has a feed
abbrev pub HasFeeds : Net → Type 0
HasFeeds n = (l : ℕ) → l < n.pools → (e : ℕ) × (e < n.feeds) × (n.feed_pool e ≡ l)

-- every pool has an out
abbrev pub HasOuts : Net → Type 0
HasOuts n = (l : ℕ) → l < n.pools → (o : ℕ) × (o < n.outs) × (n.out_pool o ≡ l)

-- The counts, numbers and ends of a network that is read stay within these limits. Every pool has a feed and an out, no
-- least quality is above the most, and no more of a quality leaves a pool than enters it.
pub record IsLimited (n : Net) : Type 0 where
  pub sources : n.sources ≤ 64
  pub pools : n.pools ≤ 16
  pub products : n.products ≤ 64
  pub qualities : n.qualities ≤ 8
  pub feeds : n.feeds ≤ 256
  pub outs : n.outs ≤ 256
  pub directs : n.directs ≤ 256
  pub arcs : n.feeds + n.outs + n.directs ≤ 256
  pub feed_sources : (e : ℕ) → e < n.feeds → n.feed_source e < n.sources
  pub feed_pools : (e : ℕ) → e < n.feeds → n.feed_pool e < n.pools
  pub out_pools : (o : ℕ) → o < n.outs → n.out_pool o < n.pools
  pub out_products : (o : ℕ) → o < n.outs → n.out_product o < n.products
  pub direct_sources : (e : ℕ) → e < n.directs → n.direct_source e < n.sources
  pub direct_products : (e : ℕ) → e < n.directs → n.direct_product e < n.products
  pub source_costs : (i : ℕ) → i < n.sources → IsWithin (10 ^ 12) (n.source_cost i)
  pub source_maxima : (i : ℕ) → i < n.sources → n.source_max i ≤ 10 ^ 14
  pub source_qualities : (i k : ℕ) → i < n.sources → k < n.qualities → IsWithin (10 ^ 11) (n.source_quality i k)
  pub pool_maxima : (l : ℕ) → l < n.pools → n.pool_max l ≤ 10 ^ 14
  pub prices : (j : ℕ) → j < n.products → IsWithin (10 ^ 12) (n.price j)
  pub product_minima : (j : ℕ) → j < n.products → n.product_min j ≤ n.product_max j
  pub product_maxima : (j : ℕ) → j < n.products → n.product_max j ≤ 10 ^ 12
  pub least_limits : (j k : ℕ) (u : ℤ) → j < n.products → k < n.qualities → n.least j k ≡ Some u → IsWithin (10 ^ 11) u
  pub most_limits : (j k : ℕ) (u : ℤ) → j < n.products → k < n.qualities → n.most j k ≡ Some u → IsWithin (10 ^ 11) u
  pub limits_in_order : (j k : ℕ) (a b : ℤ) → j < n.products → k < n.qualities → n.least j k ≡ Some a → n.most j k ≡ Some b → a ≤ℤ b
  pub fed : HasFeeds n
  pub drained : HasOuts n
  pub feed_costs : (e : ℕ) → e < n.feeds → IsWithin (10 ^ 12) (n.feed_cost e)
  pub out_costs : (o : ℕ) → o < n.outs → IsWithin (10 ^ 12) (n.out_cost o)
  pub direct_costs : (e : ℕ) → e < n.directs → IsWithin (10 ^ 12) (n.direct_cost e)
  pub feed_maxima : (e m : ℕ) → e < n.feeds → n.feed_max e ≡ Some m → m ≤ 10 ^ 14
  pub out_maxima : (o m : ℕ) → o < n.outs → n.out_max o ≡ Some m → m ≤ 10 ^ 14
  pub direct_maxima : (e m : ℕ) → e < n.directs → n.direct_max e ≡ Some m → m ≤ 10 ^ 14
  pub scale : (1 ≤ n.scale) × (n.scale ≤ 1000)
  pub shares_retained : (l k : ℕ) → l < n.pools → k < n.qualities → n.retained l k ≤ n.scale
