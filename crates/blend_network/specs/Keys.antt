-- What arcs and paths are looked up by: for each key, how many they are, how many nodes there are, and the node of each.
-- The node of a path is its feed, its out or its product.
use Rattle.std.specs.Prelude.{◌≡◌, ℕ, List, [], ◌∷◌, length, map}
use Rattle.number_groups.specs.Groups.{groups_of}
use Rattle.pool_model.specs.Network.{Net}
use Rattle.pool_model.specs.Paths.{paths_of, path_at}
use Rattle.blend_network.specs.declared.keys.Key.{Key}
use Rattle.blend_network.specs.declared.keys.Key.TheVariants.{FeedsFrom, FeedsInto, OutsFrom, OutsInto, DirectsFrom, DirectsInto, PathsFrom, PathsAlong, PathsInto}

-- the node of an arc or a path
abbrev pub key_of : Net → Key → ℕ → ℕ
key_of n FeedsFrom i = n.feed_source i
key_of n FeedsInto i = n.feed_pool i
key_of n OutsFrom i = n.out_pool i
key_of n OutsInto i = n.out_product i
key_of n DirectsFrom i = n.direct_source i
key_of n DirectsInto i = n.direct_product i
key_of n PathsFrom i = (path_at n i).feed
key_of n PathsAlong i = (path_at n i).out
key_of n PathsInto i = n.out_product (path_at n i).out

-- how many nodes there are
abbrev pub nodes_of : Net → Key → ℕ
nodes_of n FeedsFrom = n.sources
nodes_of n FeedsInto = n.pools
nodes_of n OutsFrom = n.pools
nodes_of n OutsInto = n.products
nodes_of n DirectsFrom = n.sources
nodes_of n DirectsInto = n.products
nodes_of n PathsFrom = n.feeds
nodes_of n PathsAlong = n.outs
nodes_of n PathsInto = n.products

-- how many arcs or paths there are
abbrev pub count_of : Net → Key → ℕ
count_of n FeedsFrom = n.feeds
count_of n FeedsInto = n.feeds
count_of n OutsFrom = n.outs
count_of n OutsInto = n.outs
count_of n DirectsFrom = n.directs
count_of n DirectsInto = n.directs
count_of n PathsFrom = length (paths_of n)
count_of n PathsAlong = length (paths_of n)
count_of n PathsInto = length (paths_of n)

-- the numbers of a key, by node
abbrev pub groups_by : Net → Key → List (List ℕ)
groups_by n key = groups_of (key_of n key) (count_of n key) (nodes_of n key)

-- all keys, in the order in which their groups are kept
abbrev pub keys : List Key
keys = FeedsFrom ∷ FeedsInto ∷ OutsFrom ∷ OutsInto ∷ DirectsFrom ∷ DirectsInto ∷ PathsFrom ∷ PathsAlong ∷ PathsInto ∷ []

-- the place of a key in that order
abbrev pub key_number : Key → ℕ
key_number FeedsFrom = 0
key_number FeedsInto = 1
key_number OutsFrom = 2
key_number OutsInto = 3
key_number DirectsFrom = 4
key_number DirectsInto = 5
key_number PathsFrom = 6
key_number PathsAlong = 7
key_number PathsInto = 8

-- the groups of all keys
abbrev pub IsIndexOf : Net → List (List (List ℕ)) → Type 0
IsIndexOf n index = index ≡ map (groups_by n) keys
