-- The rows of a made network as they are drawn: so many of each kind, from a state on.
use Rattle.std.specs.Prelude.{ℕ, ◌*◌, List, ◌++◌, map, None, pos}
use Rattle.std.specs.List.{flat_map}
use Rattle.integers.specs.Numbers.{tabulate}
use Rattle.pool_model.specs.Rows.{SourceRow, PoolRow, ProductRow, ArcRow}
use Rattle.blend_network.specs.Canonical.{canonical_source, canonical_pool, canonical_product}
use Rattle.drawn_numbers.specs.Draws.{state_after}
use Rattle.network_maker.specs.Generated.{below, named_source, named_pool, named_product, drawn_source, drawn_pool, drawn_product, fed_pools}

-- the rows of so many sources, pools or products, drawn from a state
abbrev pub source_rows : ℕ → ℕ → List SourceRow
source_rows s n = tabulate (λ i. canonical_source (drawn_source (state_after s (4 * i)) i)) n

abbrev pub pool_rows : ℕ → ℕ → List PoolRow
pool_rows s n = tabulate (λ l. canonical_pool (drawn_pool (state_after s l) l)) n

abbrev pub product_rows : ℕ → ℕ → List ProductRow
product_rows s n = tabulate (λ j. canonical_product (drawn_product (state_after s (4 * j)) j)) n

-- an arc by the names of its ends, which costs nothing and has no maximum
abbrev pub free_arc : List ℕ → List ℕ → ArcRow
free_arc from to = record { from = from; to = to; cost = pos 0; max = None }

-- the arcs
abbrev pub feed_rows : ℕ → List ArcRow
feed_rows i = map (λ l. free_arc (named_source i) (named_pool l)) (fed_pools i)

abbrev pub out_rows : ℕ → List ArcRow
out_rows l = map (λ j. free_arc (named_pool l) (named_product j)) (below 6)

abbrev pub direct_row : ℕ → ArcRow
direct_row i = free_arc (named_source i) (named_product i)

abbrev pub arc_rows : List ArcRow
arc_rows = flat_map feed_rows (below 10) ++ flat_map out_rows (below 3) ++ map direct_row (below 6)
