-- The rows of a network's canonical file.
use Rattle.std.specs.Prelude.{ℕ, List, [], ◌++◌, map, get_or, Some, option_map, pos}
use Rattle.pool_model.specs.Rows.{SourceRow, PoolRow, ProductRow, ArcRow, Rows}
use Rattle.pool_model.specs.Network.{Source, Pool, Product, Arc, Network}
use Rattle.network_parts.specs.declared.fault.Kind.TheVariants as kind
use Rattle.blend_network.specs.Kinds.{names_of}

-- a source, with its maximum written out
abbrev pub canonical_source : Source → SourceRow
canonical_source s = record { name = s.name; cost = s.cost; max = Some (pos s.max); quality = s.quality }

-- a pool, with its maximum and all ratios written out
abbrev pub canonical_pool : Pool → PoolRow
canonical_pool p = record { name = p.name; max = Some (pos p.max); ratio = map pos p.ratio }

-- a product as it is
abbrev pub canonical_product : Product → ProductRow
canonical_product p = record { name = p.name; price = p.price; min = pos p.min; max = pos p.max; least = p.least; most = p.most }

-- an arc by the names of its ends
abbrev pub canonical_arc : List (List ℕ) → List (List ℕ) → Arc → ArcRow
canonical_arc froms tos a = record { from = get_or froms a.from []; to = get_or tos a.to []; cost = a.cost; max = option_map pos a.max }

-- the arcs: feeds, then outs, then directs
abbrev pub canonical_arcs : Network → List ArcRow
canonical_arcs n =
    map (canonical_arc (names_of n kind.Source) (names_of n kind.Pool)) n.feeds
    ++ map (canonical_arc (names_of n kind.Pool) (names_of n kind.Product)) n.outs
    ++ map (canonical_arc (names_of n kind.Source) (names_of n kind.Product)) n.directs

-- each list in its order
abbrev pub canonical_rows : Network → Rows
canonical_rows n = record {
  qualities = n.qualities;
  sources = map canonical_source n.sources;
  pools = map canonical_pool n.pools;
  products = map canonical_product n.products;
  arcs = canonical_arcs n;
}
