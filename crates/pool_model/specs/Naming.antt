-- The network that the rows of a file stand for: names are looked up, and absent maxima are filled in.
use Rattle.std.specs.Prelude.{ℕ, suc, List, [], ◌∷◌, map, Option, Some, None, option_map, option_and_then, unwrap_or, ℤ, unsigned_abs, if◌then◌else◌, bytes_eq}
use Rattle.std.specs.List.{filter_map}
use Rattle.integers.specs.Sums.{int_sum_by}
use Rattle.pool_model.specs.Rows.{SourceRow, PoolRow, ProductRow, ArcRow, Rows}
use Rattle.pool_model.specs.Network.{Source, Pool, Product, Arc, Network}

-- the number of the first of these names that is this one
abbrev pub number_of : List ℕ → List (List ℕ) → Option ℕ
number_of name [] = None
number_of name (n ∷ ns) = if bytes_eq n name then Some 0 else option_map suc (number_of name ns)

abbrev pub source_names : Rows → List (List ℕ)
source_names r = map (λ s. s.name) r.sources

abbrev pub pool_names : Rows → List (List ℕ)
pool_names r = map (λ p. p.name) r.pools

abbrev pub product_names : Rows → List (List ℕ)
product_names r = map (λ p. p.name) r.products

-- the row's arc by the numbers of its ends
abbrev pub arc_of : ArcRow → ℕ → ℕ → Arc
arc_of r from to = record { from = from; to = to; cost = r.cost; max = option_map unsigned_abs r.max }

-- the arc from one of these names to one of those, if it is one
abbrev pub arc_between : List (List ℕ) → List (List ℕ) → ArcRow → Option Arc
arc_between froms tos r = option_and_then (λ from. option_map (λ to. arc_of r from to) (number_of r.to tos)) (number_of r.from froms)

-- those of the file's arcs, in file order
abbrev pub arcs_between : List (List ℕ) → List (List ℕ) → Rows → List Arc
arcs_between froms tos r = filter_map (arc_between froms tos) r.arcs

-- An absent maximum of a source or a pool stands for the sum of the product maxima, which no plan can pass.
abbrev pub stand_in : Rows → ℤ
stand_in r = int_sum_by (λ p. p.max) r.products

abbrev pub source_of : ℤ → SourceRow → Source
source_of stand r = record { name = r.name; cost = r.cost; max = unsigned_abs (unwrap_or r.max stand); quality = r.quality }

abbrev pub pool_of : ℤ → PoolRow → Pool
pool_of stand r = record { name = r.name; max = unsigned_abs (unwrap_or r.max stand); ratio = map unsigned_abs r.ratio }

abbrev pub product_of : ProductRow → Product
product_of r = record { name = r.name; price = r.price; min = unsigned_abs r.min; max = unsigned_abs r.max; least = r.least; most = r.most }

abbrev pub network_of : Rows → Network
network_of r = record {
  qualities = r.qualities;
  sources = map (source_of (stand_in r)) r.sources;
  pools = map (pool_of (stand_in r)) r.pools;
  products = map product_of r.products;
  feeds = arcs_between (source_names r) (pool_names r) r;
  outs = arcs_between (pool_names r) (product_names r) r;
  directs = arcs_between (source_names r) (product_names r) r;
}
