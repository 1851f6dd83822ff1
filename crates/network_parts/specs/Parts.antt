-- The rows of a network, without where they lie in memory.
use Rattle.std.specs.Prelude.{map, string_bytes}
use Rattle.pool_model.specs.Rows as rows
use Rattle.network_parts.specs.declared.parts.SourceRow.{SourceRow}
use Rattle.network_parts.specs.declared.parts.PoolRow.{PoolRow}
use Rattle.network_parts.specs.declared.parts.ProductRow.{ProductRow}
use Rattle.network_parts.specs.declared.parts.ArcRow.{ArcRow}
use Rattle.network_parts.specs.declared.parts.Parts.{Parts}

abbrev pub source_row : SourceRow → rows.SourceRow
source_row r = record { name = string_bytes r.name; cost = r.cost; max = r.max; quality = r.quality.items }

abbrev pub pool_row : PoolRow → rows.PoolRow
pool_row r = record { name = string_bytes r.name; max = r.max; ratio = r.ratio.items }

abbrev pub product_row : ProductRow → rows.ProductRow
product_row r = record { name = string_bytes r.name; price = r.price; min = r.min; max = r.max; least = r.least.items; most = r.most.items }

abbrev pub arc_row : ArcRow → rows.ArcRow
arc_row r = record { from = string_bytes r.from; to = string_bytes r.to; cost = r.cost; max = r.max }

abbrev pub rows_of : Parts → rows.Rows
rows_of p = record {
  qualities = map string_bytes p.qualities.items;
  sources = map source_row p.sources.items;
  pools = map pool_row p.pools.items;
  products = map product_row p.products.items;
  arcs = map arc_row p.arcs.items;
}
