-- Which node a name names, and which arcs join which nodes.
use Rattle.std.specs.Prelude.{ℕ, ◌-◌, nat_lt, List, length, Option, None, Some, option_map, option_and_then, is_some, Bool, ◌||◌, ◌&&◌, if◌then◌else◌}
use Rattle.pool_model.specs.Rows.{ArcRow, Rows}
use Rattle.pool_model.specs.Naming.{number_of, arc_of}
use Rattle.pool_model.specs.Network.{Arc}
use Rattle.network_parts.specs.Faults.{node_names}
use Rattle.network_parts.specs.declared.arcs.Node.{Node}
use Rattle.network_parts.specs.declared.arcs.Node.TheVariants.{Source, Pool, Product}
use Rattle.network_parts.specs.declared.arcs.Ends.{Ends}

-- the node at a place among the sources, then the pools, then the products
abbrev pub node_by_place : ℕ → ℕ → ℕ → Node
node_by_place sources pools n =
    if nat_lt n sources then Source n else (if nat_lt (n - sources) pools then Pool (n - sources) else Product (n - sources - pools))

-- the node that has a name
abbrev pub node_of : Rows → List ℕ → Option Node
node_of r name = option_map (node_by_place (length r.sources) (length r.pools)) (number_of name (node_names r))

abbrev pub source_number : Option Node → Option ℕ
source_number None = None
source_number (Some (Source i)) = Some i
source_number (Some (Pool l)) = None
source_number (Some (Product j)) = None

abbrev pub pool_number : Option Node → Option ℕ
pool_number None = None
pool_number (Some (Source i)) = None
pool_number (Some (Pool l)) = Some l
pool_number (Some (Product j)) = None

abbrev pub product_number : Option Node → Option ℕ
product_number None = None
product_number (Some (Source i)) = None
product_number (Some (Pool l)) = None
product_number (Some (Product j)) = Some j

-- the nodes that an arc's two ends name
abbrev pub nodes_of : Rows → ArcRow → Option Node × Option Node
nodes_of r a = (node_of r a.from, node_of r a.to)

abbrev pub known : Ends → Option Node × Option Node
known e = (Some e.from, Some e.to)

-- the ends of an arc, if both are there
abbrev pub both_ends : Option Node → Option Node → Option Ends
both_ends None to = None
both_ends (Some x) None = None
both_ends (Some x) (Some y) = Some (record { from = x; to = y })

-- the row's arc by two numbers, if both are there
abbrev pub join : ArcRow → Option ℕ → Option ℕ → Option Arc
join r from to = option_and_then (λ i. option_map (λ j. arc_of r i j) to) from

-- the row's arc as a feed, an out or a direct between two nodes, if it is one
abbrev pub feed_between : ArcRow → Option Node × Option Node → Option Arc
feed_between r e = join r (source_number e.0) (pool_number e.1)

abbrev pub out_between : ArcRow → Option Node × Option Node → Option Arc
out_between r e = join r (pool_number e.0) (product_number e.1)

abbrev pub direct_between : ArcRow → Option Node × Option Node → Option Arc
direct_between r e = join r (source_number e.0) (product_number e.1)

-- the arc starts at a product or ends at a source
abbrev pub is_backward : Ends → Bool
is_backward e = is_some (product_number (Some e.from)) || is_some (source_number (Some e.to))

abbrev pub is_between_pools : Ends → Bool
is_between_pools e = is_some (pool_number (Some e.from)) && is_some (pool_number (Some e.to))
