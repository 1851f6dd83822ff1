-- What the checks of a file's rows find out, as the assembly of the network takes it.
use Rattle.std.specs.Prelude.{◌≡◌, ℕ, ◌<◌, ◌≤◌, List, [], ◌++◌, length, map, take, get_or, Contains, Bool, IsTrue}
use Rattle.pool_model.specs.Rows.{Rows}
use Rattle.pool_model.specs.Naming.{source_names, pool_names, product_names, network_of}
use Rattle.pool_model.specs.Network.{net_of}
use Rattle.pool_model.specs.Paths.{paths_of}
use Rattle.network_parts.specs.Faults.{IsRepeatAt, IsSourceInRange, IsPoolInRange, IsProductInRange, IsOrderly, IsArcInRange, no_source_row, no_pool_row, no_product_row, no_arc_row, IsFaultless}
use Rattle.network_parts.specs.declared.arcs.Ends.{Ends}
use Rattle.network_parts.specs.declared.arcs.Arcs.{Arcs}
use Rattle.network_parts.specs.declared.arcs.Node.TheVariants.{Source}
use Rattle.network_parts.specs.Nodes.{known, nodes_of}
use Rattle.network_parts.specs.Views.{shown_arc, shown_path}

-- no list is longer than it may be
pub record IsCounted (r : Rows) : Type 0 where
  pub sources : length r.sources ≤ 64
  pub pools : length r.pools ≤ 16
  pub products : length r.products ≤ 64
  pub qualities : length r.qualities ≤ 8
  pub arcs : length r.arcs ≤ 256

-- no two nodes have one name
pub record IsDistinct (r : Rows) : Type 0 where
  pub sources : (n : ℕ) → ¬ IsRepeatAt [] (source_names r) n
  pub pools : (n : ℕ) → ¬ IsRepeatAt (source_names r) (pool_names r) n
  pub products : (n : ℕ) → ¬ IsRepeatAt (source_names r ++ pool_names r) (product_names r) n

-- each number is in its range, and limits are in order
pub record IsInRange (r : Rows) : Type 0 where
  pub sources : (n : ℕ) → n < length r.sources → IsSourceInRange (get_or r.sources n no_source_row)
  pub pools : (n : ℕ) → n < length r.pools → IsPoolInRange (get_or r.pools n no_pool_row)
  pub products : (n : ℕ) → n < length r.products → IsProductInRange (get_or r.products n no_product_row)
  pub arcs : (n : ℕ) → n < length r.arcs → IsArcInRange (get_or r.arcs n no_arc_row)
  pub orderly : (n : ℕ) → n < length r.products → IsOrderly (get_or r.products n no_product_row)

-- these are the nodes at the ends of the arcs
abbrev pub AreEndsOf : Rows → List Ends → Type 0
AreEndsOf r ends = map known ends ≡ map (nodes_of r) r.arcs

-- what stands behind the end of a list of ends
abbrev pub no_ends : Ends
no_ends = record { from = Source 0; to = Source 0 }

-- the same two ends stood before
abbrev pub IsRepeatedEnds : List Ends → ℕ → Type 0
IsRepeatedEnds ends n = (n < length ends) × Contains (take n ends) (get_or ends n no_ends)

-- the ends at a place pass this test
abbrev pub IsMarked : (Ends → Bool) → List Ends → ℕ → Type 0
IsMarked test ends n = (n < length ends) × IsTrue (test (get_or ends n no_ends))

-- these are the arcs of the rows by kind, and the paths
pub record AreArcsOf (r : Rows) (arcs : Arcs) : Type 0 where
  pub feeds : map shown_arc arcs.feeds.items ≡ (network_of r).feeds
  pub outs : map shown_arc arcs.outs.items ≡ (network_of r).outs
  pub directs : map shown_arc arcs.directs.items ≡ (network_of r).directs
  pub paths : map shown_path arcs.paths.items ≡ paths_of (net_of (network_of r))

-- rows with no reason to refuse them, and their arcs: what the assembly of a network takes
pub record IsReady (r : Rows) (arcs : Arcs) : Type 0 where
  pub faultless : IsFaultless r
  pub ranges : IsInRange r
  pub found : AreArcsOf r arcs
