-- How long the names of a faultless file are, and how large the numbers of its canonical rows.
use Rattle.std.proofs.Common.{ℕ, ◌<◌, ◌≤◌, List, [], ◌++◌, length, map, get_or, All, inl, inr, arith}
use Rattle.std.proofs.lemmas.List.Elements.{All-append, All-contains, All-from_get_or}
use Rattle.pool_model.specs.Rows.{ArcRow, Rows}
use Rattle.pool_model.specs.Naming.{source_names, pool_names, product_names}
use Rattle.pool_model.specs.Network.{Network, net_of, IsLimited, no_source, no_pool, no_product}
use Rattle.network_parts.specs.declared.fault.Kind.{Kind}
use Rattle.network_parts.specs.declared.fault.Kind.TheVariants.{Source, Pool, Product, Quality}
use Rattle.network_parts.specs.Faults.{row_names, node_names, no_arc_row, ends_of, IsFaultless, IsSourceInRange, IsPoolInRange, IsProductInRange, IsArcInRange}
use Rattle.blend_network.specs.Made.{IsMade}
use Rattle.blend_network.specs.Canonical.{canonical_source, canonical_pool, canonical_product, canonical_arcs, canonical_rows}
use Rattle.blend_network.proofs.CanonicalFaults.{held, source_in, pool_in, product_in, arcs_in, canonical_rectangular, canonical_faultless}

-- ---- names of a faultless file

-- a name as long as the rule allows
abbrev pub IsShort : List ℕ → Type 0
IsShort name = length name ≤ 40

pub short_names : (r : Rows) → IsFaultless r → (kind : Kind) → All IsShort (row_names r kind)
short_names r ok kind = All-from_get_or IsShort (row_names r kind) [] (λ i h.
    let k : 40 < length (get_or (row_names r kind) i []) → ⊥ = λ lt. ok.names kind i (h, λ is. omega (arith, is.most, lt)) in
    omega arith)

short_nodes : (r : Rows) → IsFaultless r → All IsShort (node_names r)
short_nodes r ok =
    All-append IsShort (source_names r ++ pool_names r) (product_names r)
    (All-append IsShort (source_names r) (pool_names r) (short_names r ok Source) (short_names r ok Pool)) (short_names r ok Product)

-- both ends of an arc have short names
pub record AreShortEnds (a : ArcRow) : Type 0 where
  pub from : IsShort a.from
  pub to : IsShort a.to

pub short_ends : (r : Rows) → IsFaultless r → All AreShortEnds r.arcs
short_ends r ok = All-from_get_or AreShortEnds r.arcs no_arc_row (λ i h.
    let e = ends_of r i in
    let from : 40 < length (ends_of r i).0 → ⊥ = λ lt. ok.known i (h, inl (λ there. omega (arith, All-contains IsShort (node_names r) e.0 (short_nodes r ok) there, lt))) in
    let to : 40 < length (ends_of r i).1 → ⊥ = λ lt. ok.known i (h, inr (λ there. omega (arith, All-contains IsShort (node_names r) e.1 (short_nodes r ok) there, lt))) in
    record { from = omega arith; to = omega arith })

-- ---- rows of a network

-- what holds of each mapped row holds of each row
all_back : {X Y : Type 0} (P : Y → Type 0) (f : X → Y) (xs : List X) → All P (map f xs) → All (λ x. P (f x)) xs
all_back P f xs all k d h = held P f xs d all k h

module _ (n : Network) (made : IsMade n) (lim : IsLimited (net_of n)) where
  pub qualities_short : All IsShort n.qualities
  qualities_short = short_names (canonical_rows n) (canonical_faultless n made lim) Quality

  pub sources_short : All (λ s. IsShort s.name) n.sources
  sources_short =
      all_back (λ s. IsShort s.name) canonical_source n.sources
      (all_back IsShort (λ s. s.name) (map canonical_source n.sources) (short_names (canonical_rows n) (canonical_faultless n made lim) Source))

  pub pools_short : All (λ p. IsShort p.name) n.pools
  pools_short =
      all_back (λ p. IsShort p.name) canonical_pool n.pools
      (all_back IsShort (λ p. p.name) (map canonical_pool n.pools) (short_names (canonical_rows n) (canonical_faultless n made lim) Pool))

  pub products_short : All (λ p. IsShort p.name) n.products
  products_short =
      all_back (λ p. IsShort p.name) canonical_product n.products
      (all_back IsShort (λ p. p.name) (map canonical_product n.products) (short_names (canonical_rows n) (canonical_faultless n made lim) Product))

  pub arcs_short : All AreShortEnds (canonical_arcs n)
  arcs_short = short_ends (canonical_rows n) (canonical_faultless n made lim)

  pub sources_in : All (λ s. IsSourceInRange (canonical_source s)) n.sources
  sources_in = All-from_get_or (λ s. IsSourceInRange (canonical_source s)) n.sources no_source (source_in n lim (canonical_rectangular n made))

  pub pools_in : All (λ p. IsPoolInRange (canonical_pool p)) n.pools
  pools_in = All-from_get_or (λ p. IsPoolInRange (canonical_pool p)) n.pools no_pool (pool_in n lim (canonical_rectangular n made))

  pub products_in : All (λ p. IsProductInRange (canonical_product p)) n.products
  products_in = All-from_get_or (λ p. IsProductInRange (canonical_product p)) n.products no_product (product_in n lim (canonical_rectangular n made))

  pub carriage_in : All IsArcInRange (canonical_arcs n)
  carriage_in = arcs_in n lim (canonical_rectangular n made)
