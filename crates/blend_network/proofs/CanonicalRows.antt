-- The canonical rows of a network are faultless, and are rows of the same network.
use Rattle.std.proofs.Common.{◌≡◌, ℕ, List, [], ◌∷◌, ◌++◌, map, get_or, take, ℤ, pos, unsigned_abs, refl, ap, ◌∙◌}
use Rattle.std.specs.List.{filter_map}
use Rattle.std.proofs.lemmas.List.Elements.{Contains-append_left, Contains-append_right}
use Rattle.std.proofs.lemmas.Simd.{map-map}
use Rattle.pool_model.specs.Rows.{Rows}
use Rattle.pool_model.specs.Naming.{source_names, pool_names, product_names, arc_between, stand_in, source_of, pool_of, product_of, network_of}
use Rattle.pool_model.specs.Network as model
use Rattle.pool_model.specs.Network.{Network, net_of, IsLimited, IsWithin, no_source, no_pool, no_product, no_arc}
use Rattle.network_parts.specs.declared.fault.Kind.TheVariants.{Source, Pool, Product}
use Rattle.blend_network.specs.Kinds.{names_of}
use Rattle.network_parts.specs.Faults.{IsFaultless}
use Rattle.blend_network.specs.Canonical.{canonical_source, canonical_pool, canonical_product, canonical_arcs, canonical_rows}
use Rattle.blend_network.proofs.CanonicalNames.{IsFresh, disjoint}
use Rattle.blend_network.proofs.CanonicalArcs.{AreJoined, all_named, all_between, feeds_again, outs_again, directs_again}

map_back : {X Y : Type 0} (f : X → Y) (g : Y → X) → ((y : Y) → f (g y) ≡ y) → (ys : List Y) → map f (map g ys) ≡ ys
map_back f g h [] = refl
map_back f g h (y ∷ ys) = rw (h y, map_back f g h ys) refl

-- a pool that is written out and read again
pool_back : (stand : ℤ) (p : model.Pool) → pool_of stand (canonical_pool p) ≡ p
pool_back stand p = λ i. record { name = p.name; max = p.max; ratio = map_back unsigned_abs pos (λ r. refl) p.ratio i }

own_fresh : (before names : List (List ℕ)) → IsFresh before names → IsFresh [] names
own_fresh before names h n bad = h n (bad.0, Contains-append_right before (take n names) (get_or names n []) bad.1)

-- ---- the same network

module _ (r : Rows) (ok : IsFaultless r) where
  source_kept : names_of (network_of r) Source ≡ source_names r
  source_kept = map-map (λ s. s.name) (source_of (stand_in r)) r.sources

  pool_kept : names_of (network_of r) Pool ≡ pool_names r
  pool_kept = map-map (λ p. p.name) (pool_of (stand_in r)) r.pools

  product_kept : names_of (network_of r) Product ≡ product_names r
  product_kept = map-map (λ p. p.name) product_of r.products

  pub sources_same : source_names (canonical_rows (network_of r)) ≡ source_names r
  sources_same = map-map (λ s. s.name) canonical_source (network_of r).sources ∙ source_kept

  pub pools_same : pool_names (canonical_rows (network_of r)) ≡ pool_names r
  pools_same = map-map (λ p. p.name) canonical_pool (network_of r).pools ∙ pool_kept

  pub products_same : product_names (canonical_rows (network_of r)) ≡ product_names r
  products_same = map-map (λ p. p.name) canonical_product (network_of r).products ∙ product_kept

  pub joined : AreJoined (source_names r) (pool_names r) (product_names r) (network_of r).feeds (network_of r).outs (network_of r).directs
  joined = record {
    sources = λ n. ok.distinct Source n;
    pools = own_fresh (source_names r) (pool_names r) (λ n. ok.distinct Pool n);
    products = own_fresh (source_names r ++ pool_names r) (product_names r) (λ n. ok.distinct Product n);
    source_pool = disjoint (source_names r) (pool_names r) (λ n. ok.distinct Pool n);
    source_product = λ name s d. disjoint (source_names r ++ pool_names r) (product_names r) (λ n. ok.distinct Product n) name (Contains-append_left (source_names r) (pool_names r) name s) d;
    pool_product = λ name p d. disjoint (source_names r ++ pool_names r) (product_names r) (λ n. ok.distinct Product n) name (Contains-append_right (source_names r) (pool_names r) name p) d;
    feeds_are = all_between (source_names r) (pool_names r) r;
    outs_are = all_between (pool_names r) (product_names r) r;
    directs_are = all_between (source_names r) (product_names r) r;
  }

  pub arcs_are : canonical_arcs (network_of r) ≡ all_named (source_names r) (pool_names r) (product_names r) (network_of r).feeds (network_of r).outs (network_of r).directs
  arcs_are =
      let n = network_of r in
      ap (λ s. all_named s (names_of n Pool) (names_of n Product) n.feeds n.outs n.directs) source_kept
      ∙ ap (λ p. all_named (source_names r) p (names_of n Product) n.feeds n.outs n.directs) pool_kept
      ∙ ap (λ d. all_named (source_names r) (pool_names r) d n.feeds n.outs n.directs) product_kept

  kind_by : (froms froms' tos tos' : List (List ℕ)) (arcs : List model.Arc) → froms' ≡ froms → tos' ≡ tos
      → filter_map (arc_between froms tos) (all_named (source_names r) (pool_names r) (product_names r) (network_of r).feeds (network_of r).outs (network_of r).directs) ≡ arcs
      → filter_map (arc_between froms' tos') (canonical_arcs (network_of r)) ≡ arcs
  kind_by froms froms' tos tos' arcs f t h =
      ap (λ x. filter_map (arc_between x tos') (canonical_arcs (network_of r))) f
      ∙ ap (λ x. filter_map (arc_between froms x) (canonical_arcs (network_of r))) t
      ∙ ap (filter_map (arc_between froms tos)) arcs_are
      ∙ h

  pub network_again : network_of (canonical_rows (network_of r)) ≡ network_of r
  network_again =
      let n = network_of r in
      let c = canonical_rows (network_of r) in
      let s = source_names r in
      let p = pool_names r in
      let d = product_names r in
      let sources = map_back (source_of (stand_in c)) canonical_source (λ x. refl) n.sources in
      let pools = map_back (pool_of (stand_in c)) canonical_pool (pool_back (stand_in c)) n.pools in
      let products = map_back product_of canonical_product (λ x. refl) n.products in
      let feeds = kind_by s (source_names c) p (pool_names c) n.feeds sources_same pools_same (feeds_again s p d n.feeds n.outs n.directs joined) in
      let outs = kind_by p (pool_names c) d (product_names c) n.outs pools_same products_same (outs_again s p d n.feeds n.outs n.directs joined) in
      let directs = kind_by s (source_names c) d (product_names c) n.directs sources_same products_same (directs_again s p d n.feeds n.outs n.directs joined) in
      λ i. record { qualities = r.qualities; sources = sources i; pools = pools i; products = products i; feeds = feeds i; outs = outs i; directs = directs i }
