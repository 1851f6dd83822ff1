-- What is read has one place for each quality in every list of qualities.
use Rattle.std.proofs.Common.{◌≡◌, ℕ, pos, suc, List, [], ◌∷◌, length, None, Result, Ok, Err, refl, ap, subst, codes}
use Rattle.std.specs.Prelude.{IfOk}
use Rattle.std.specs.List.{AllByRecursion}
use Rattle.std.proofs.lemmas.List.Elements.{All-from_recursion}
use Rattle.serde_json.specs.Data.{Data}
use Rattle.serde_json.specs.Find.{get}
use Rattle.pool_model.specs.Rows.{SourceRow, PoolRow, ProductRow, Rows, IsRectangular}
use Rattle.network_parts.specs.Parts.{rows_of}
use Rattle.network_parts.specs.declared.parts.Parts.{Parts}
use Rattle.json_walk.specs.declared.fault.Section.TheVariants.{Qualities, Sources, Pools, Products, Arcs}
use Rattle.json_walk.specs.declared.fault.Place.{Place}
use Rattle.json_walk.specs.declared.fault.ReadNet.{ReadNet}
use Rattle.json_walk.specs.declared.version.Version.{Version}
use Rattle.json_walk.specs.Walk.{Gives, top, object, needs, allows, ignored, list, text, quantity, version}
use Rattle.json_walk.proofs.Given.{bind_if, bind_any, there_if, needs_if, length-each, list_if, list_there_if}
use Rattle.network_json.specs.Format.{quality, limit, limits, no_limits, source, ratios, untreated, pool_options, pool, product, arc, lists, network}

-- ---- one place for each name

quality_wide : (names : List (List ℕ)) (at : Place) (d : Data) → IfOk (quality names at d) (λ qs. length qs ≡ length names)
unfolding quality
quality_wide names at d = bind_any _ (object at names [] d) _ (λ u. length-each _ 0 names)

limits_wide : (names : List (List ℕ)) (at : Place) (d : Data) → IfOk (limits names at d) (λ us. length us ≡ length names)
unfolding limits
limits_wide names at d = bind_any _ (object at [] names d) _ (λ u. length-each _ 0 names)

length-no_limits : (names : List (List ℕ)) → length (no_limits names) ≡ length names
unfolding no_limits
length-no_limits [] = refl
length-no_limits (n ∷ ns) = ap suc (length-no_limits ns)

source_wide : (names : List (List ℕ)) (at : Place) (d : Data) → IfOk (source names at d) (λ s. length s.quality ≡ length names)
unfolding source
source_wide names at d =
    bind_any _ (object at (codes "name" ∷ codes "cost" ∷ codes "quality" ∷ []) (codes "max" ∷ []) d) _ (λ members.
    bind_any _ (needs at (codes "name") (text at) d) _ (λ name.
    bind_any _ (needs at (codes "cost") (quantity at) d) _ (λ cost.
    bind_any _ (allows (codes "max") None (limit at) d) _ (λ max.
    bind_if (λ qs. length qs ≡ length names) _ (needs at (codes "quality") (quality names at) d) _ (needs_if _ at (codes "quality") (quality names at) (quality_wide names at) d) (λ qs h. h)))))

ratios_wide : (names : List (List ℕ)) (at : Place) (d : Data) → IfOk (ratios names at d) (λ rs. length rs ≡ length names)
unfolding ratios
ratios_wide names at d = bind_any _ (object at [] names d) _ (λ u. length-each _ 0 names)

length-untreated : (names : List (List ℕ)) → length (untreated names) ≡ length names
unfolding untreated
length-untreated [] = refl
length-untreated (n ∷ ns) = ap suc (length-untreated ns)

pool_wide : (version : Version) (names : List (List ℕ)) (at : Place) (d : Data) → IfOk (pool version names at d) (λ p. length p.ratio ≡ length names)
unfolding pool
pool_wide version names at d =
    bind_any _ (object at (codes "name" ∷ []) (pool_options version) d) _ (λ members.
    bind_any _ (needs at (codes "name") (text at) d) _ (λ name.
    bind_any _ (allows (codes "max") None (limit at) d) _ (λ max.
    bind_if (λ rs. length rs ≡ length names) _ (allows (codes "ratio") (untreated names) (ratios names at) d) _
    (there_if (λ rs. length rs ≡ length names) (ratios names at) (untreated names) (get (codes "ratio") d) (length-untreated names) (ratios_wide names at)) (λ rs h. h))))

product_wide : (names : List (List ℕ)) (at : Place) (d : Data) → IfOk (product names at d) (λ p. (length p.least ≡ length names) × (length p.most ≡ length names))
unfolding product
product_wide names at d =
    let wide = λ (k : List ℕ). there_if (λ us. length us ≡ length names) (limits names at) (no_limits names) (get k d) (length-no_limits names) (limits_wide names at) in
    bind_any _ (object at (codes "name" ∷ codes "price" ∷ codes "max" ∷ []) (codes "min" ∷ codes "least" ∷ codes "most" ∷ []) d) _ (λ members.
    bind_any _ (needs at (codes "name") (text at) d) _ (λ name.
    bind_any _ (needs at (codes "price") (quantity at) d) _ (λ price.
    bind_any _ (allows (codes "min") (pos 0) (quantity at) d) _ (λ min.
    bind_any _ (needs at (codes "max") (quantity at) d) _ (λ max.
    bind_if (λ us. length us ≡ length names) _ (allows (codes "least") (no_limits names) (limits names at) d) _ (wide (codes "least")) (λ least a.
    bind_if (λ us. length us ≡ length names) _ (allows (codes "most") (no_limits names) (limits names at) d) _ (wide (codes "most")) (λ most b. (a, b))))))))

-- ---- the file

lists_wide : (version : Version) (names : List (List ℕ)) (d : Data) → IfOk (lists version names d) IsRectangular
unfolding lists
lists_wide version names d =
    let narrow = λ (s : SourceRow). length s.quality ≡ length names in
    let treating = λ (p : PoolRow). length p.ratio ≡ length names in
    let limited = λ (p : ProductRow). (length p.least ≡ length names) × (length p.most ≡ length names) in
    bind_if (AllByRecursion narrow) _ (needs top (codes "sources") (list Sources (source names)) d) _ (list_if narrow (codes "sources") Sources (source names) (source_wide names) d) (λ sources wide.
    bind_if (AllByRecursion treating) _ (allows (codes "pools") [] (list Pools (pool version names)) d) _
    (list_there_if treating (codes "pools") Pools (pool version names) (pool_wide version names) d) (λ pools ratios.
    bind_if (AllByRecursion limited) _ (needs top (codes "products") (list Products (product names)) d) _
    (list_if limited (codes "products") Products (product names) (product_wide names) d) (λ products limits.
    bind_any _ (needs top (codes "arcs") (list Arcs (arc version)) d) _ (λ arcs. record {
      sources = All-from_recursion narrow sources wide;
      least = All-from_recursion _ products (leasts products limits);
      most = All-from_recursion _ products (mosts products limits);
      ratio = All-from_recursion treating pools ratios;
    }))))
  where
    leasts : (ps : List ProductRow) → AllByRecursion (λ p. (length p.least ≡ length names) × (length p.most ≡ length names)) ps → AllByRecursion (λ p. length p.least ≡ length names) ps
    leasts [] h = tt
    leasts (p ∷ ps) h = (h.0.0, leasts ps h.1)

    mosts : (ps : List ProductRow) → AllByRecursion (λ p. (length p.least ≡ length names) × (length p.most ≡ length names)) ps → AllByRecursion (λ p. length p.most ≡ length names) ps
    mosts [] h = tt
    mosts (p ∷ ps) h = (h.0.1, mosts ps h.1)

pub network_wide : (d : Data) → IfOk (network d) IsRectangular
unfolding network
network_wide d =
    bind_any _ (object top (codes "version" ∷ codes "sources" ∷ codes "products" ∷ codes "arcs" ∷ []) (codes "title" ∷ codes "qualities" ∷ codes "pools" ∷ []) d) _ (λ members.
    bind_any _ (needs top (codes "version") (version top) d) _ (λ v.
    bind_any _ (ignored (allows (codes "title") [] (text top) d)) _ (λ title.
    bind_any _ (allows (codes "qualities") [] (list Qualities text) d) _ (λ names. lists_wide v names d))))

-- the rows that a function returned
pub rows_if : (P : Rows → Type 0) (r : Result Parts ReadNet) (walked : Result Rows ReadNet) → Gives rows_of r walked → IfOk walked P → IfOk r (λ p. P (rows_of p))
rows_if P (Ok p) walked gives h = let Q : Result Rows ReadNet → Type 0 = λ w. IfOk w P in subst Q gives h
rows_if P (Err e) walked gives h = tt
