-- The walk answers with faults of its own: never with a refusal of rows, and never with want of memory.
use Rattle.std.proofs.Common.{◌≡◌, ◌≢◌, ℕ, pos, List, [], ◌∷◌, None, is_some, Result, Ok, Err, subst, codes, ltb, length}
use Rattle.std.specs.Prelude.{IfErr, IsErrAnd}
use Rattle.std.specs.Option.{ok_or}
use Rattle.serde_json.specs.Data.{Data}
use Rattle.serde_json.specs.Find.{get, as_object}
use Rattle.network_parts.specs.declared.fault.NetFault.{NetFault}
use Rattle.pool_model.specs.Rows.{Rows}
use Rattle.json_walk.specs.declared.fault.Section.TheVariants.{Qualities, Sources, Pools, Products, Arcs}
use Rattle.json_walk.specs.declared.fault.Place.{Place}
use Rattle.json_walk.specs.declared.fault.ReadNet.{ReadNet}
use Rattle.json_walk.specs.declared.fault.ReadNet.TheVariants.{TooLong, NotJson, Net, Memory}
use Rattle.json_walk.specs.declared.version.Version.{Version}
use Rattle.json_walk.specs.declared.version.Version.TheVariants.{One, Two}
use Rattle.json_walk.specs.Walk.{◌>>=◌, top, needs, allows, ignored, list, items, text, quantity, ratio, version}
use Rattle.json_walk.proofs.Found.{IsFound, OnlyFound, then_found, ok_or_found, either_found, text_found, quantity_found, ratio_found, version_found}
use Rattle.json_walk.proofs.Found.{needs_found, there_found, after_object, after_needed, after_allowed, each_found, items_found, list_found}
use Rattle.network_json.specs.Format.{quality, limit, limits, no_limits, source, ratios, untreated, pool_options, pool, product, two_texts, plain_arc, priced_arc, arc, lists, network, value_of, rows_in}
use Rattle.network_json.specs.Reading.{IsRefusal}

-- ---- the tables

quality_found : (names : List (List ℕ)) (at : Place) (d : Data) → OnlyFound (quality names at d)
unfolding quality
quality_found names at d = after_object at names [] d _ (λ u. each_found (λ n k. needs at k (quantity at) d) (λ n k. needs_found at k (quantity at) (quantity_found at) d) 0 names)

limit_found : (at : Place) (d : Data) → OnlyFound (limit at d)
unfolding limit
limit_found at d = then_found (quantity at d) _ (quantity_found at d) (λ q. tt)

limits_found : (names : List (List ℕ)) (at : Place) (d : Data) → OnlyFound (limits names at d)
unfolding limits
limits_found names at d = after_object at [] names d _ (λ u. each_found (λ n k. allows k None (limit at) d) (λ n k. there_found (limit at) None (get k d) (limit_found at)) 0 names)

source_found : (names : List (List ℕ)) (at : Place) (d : Data) → OnlyFound (source names at d)
unfolding source
source_found names at d =
    after_object at (codes "name" ∷ codes "cost" ∷ codes "quality" ∷ []) (codes "max" ∷ []) d _ (λ members.
    after_needed at (codes "name") (text at) (text_found at) d _ (λ name.
    after_needed at (codes "cost") (quantity at) (quantity_found at) d _ (λ cost.
    after_allowed (codes "max") None (limit at) (limit_found at) d _ (λ max.
    after_needed at (codes "quality") (quality names at) (quality_found names at) d _ (λ qs. tt)))))

ratios_found : (names : List (List ℕ)) (at : Place) (d : Data) → OnlyFound (ratios names at d)
unfolding ratios
ratios_found names at d = after_object at [] names d _ (λ u. each_found (λ n k. allows k (pos 1000) (ratio at) d) (λ n k. there_found (ratio at) (pos 1000) (get k d) (ratio_found at)) 0 names)

pool_found : (version : Version) (names : List (List ℕ)) (at : Place) (d : Data) → OnlyFound (pool version names at d)
unfolding pool
pool_found version names at d =
    after_object at (codes "name" ∷ []) (pool_options version) d _ (λ members.
    after_needed at (codes "name") (text at) (text_found at) d _ (λ name.
    after_allowed (codes "max") None (limit at) (limit_found at) d _ (λ max.
    after_allowed (codes "ratio") (untreated names) (ratios names at) (ratios_found names at) d _ (λ rs. tt))))

product_found : (names : List (List ℕ)) (at : Place) (d : Data) → OnlyFound (product names at d)
unfolding product
product_found names at d =
    after_object at (codes "name" ∷ codes "price" ∷ codes "max" ∷ []) (codes "min" ∷ codes "least" ∷ codes "most" ∷ []) d _ (λ members.
    after_needed at (codes "name") (text at) (text_found at) d _ (λ name.
    after_needed at (codes "price") (quantity at) (quantity_found at) d _ (λ price.
    after_allowed (codes "min") (pos 0) (quantity at) (quantity_found at) d _ (λ min.
    after_needed at (codes "max") (quantity at) (quantity_found at) d _ (λ max.
    after_allowed (codes "least") (no_limits names) (limits names at) (limits_found names at) d _ (λ least.
    after_allowed (codes "most") (no_limits names) (limits names at) (limits_found names at) d _ (λ most. tt)))))))

two_texts_found : (at : Place) (ds : List Data) → OnlyFound (two_texts at ds)
two_texts_found at (a ∷ b ∷ []) = then_found (text at a) _ (text_found at a) (λ from. then_found (text at b) _ (text_found at b) (λ to. tt))
two_texts_found at [] = tt
two_texts_found at (a ∷ []) = tt
two_texts_found at (a ∷ b ∷ c ∷ ds) = tt

plain_arc_found : (at : Place) (d : Data) → OnlyFound (plain_arc at d)
unfolding plain_arc
plain_arc_found at d = then_found (items at d) (two_texts at) (items_found at d) (two_texts_found at)

priced_arc_found : (at : Place) (d : Data) → OnlyFound (priced_arc at d)
unfolding priced_arc
priced_arc_found at d =
    after_object at (codes "from" ∷ codes "to" ∷ []) (codes "cost" ∷ codes "max" ∷ []) d _ (λ members.
    after_needed at (codes "from") (text at) (text_found at) d _ (λ from.
    after_needed at (codes "to") (text at) (text_found at) d _ (λ to.
    after_allowed (codes "cost") (pos 0) (quantity at) (quantity_found at) d _ (λ cost.
    after_allowed (codes "max") None (limit at) (limit_found at) d _ (λ max. tt)))))

arc_found : (version : Version) (at : Place) (d : Data) → OnlyFound (arc version at d)
unfolding arc
arc_found One at d = plain_arc_found at d
arc_found Two at d = either_found (is_some (as_object d)) (priced_arc at d) (plain_arc at d) (priced_arc_found at d) (plain_arc_found at d)

lists_found : (version : Version) (names : List (List ℕ)) (d : Data) → OnlyFound (lists version names d)
unfolding lists
lists_found version names d =
    after_needed top (codes "sources") (list Sources (source names)) (list_found Sources (source names) (source_found names)) d _ (λ sources.
    after_allowed (codes "pools") [] (list Pools (pool version names)) (list_found Pools (pool version names) (pool_found version names)) d _ (λ pools.
    after_needed top (codes "products") (list Products (product names)) (list_found Products (product names) (product_found names)) d _ (λ products.
    after_needed top (codes "arcs") (list Arcs (arc version)) (list_found Arcs (arc version) (arc_found version)) d _ (λ arcs. tt))))

network_found : (d : Data) → OnlyFound (network d)
unfolding network
network_found d =
    after_object top (codes "version" ∷ codes "sources" ∷ codes "products" ∷ codes "arcs" ∷ []) (codes "title" ∷ codes "qualities" ∷ codes "pools" ∷ []) d _ (λ members.
    after_needed top (codes "version") (version top) (version_found top) d _ (λ v.
    then_found (ignored (allows (codes "title") [] (text top) d)) _ (after_allowed (codes "title") [] (text top) (text_found top) d _ (λ title. tt)) (λ title.
    after_allowed (codes "qualities") [] (list Qualities text) (list_found Qualities text text_found) d _ (λ names. lists_found v names d))))

pub rows_found : (bytes : List ℕ) → OnlyFound (rows_in bytes)
unfolding rows_in
rows_found bytes = either_found (ltb 4194304 (length bytes)) (Err TooLong) (ok_or (value_of bytes) NotJson >>= network)
    tt (then_found (ok_or (value_of bytes) NotJson) network (ok_or_found (value_of bytes) NotJson tt) network_found)

-- ---- the whole file

not_refused : (bytes : List ℕ) (fault : NetFault) → rows_in bytes ≡ Err (Net fault) → ⊥
not_refused bytes fault is = let P : Result Rows ReadNet → Type 0 = λ r. IfErr r IsFound in subst P is (rows_found bytes)

-- a fault of the walk is a reason to refuse the file
pub walk_refusal : (bytes : List ℕ) (e : ReadNet) → (e ≢ Memory → rows_in bytes ≡ Err e) → IsRefusal bytes e
walk_refusal bytes Memory h = tt
walk_refusal bytes (Net fault) h = absurd (not_refused bytes fault (h (λ m. cc)))
walk_refusal bytes _ h = h (λ m. cc)

pub refused_if : {X : Type 0} (bytes : List ℕ) (result : Result X ReadNet) (e : ReadNet) → IsErrAnd result (λ z. z ≡ e) → (e ≢ Memory → rows_in bytes ≡ Err e) → IfErr result (IsRefusal bytes)
refused_if bytes (Ok x) e is h = absurd is
refused_if bytes (Err z) e is h = walk_refusal bytes z (rw is h)
