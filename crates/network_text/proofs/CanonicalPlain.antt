-- What the canonical rows of a plain network are: arcs that are free, and pools that leave all of every quality.
use Rattle.std.proofs.Common.{◌≡◌, ℕ, suc, pos, ◌==◌, ◌&&◌, true, List, [], ◌∷◌, ◌++◌, length, map, get_or, None, option_map, refl, ap, arith}
use Rattle.std.specs.List.{list_all, AllByRecursion}
use Rattle.std.proofs.lemmas.Bool.{eqb-true, and_parts}
use Rattle.pool_model.specs.Network.{Pool, Arc, Network, net_of, removes_nothing, no_arc}
use Rattle.pool_model.specs.Plain.{is_plain, is_plain_arc}
use Rattle.pool_model.proofs.Plain.{plain-by_number}
use Rattle.network_parts.specs.declared.fault.Kind.TheVariants as kind
use Rattle.blend_network.specs.Kinds.{names_of}
use Rattle.blend_network.specs.Canonical.{canonical_arc, canonical_arcs}
use Rattle.network_json.specs.Format.{untreated}
use Rattle.network_text.proofs.CanonicalReads.{IsFree}

-- ---- ratios

whole : (names : List (List ℕ)) (rs : List ℕ) → list_all (λ r. r == 1000) rs ≡ true → length rs ≡ length names → map pos rs ≡ untreated names
unfolding untreated
whole [] [] h len = refl
whole [] (r ∷ rs) h len = absurd (omega arith)
whole (n ∷ ns) [] h len = absurd (omega arith)
whole (n ∷ ns) (r ∷ rs) h len =
    let parts = and_parts (r == 1000) (list_all (λ r. r == 1000) rs) h in
    rw (eqb-true r 1000 parts.0, whole ns rs parts.1 (omega arith)) refl

all_whole : (names : List (List ℕ)) (pools : List Pool) → removes_nothing pools ≡ true → AllByRecursion (λ p. length p.ratio ≡ length names) pools → AllByRecursion (λ p. map pos p.ratio ≡ untreated names) pools
all_whole names [] h len = tt
all_whole names (p ∷ pools) h len =
    let parts = and_parts (list_all (λ r. r == 1000) p.ratio) (removes_nothing pools) h in
    (whole names p.ratio parts.0 len.0, all_whole names pools parts.1 len.1)

pub plain_ratios : (n : Network) → is_plain n ≡ true → AllByRecursion (λ p. length p.ratio ≡ length n.qualities) n.pools → AllByRecursion (λ p. map pos p.ratio ≡ untreated n.qualities) n.pools
plain_ratios n h len =
    all_whole n.qualities n.pools (and_parts (removes_nothing n.pools) (list_all is_plain_arc n.feeds && (list_all is_plain_arc n.outs && list_all is_plain_arc n.directs)) h).0 len

-- ---- arcs

-- arcs that are free by number
all_free : (froms tos : List (List ℕ)) (arcs : List Arc) → ((e : ℕ) → (get_or arcs e no_arc).cost ≡ pos 0) → ((e : ℕ) → (get_or arcs e no_arc).max ≡ None) → AllByRecursion IsFree (map (canonical_arc froms tos) arcs)
all_free froms tos [] cost max = tt
all_free froms tos (a ∷ arcs) cost max = (record { cost = cost 0; max = ap (option_map pos) (max 0) }, all_free froms tos arcs (λ e. cost (suc e)) (λ e. max (suc e)))

both_all : {X : Type 0} (P : X → Type 0) (xs ys : List X) → AllByRecursion P xs → AllByRecursion P ys → AllByRecursion P (xs ++ ys)
both_all P [] ys h k = k
both_all P (x ∷ xs) ys h k = (h.0, both_all P xs ys h.1 k)

pub plain_arcs : (n : Network) → is_plain n ≡ true → AllByRecursion IsFree (canonical_arcs n)
unfolding net_of
plain_arcs n h =
    let is = plain-by_number n h in
    let s = names_of n kind.Source in
    let p = names_of n kind.Pool in
    let d = names_of n kind.Product in
    let feeds = map (canonical_arc s p) n.feeds in
    let outs = map (canonical_arc p d) n.outs in
    let directs = map (canonical_arc s d) n.directs in
    both_all IsFree (feeds ++ outs) directs
    (both_all IsFree feeds outs (all_free s p n.feeds is.feed_cost is.feed_max) (all_free p d n.outs is.out_cost is.out_max))
    (all_free s d n.directs is.direct_cost is.direct_max)
