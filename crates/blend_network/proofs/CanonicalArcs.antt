-- The arcs of a canonical file: each kind is found again, in its order, and no arc is new or stands twice.
use Rattle.std.proofs.Common.{◌≡◌, ℕ, zero, suc, ◌<◌, List, [], ◌∷◌, ◌++◌, length, map, get_or, take, All, Contains, ◌⊎◌, append-nil, Option, None, Some}
use Rattle.std.proofs.Common.{option_map, unsigned_abs, pos, refl, sym, ap, subst, ◌∙◌, inl, inr, arith}
use Rattle.std.specs.List.{filter_map, cons_option}
use Rattle.std.proofs.lemmas.List.{get_or_default, map-append}
use Rattle.std.proofs.lemmas.Simd.{map-map}
use Rattle.std.proofs.lemmas.List.Elements.{All-head, All-tail, All-from_get_or, All-contains, All-map, All-weaker, Contains-append_cases, Contains-get_or, filter_map-append}
use Rattle.pool_model.specs.Rows.{ArcRow, Rows}
use Rattle.pool_model.specs.Naming.{number_of, arc_of, arc_between, arcs_between}
use Rattle.pool_model.specs.Network.{Arc, no_arc}
use Rattle.network_parts.specs.Faults.{row_ends}
use Rattle.network_parts.specs.Nodes.{join}
use Rattle.blend_network.specs.Canonical.{canonical_arc}
use Rattle.network_parts.proofs.Joined.{IsBetween, arcs-between}
use Rattle.network_parts.proofs.Lookups.{number_of_some}
use Rattle.blend_network.proofs.CanonicalNames.{IsFresh, AreDisjoint, own_number, no_number}

-- ---- looking the ends up again

same_max : (o : Option ℕ) → option_map unsigned_abs (option_map pos o) ≡ o
same_max None = refl
same_max (Some m) = refl

found_again : (froms tos : List (List ℕ)) (a : Arc) → IsFresh [] froms → IsFresh [] tos → IsBetween froms tos a → arc_between froms tos (canonical_arc froms tos a) ≡ Some a
found_again froms tos a f t is =
    let same : arc_of (canonical_arc froms tos a) a.from a.to ≡ a = λ i. record { from = a.from; to = a.to; cost = a.cost; max = same_max a.max i } in
    ap (λ o. join (canonical_arc froms tos a) o (number_of (get_or tos a.to []) tos)) (own_number froms a.from f is.from)
    ∙ ap (λ o. join (canonical_arc froms tos a) (Some a.from) o) (own_number tos a.to t is.to)
    ∙ ap Some same

-- the arcs of a kind are found again
pub kind_again : (froms tos : List (List ℕ)) (arcs : List Arc) → IsFresh [] froms → IsFresh [] tos
    → All (IsBetween froms tos) arcs → filter_map (arc_between froms tos) (map (canonical_arc froms tos) arcs) ≡ arcs
kind_again froms tos [] f t all = refl
kind_again froms tos (a ∷ arcs) f t all =
    rw (found_again froms tos a f t (All-head (IsBetween froms tos) a arcs all), kind_again froms tos arcs f t (All-tail (IsBetween froms tos) a arcs all)) refl

no_end : (x : ArcRow) (o : Option ℕ) → join x o None ≡ None
no_end x None = refl
no_end x (Some i) = refl

-- an end that is not among these names makes no arc
other_start : (froms tos : List (List ℕ)) (x : ArcRow) → (Contains froms x.from → ⊥) → arc_between froms tos x ≡ None
other_start froms tos x h = ap (λ o. join x o (number_of x.to tos)) (no_number x.from froms h)

other_end : (froms tos : List (List ℕ)) (x : ArcRow) → (Contains tos x.to → ⊥) → arc_between froms tos x ≡ None
other_end froms tos x h = ap (λ o. join x (number_of x.from froms) o) (no_number x.to tos h) ∙ no_end x (number_of x.from froms)

none_kept : {X Y : Type 0} (f : X → Option Y) (g : Arc → X) (P : Arc → Type 0) (arcs : List Arc) → All P arcs → ((a : Arc) → P a → f (g a) ≡ None) → filter_map f (map g arcs) ≡ []
none_kept f g P [] all h = refl
none_kept f g P (a ∷ arcs) all h = rw (h a (All-head P a arcs all), none_kept f g P arcs (All-tail P a arcs all) h) refl

-- arcs that start elsewhere, and arcs that end elsewhere
pub other_starts : (froms tos froms' tos' : List (List ℕ)) (arcs : List Arc) → AreDisjoint froms' froms
    → All (IsBetween froms' tos') arcs → filter_map (arc_between froms tos) (map (canonical_arc froms' tos') arcs) ≡ []
other_starts froms tos froms' tos' arcs apart all =
    none_kept (arc_between froms tos) (canonical_arc froms' tos') (IsBetween froms' tos') arcs all
    (λ a is. other_start froms tos (canonical_arc froms' tos' a) (apart (get_or froms' a.from []) (Contains-get_or froms' a.from [] is.from)))

pub other_ends : (froms tos froms' tos' : List (List ℕ)) (arcs : List Arc) → AreDisjoint tos' tos
    → All (IsBetween froms' tos') arcs → filter_map (arc_between froms tos) (map (canonical_arc froms' tos') arcs) ≡ []
other_ends froms tos froms' tos' arcs apart all =
    none_kept (arc_between froms tos) (canonical_arc froms' tos') (IsBetween froms' tos') arcs all
    (λ a is. other_end froms tos (canonical_arc froms' tos' a) (apart (get_or tos' a.to []) (Contains-get_or tos' a.to [] is.to)))

pub all_between : (froms tos : List (List ℕ)) (r : Rows) → All (IsBetween froms tos) (arcs_between froms tos r)
all_between froms tos r = All-from_get_or (IsBetween froms tos) (arcs_between froms tos r) no_arc (arcs-between froms tos r)

-- ---- each is an arc of the file

-- the names of the two ends of an arc
abbrev pub named_ends : List (List ℕ) → List (List ℕ) → Arc → List ℕ × List ℕ
named_ends froms tos a = row_ends (canonical_arc froms tos a)

-- they are those that it was found by
named_by : (froms tos : List (List ℕ)) (x : ArcRow) (a : Arc) (i j : Option ℕ) → number_of x.from froms ≡ i → number_of x.to tos ≡ j → join x i j ≡ Some a → named_ends froms tos a ≡ row_ends x
named_by froms tos x a (Some i) (Some j) hi hj e =
    let from : i ≡ a.from = cc (ap (option_map (λ (c : Arc). c.from)) e) in
    let to : j ≡ a.to = cc (ap (option_map (λ (c : Arc). c.to)) e) in
    let p : get_or froms a.from [] ≡ x.from = ap (λ k. get_or froms k []) (sym from) ∙ (number_of_some x.from froms i hi).here in
    let q : get_or tos a.to [] ≡ x.to = ap (λ k. get_or tos k []) (sym to) ∙ (number_of_some x.to tos j hj).here in
    λ k. (p k, q k)
named_by froms tos x a (Some i) None hi hj e = absurd cc
named_by froms tos x a None j hi hj e = absurd cc

pub named : (froms tos : List (List ℕ)) (x : ArcRow) (a : Arc) → arc_between froms tos x ≡ Some a → named_ends froms tos a ≡ row_ends x
named froms tos x a e = named_by froms tos x a (number_of x.from froms) (number_of x.to tos) refl refl e

pub contains_cases : {X : Type 0} (z : X) (zs : List X) (y : X) → Contains (z ∷ zs) y → (z ≡ y) ⊎ Contains zs y
contains_cases z zs y (zero, lt, e) = inl e
contains_cases z zs y (suc k, lt, e) = inr (k, omega (arith, lt), e)

contains_later : {X : Type 0} (z : X) (zs : List X) (y : X) → Contains zs y → Contains (z ∷ zs) y
contains_later z zs y (k, lt, e) = (suc k, omega (arith, lt), e)

contains_here : {X : Type 0} (z : X) (zs : List X) (y : X) → z ≡ y → Contains (z ∷ zs) y
contains_here z zs y e = (0, omega arith, e)

-- the elements that f keeps, as g names them, where that is as h named them
module _ {X Y A : Type 0} (f : X → Option A) (g : A → Y) (h : X → Y) (back : (x : X) (a : A) → f x ≡ Some a → g a ≡ h x) where
  kept_at : (x : X) (xs : List X) (rest : List A) (y : Y) (o : Option A) → f x ≡ o → (Contains (map g rest) y → Contains (map h xs) y) → Contains (map g (cons_option o rest)) y
      → Contains (h x ∷ map h xs) y
  kept_at x xs rest y None is later there = contains_later (h x) (map h xs) y (later there)
  kept_at x xs rest y (Some a) is later there =
      elim (contains_cases (g a) (map g rest) y there) [ inl e ↦ contains_here (h x) (map h xs) y (sym (back x a is) ∙ e) | inr k ↦ contains_later (h x) (map h xs) y (later k) ]

  pub kept_there : (xs : List X) (y : Y) → Contains (map g (filter_map f xs)) y → Contains (map h xs) y
  kept_there [] y there = absurd (omega (arith, there.1))
  kept_there (x ∷ xs) y there = kept_at x xs (filter_map f xs) y (f x) refl (kept_there xs y) there

-- each element stands once
abbrev pub IsOnce : {X : Type 0} → List X → Type 0
IsOnce [] = Unit {0}
IsOnce (x ∷ xs) = (¬ Contains xs x) × IsOnce xs

module _ {X Y A : Type 0} (f : X → Option A) (g : A → Y) (h : X → Y) (back : (x : X) (a : A) → f x ≡ Some a → g a ≡ h x) where
  once_at : (x : X) (xs : List X) (rest : List A) (o : Option A) → f x ≡ o → (¬ Contains (map h xs) (h x)) → (Contains (map g rest) (h x) → Contains (map h xs) (h x)) → IsOnce (map g rest)
      → IsOnce (map g (cons_option o rest))
  once_at x xs rest None is fresh later once = once
  once_at x xs rest (Some a) is fresh later once = (λ there. fresh (later (subst (Contains (map g rest)) (back x a is) there)), once)

  pub once_kept : (xs : List X) → IsOnce (map h xs) → IsOnce (map g (filter_map f xs))
  once_kept [] once = tt
  once_kept (x ∷ xs) once = once_at x xs (filter_map f xs) (f x) refl once.0 (kept_there f g h back xs (h x)) (once_kept xs once.1)

pub once_append : {X : Type 0} (xs ys : List X) → IsOnce xs → IsOnce ys → ((z : X) → Contains xs z → Contains ys z → ⊥) → IsOnce (xs ++ ys)
once_append [] ys h k apart = k
once_append (x ∷ xs) ys h k apart = (
  λ there. elim (Contains-append_cases xs ys x there) [ inl c ↦ h.0 c | inr c ↦ apart x (contains_here x xs x refl) c ],
  once_append xs ys h.1 k (λ z c. apart z (contains_later x xs z c)),
)

-- the same by places
pub once_from : {X : Type 0} (d : X) (xs : List X) → ((n : ℕ) → n < length xs → Contains (take n xs) (get_or xs n d) → ⊥) → IsOnce xs
once_from d [] h = tt
once_from d (x ∷ xs) h = (
  λ there. h (suc there.0) (omega (arith, there.1)) (contains_here x (take there.0 xs) (get_or xs there.0 d) (sym (get_or_default xs there.0 d x there.1 ∙ there.2))),
  once_from d xs (λ n lt c. h (suc n) (omega (arith, lt)) (contains_later x (take n xs) (get_or xs n d) c)),
)

pub never_again : {X : Type 0} (d : X) (xs : List X) → IsOnce xs → (n : ℕ) → n < length xs → Contains (take n xs) (get_or xs n d) → ⊥
never_again d [] h n lt c = absurd (omega (arith, lt))
never_again d (x ∷ xs) h zero lt c = absurd (omega (arith, c.1))
never_again d (x ∷ xs) h (suc n) lt c =
    let within : n < length xs = omega (arith, lt) in
    elim (contains_cases x (take n xs) (get_or xs n d) c) [
      | inl e ↦ h.0 (n, within, get_or_default xs n x d within ∙ sym e)
      | inr k ↦ never_again d xs h.1 n within k
    ]

-- ---- three kinds of arcs

-- the arcs of each kind by their names
abbrev pub all_named : (s p d : List (List ℕ)) (feeds outs directs : List Arc) → List ArcRow
all_named s p d feeds outs directs = map (canonical_arc s p) feeds ++ map (canonical_arc p d) outs ++ map (canonical_arc s d) directs

-- the names of their ends alone
abbrev pub all_ends : (s p d : List (List ℕ)) (feeds outs directs : List Arc) → List (List ℕ × List ℕ)
all_ends s p d feeds outs directs = map (named_ends s p) feeds ++ map (named_ends p d) outs ++ map (named_ends s d) directs

pub ends_named : (s p d : List (List ℕ)) (feeds outs directs : List Arc) → map row_ends (all_named s p d feeds outs directs) ≡ all_ends s p d feeds outs directs
ends_named s p d feeds outs directs =
    map-append row_ends (map (canonical_arc s p) feeds ++ map (canonical_arc p d) outs) (map (canonical_arc s d) directs)
    ∙ ap (λ xs. xs ++ map row_ends (map (canonical_arc s d) directs)) (map-append row_ends (map (canonical_arc s p) feeds) (map (canonical_arc p d) outs))
    ∙ ap (λ xs. xs ++ map row_ends (map (canonical_arc p d) outs) ++ map row_ends (map (canonical_arc s d) directs)) (map-map row_ends (canonical_arc s p) feeds)
    ∙ ap (λ xs. map (named_ends s p) feeds ++ xs ++ map row_ends (map (canonical_arc s d) directs)) (map-map row_ends (canonical_arc p d) outs)
    ∙ ap (λ xs. map (named_ends s p) feeds ++ map (named_ends p d) outs ++ xs) (map-map row_ends (canonical_arc s d) directs)

-- names that are all distinct, and arcs between them
pub record AreJoined (s p d : List (List ℕ)) (feeds outs directs : List Arc) : Type 0 where
  pub sources : IsFresh [] s
  pub pools : IsFresh [] p
  pub products : IsFresh [] d
  pub source_pool : AreDisjoint s p
  pub source_product : AreDisjoint s d
  pub pool_product : AreDisjoint p d
  pub feeds_are : All (IsBetween s p) feeds
  pub outs_are : All (IsBetween p d) outs
  pub directs_are : All (IsBetween s d) directs

module _ (s p d : List (List ℕ)) (feeds outs directs : List Arc) (are : AreJoined s p d feeds outs directs) where
  apart : (xs ys : List (List ℕ)) → AreDisjoint xs ys → AreDisjoint ys xs
  apart xs ys h name a b = h name b a

  parts : (f : ArcRow → Option Arc)
      → filter_map f (all_named s p d feeds outs directs) ≡ filter_map f (map (canonical_arc s p) feeds) ++ filter_map f
      (map (canonical_arc p d) outs) ++ filter_map f (map (canonical_arc s d) directs)
  parts f =
      filter_map-append f (map (canonical_arc s p) feeds ++ map (canonical_arc p d) outs) (map (canonical_arc s d) directs)
      ∙ ap (λ xs. xs ++ filter_map f (map (canonical_arc s d) directs)) (filter_map-append f (map (canonical_arc s p) feeds) (map (canonical_arc p d) outs))

  pub feeds_again : filter_map (arc_between s p) (all_named s p d feeds outs directs) ≡ feeds
  feeds_again =
      parts (arc_between s p)
      ∙ rw (
        kind_again s p feeds are.sources are.pools are.feeds_are,
        other_starts s p p d outs (apart s p are.source_pool) are.outs_are,
        other_ends s p s d directs (apart p d are.pool_product) are.directs_are,
      ) (append-nil (feeds ++ []) ∙ append-nil feeds)

  pub outs_again : filter_map (arc_between p d) (all_named s p d feeds outs directs) ≡ outs
  outs_again =
      parts (arc_between p d)
      ∙ rw (
        kind_again p d outs are.pools are.products are.outs_are,
        other_starts p d s p feeds are.source_pool are.feeds_are,
        other_starts p d s d directs are.source_pool are.directs_are,
      ) (append-nil outs)

  pub directs_again : filter_map (arc_between s d) (all_named s p d feeds outs directs) ≡ directs
  directs_again =
      parts (arc_between s d)
      ∙ rw (
        kind_again s d directs are.sources are.products are.directs_are,
        other_ends s d s p feeds are.pool_product are.feeds_are,
        other_starts s d p d outs (apart s p are.source_pool) are.outs_are,
      ) refl

  starts_in : (froms tos : List (List ℕ)) (arcs : List Arc) → All (IsBetween froms tos) arcs → (z : List ℕ × List ℕ) → Contains (map (named_ends froms tos) arcs) z → Contains froms z.0
  starts_in froms tos arcs all z there =
      All-contains (λ x. Contains froms x.0) (map (named_ends froms tos) arcs) z
      (All-map (λ x. Contains froms x.0) (named_ends froms tos) arcs
      (All-weaker (IsBetween froms tos) (λ a. Contains froms (get_or froms a.from []))
      (λ a is. Contains-get_or froms a.from [] is.from) arcs all)) there

  ends_in : (froms tos : List (List ℕ)) (arcs : List Arc) → All (IsBetween froms tos) arcs → (z : List ℕ × List ℕ) → Contains (map (named_ends froms tos) arcs) z → Contains tos z.1
  ends_in froms tos arcs all z there =
      All-contains (λ x. Contains tos x.1) (map (named_ends froms tos) arcs) z
      (All-map (λ x. Contains tos x.1) (named_ends froms tos) arcs
      (All-weaker (IsBetween froms tos) (λ a. Contains tos (get_or tos a.to []))
      (λ a is. Contains-get_or tos a.to [] is.to) arcs all)) there

  pub all_once : IsOnce (map (named_ends s p) feeds) → IsOnce (map (named_ends p d) outs) → IsOnce (map (named_ends s d) directs) → IsOnce (all_ends s p d feeds outs directs)
  all_once f o x =
      let start_f = starts_in s p feeds are.feeds_are in
      let start_o = starts_in p d outs are.outs_are in
      let start_x = starts_in s d directs are.directs_are in
      once_append (map (named_ends s p) feeds ++ map (named_ends p d) outs) (map (named_ends s d) directs)
      (once_append (map (named_ends s p) feeds) (map (named_ends p d) outs) f o (λ z a b. are.source_pool z.0 (start_f z a) (start_o z b))) x
      (λ z a b. elim (Contains-append_cases (map (named_ends s p) feeds) (map (named_ends p d) outs) z a) [
        | inl c ↦ are.pool_product z.1 (ends_in s p feeds are.feeds_are z c) (ends_in s d directs are.directs_are z b)
        | inr c ↦ are.source_pool z.0 (start_x z b) (start_o z c)
      ])
