-- Distinct names: each is found at its own place, and in its own list alone.
use Rattle.std.proofs.Common.{◌≡◌, ℕ, ◌<◌, List, [], length, get_or, take, Contains, true, Option, None, Some, is_some, refl, sym, ap, subst, ◌∙◌, arith}
use Rattle.std.proofs.lemmas.Bool.{false≢true}
use Rattle.std.proofs.lemmas.List.{length-take-le, get_or-take, get_or_default}
use Rattle.std.proofs.lemmas.List.Elements.{Contains-append_left}
use Rattle.pool_model.specs.Naming.{number_of}
use Rattle.network_parts.specs.Faults.{IsRepeatAt}
use Rattle.network_parts.proofs.Lookups.{number_of_some, has_number, found_contains}

-- no name of the second list is in the first, and none stands twice in the second
abbrev pub IsFresh : List (List ℕ) → List (List ℕ) → Type 0
IsFresh before names = (n : ℕ) → ¬ IsRepeatAt before names n

-- ---- within a list

not_again : (names : List (List ℕ)) (i j : ℕ) → IsFresh [] names → i < j → j < length names → get_or names i [] ≡ get_or names j [] → ⊥
not_again names i j fresh lt within e =
    fresh j (
      within,
      (
        i,
        omega (arith, lt, length-take-le j names (omega (arith, within))),
        get_or-take j names i
            (get_or names j []) lt ∙ get_or_default names i (get_or names j []) [] (omega (arith, lt, within)) ∙ e,
      ),
    )

one_place : (names : List (List ℕ)) (i j : ℕ) → IsFresh [] names → i < length names → j < length names → get_or names i [] ≡ get_or names j [] → i ≡ j
one_place names i j fresh hi hj e =
    let below : i < j → ⊥ = λ lt. not_again names i j fresh lt hj e in
    let above : j < i → ⊥ = λ lt. not_again names j i fresh lt hi (sym e) in
    omega arith

own_by : (names : List (List ℕ)) (i : ℕ) (o : Option ℕ) → IsFresh [] names → i < length names → number_of (get_or names i []) names ≡ o → is_some o ≡ true → o ≡ Some i
own_by names i None fresh h e there = absurd (false≢true there)
own_by names i (Some j) fresh h e there =
    let found = number_of_some (get_or names i []) names j e in
    ap Some (one_place names j i fresh found.within h found.here)

-- a name is found where it stands
pub own_number : (names : List (List ℕ)) (i : ℕ) → IsFresh [] names → i < length names → number_of (get_or names i []) names ≡ Some i
own_number names i fresh h =
    own_by names i (number_of (get_or names i []) names) fresh h refl (has_number (get_or names i []) names i h (get_or_default names i (get_or names i []) [] h))

-- ---- in another list

-- no name is in both lists
abbrev pub AreDisjoint : List (List ℕ) → List (List ℕ) → Type 0
AreDisjoint xs ys = (name : List ℕ) → Contains xs name → Contains ys name → ⊥

pub disjoint : (before names : List (List ℕ)) → IsFresh before names → AreDisjoint before names
disjoint before names fresh name early there =
    let at : get_or names there.0 [] ≡ name = get_or_default names there.0 [] name there.1 ∙ there.2 in
    fresh there.0 (there.1, Contains-append_left before (take there.0 names) (get_or names there.0 []) (subst (Contains before) (sym at) early))

absent_by : (name : List ℕ) (names : List (List ℕ)) (o : Option ℕ) → number_of name names ≡ o → (Contains names name → ⊥) → o ≡ None
absent_by name names None e h = refl
absent_by name names (Some i) e h = absurd (h (found_contains name names i e))

pub no_number : (name : List ℕ) (names : List (List ℕ)) → (Contains names name → ⊥) → number_of name names ≡ None
no_number name names h = absent_by name names (number_of name names) refl h
