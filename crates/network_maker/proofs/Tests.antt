-- What is among the elements of a list, by tests that compute: each element is told by a number of its own.
use Rattle.std.proofs.Common.{◌≡◌, ℕ, zero, suc, ◌+◌, ◌*◌, List, [], ◌∷◌, map, All, Contains, Bool, true, false, ◌==◌, ◌||◌, ◌&&◌, Option, None, Some, is_some, refl, eq-eqb, arith}
use Rattle.std.proofs.lemmas.List.Elements.{All-head, All-tail}
use Rattle.integers.proofs.Elements.{Contains-map}
use Rattle.pool_model.specs.Naming.{number_of}
use Rattle.network_parts.proofs.Lookups.{found_contains}

-- the number is in the list
abbrev pub has : ℕ → List ℕ → Bool
has x [] = false
has x (y ∷ ys) = (y == x) || has x ys

or_later : (a b : Bool) → b ≡ true → (a || b) ≡ true
or_later true b e = refl
or_later false b e = e

or_here : (a b : Bool) → a ≡ true → (a || b) ≡ true
or_here true b e = refl
or_here false b e = cc

pub contains_has : (x : ℕ) (xs : List ℕ) → Contains xs x → has x xs ≡ true
contains_has x [] (k, lt, is) = absurd (omega (arith, lt))
contains_has x (y ∷ ys) (zero, lt, is) = or_here (y == x) (has x ys) (eq-eqb y x is)
contains_has x (y ∷ ys) (suc k, lt, is) = or_later (y == x) (has x ys) (contains_has x ys (k, omega (arith, lt), is))

-- the first letters of a name as a number
abbrev pub name_code : List ℕ → ℕ
name_code [] = 0
name_code (a ∷ []) = a
name_code (a ∷ b ∷ rest) = a * 256 + b

-- the same of two names
abbrev pub ends_code : List ℕ × List ℕ → ℕ
ends_code ends = name_code ends.0 * 65536 + name_code ends.1

-- an element whose number is in no place of the list is not among the list's
pub absent : {X : Type 0} (code : X → ℕ) (xs : List X) (x : X) → has (code x) (map code xs) ≡ false → ¬ Contains xs x
absent code xs x e there = let h : has (code x) (map code xs) ≡ true = contains_has (code x) (map code xs) (Contains-map code xs x there) in cc

by_test : {X : Type 0} (f : X → ℕ) (x : X) (k : ℕ) (b rest : Bool) → (f x == k) ≡ b → (b || rest) ≡ true → (rest ≡ true → ⊥) → ¬ (f x ≡ k) → ⊥
by_test f x k true rest is e later here = here (grind (arith, is))
by_test f x k false rest is e later here = later e

-- a number that a list has is that of an element
pub not_all : {X : Type 0} (f : X → ℕ) (xs : List X) (k : ℕ) → has k (map f xs) ≡ true → All (λ x. ¬ (f x ≡ k)) xs → ⊥
not_all f [] k e all = cc
not_all f (x ∷ xs) k e all =
    by_test f x k (f x == k) (has k (map f xs)) refl e (λ later. not_all f xs k later (All-tail (λ y. ¬ (f y ≡ k)) x xs all)) (All-head (λ y. ¬ (f y ≡ k)) x xs all)

numbered : (name : List ℕ) (names : List (List ℕ)) (o : Option ℕ) → number_of name names ≡ o → is_some o ≡ true → Contains names name
numbered name names None is e = cc
numbered name names (Some i) is e = found_contains name names i is

-- a name with a number is there
pub named : (name : List ℕ) (names : List (List ℕ)) → is_some (number_of name names) ≡ true → Contains names name
named name names e = numbered name names (number_of name names) refl e

pub left : (a b : Bool) → (a && b) ≡ true → a ≡ true
left true b e = refl
left false b e = e

pub right : (a b : Bool) → (a && b) ≡ true → b ≡ true
right true b e = e
right false b e = cc
