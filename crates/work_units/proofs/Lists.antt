-- Lists with a first element more, and tests of numbers.
use Rattle.std.proofs.Common.{◌≡◌, ◌≢◌, ℕ, zero, suc, ◌<◌, ◌⊎◌, inl, inr, ◌==◌, ◌||◌, List, ◌∷◌, length, get_or, Bool, true, false, arith, refl}
use Rattle.std.proofs.lemmas.Bool.Decides.{nat_tests}
use Rattle.std.specs.List.{Contains}

pub cons-cases : {X : Type 0} (x : X) (xs : List X) (y : X) → Contains (x ∷ xs) y → (x ≡ y) ⊎ Contains xs y
cons-cases {X} x xs y has = go has.0 has.1 has.2
  where
    go : (k : ℕ) → k < length (x ∷ xs) → get_or (x ∷ xs) k y ≡ y → (x ≡ y) ⊎ Contains xs y
    go zero h e = inl e
    go (suc k) h e = inr (k, omega arith, e)

pub cons-first : {X : Type 0} (x : X) (xs : List X) → Contains (x ∷ xs) x
cons-first x xs = (0, omega arith, refl)

pub cons-later : {X : Type 0} (x : X) (xs : List X) (y : X) → Contains xs y → Contains (x ∷ xs) y
cons-later x xs y has = (suc has.0, omega (arith, has.1), has.2)

-- ---- tests

pub or-parts : (a b : Bool) → (a || b) ≡ false → (a ≡ false) × (b ≡ false)
or-parts false b e = (refl, e)
or-parts true b e = cc

pub or-cases : (a b : Bool) → (a || b) ≡ true → (a ≡ true) ⊎ (b ≡ true)
or-cases false b e = inr e
or-cases true b e = inl refl

pub or-left : (a b : Bool) → a ≡ true → (a || b) ≡ true
or-left true b e = refl
or-left false b e = cc

pub or-right : (a b : Bool) → b ≡ true → (a || b) ≡ true
or-right true b e = refl
or-right false b e = e

pub not-same : (a b : ℕ) → (a == b) ≡ false → a ≢ b
not-same a b e = grind (arith, nat_tests)

pub is-same : (a b : ℕ) → (a == b) ≡ true → a ≡ b
is-same a b e = grind (arith, nat_tests)
