-- The first of the faults that hold, by their ranks.
use Rattle.std.specs.Prelude.{◌≡◌, ℕ, ◌<◌, ◌⊎◌, List, [], ◌∷◌}

-- the first number in which two ranks differ is less in this one, or this one ends where the other goes on
abbrev pub IsBelow : List ℕ → List ℕ → Type 0
IsBelow [] [] = ⊥
IsBelow [] (y ∷ ys) = Unit {0}
IsBelow (x ∷ xs) [] = ⊥
IsBelow (x ∷ xs) (y ∷ ys) = (x < y) ⊎ ((x ≡ y) × IsBelow xs ys)

-- The fault holds, and none of a rank below its rank does.
pub record IsFirst {F : Type 0} (rank : F → List ℕ) (Holds : F → Type 0) (fault : F) : Type 0 where
  pub holds : Holds fault
  pub first : (earlier : F) → IsBelow (rank earlier) (rank fault) → ¬ Holds earlier

-- the fault of the least number that has the property
pub record IsFirstOf {F : Type 0} (make : ℕ → F) (P : ℕ → Type 0) (fault : F) : Type 0 where
  pub at : ℕ
  pub is : fault ≡ make at
  pub has : P at
  pub first : (i : ℕ) → i < at → ¬ P i
