-- Lists by number: a table of the first numbers, and the numbers that have a key.
use Rattle.std.specs.Prelude.{ℕ, zero, suc, List, [], ◌∷◌, ◌++◌, if◌then◌else◌, ◌==◌}

-- f 0, f 1, up to f (n - 1)
abbrev pub tabulate : {X : Type 0} → (ℕ → X) → ℕ → List X
tabulate f zero = []
tabulate f (suc n) = tabulate f n ++ f n ∷ []

-- the numbers below a count that have this key
abbrev pub numbers_at : (ℕ → ℕ) → ℕ → ℕ → List ℕ
numbers_at key k zero = []
numbers_at key k (suc n) = numbers_at key k n ++ (if key n == k then n ∷ [] else [])
