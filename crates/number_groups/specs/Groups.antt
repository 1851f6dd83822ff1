-- Numbers in groups.
use Rattle.std.specs.Prelude.{ℕ, List}
use Rattle.integers.specs.Numbers.{tabulate, numbers_at}

-- for each of the first keys, the numbers below n that have it
abbrev pub groups_of : (ℕ → ℕ) → (n count : ℕ) → List (List ℕ)
groups_of key n count = tabulate (λ k. numbers_at key k n) count
