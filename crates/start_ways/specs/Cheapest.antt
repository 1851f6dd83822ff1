-- The first of the cheapest among the starting plans that obey, by number.
use Rattle.std.specs.Prelude.{◌≡◌, ℕ, ◌<◌, Bool, true, if◌then◌else◌, Option, Some, None, ℤ, ◌≤ℤ◌, ◌<ℤ◌, int_lt}
use Rattle.start_ways.specs.declared.choice.Choice.{Choice}

-- of the numbers below a count that have a property, this is the first of those that cost least
pub record IsFirstLeastAt (P : ℕ → Type 0) (cost : ℕ → ℤ) (count : ℕ) (best : Choice) : Type 0 where
  pub there : best.number < count
  pub has : P best.number
  pub is : best.cost ≡ cost best.number
  pub least : (k : ℕ) → k < count → P k → best.cost ≤ℤ cost k
  pub first : (k : ℕ) → k < best.number → P k → best.cost <ℤ cost k

-- the same, and none where no number has it
abbrev pub IsFirstLeast : (ℕ → Type 0) → (ℕ → ℤ) → ℕ → Option Choice → Type 0
IsFirstLeast P cost count None = (k : ℕ) → k < count → ¬ P k
IsFirstLeast P cost count (Some best) = IsFirstLeastAt P cost count best

-- whether this costs less than the best so far, if there is one
abbrev pub is_cheaper : Option Choice → ℤ → Bool
is_cheaper None cost = true
is_cheaper (Some best) cost = int_lt cost best.cost

-- the best so far, or this number where it has a cost that is less
abbrev pub better : Option Choice → ℕ → Option ℤ → Option Choice
better best number None = best
better best number (Some cost) = if is_cheaper best cost then Some record { number = number; cost = cost } else best
