-- Divisors and multiples of several numbers.
use Rattle.std.specs.Prelude.{ℕ, ◌*◌, ◌<◌, ◌↔◌, List, get_or, length}
use Rattle.std.specs.Int.{◌∣◌}

-- A divisor of a number and of so many others: what divides a multiple of each of them divides that multiple of this.
pub record IsDivisorOf (start : ℕ) (part : ℕ → ℕ) (count g : ℕ) : Type 0 where
  pub positive : 0 < start → 0 < g
  pub whole : g ∣ start
  pub parts : (i : ℕ) → i < count → g ∣ part i
  pub greatest : (k m : ℕ) → k ∣ (m * start) → ((i : ℕ) → i < count → k ∣ (m * part i)) → k ∣ (m * g)

-- The least common multiple of two numbers: its multiples are the common ones.
pub record IsLcm (a b m : ℕ) : Type 0 where
  pub positive : 0 < m
  pub multiples : (c : ℕ) → (m ∣ c) ↔ ((a ∣ c) × (b ∣ c))

-- the greatest common divisor of a base and of two lists of numbers over it
pub record IsFlowDivisor (base : ℕ) (outs directs : List ℕ) (g : ℕ) : Type 0 where
  pub first : ℕ
  pub of_outs : IsDivisorOf base (λ i. get_or outs i 0) (length outs) first
  pub of_directs : IsDivisorOf first (λ i. get_or directs i 0) (length directs) g
