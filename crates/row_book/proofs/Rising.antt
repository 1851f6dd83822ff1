-- Row numbers that rise.
use Rattle.std.proofs.Common.{◌≡◌, ℕ, zero, suc, ◌+◌, ◌-◌, ◌<◌, ◌≤◌, ◌⊎◌, inl, inr, arith, ap}

-- what rises from one to the next rises
pub rises : (row : ℕ → ℕ) (n : ℕ) → ((k : ℕ) → suc k < n → row k < row (suc k)) → (i j : ℕ) → i < j → j < n → row i < row j
rises row n h i zero lt ln = absurd (omega arith)
rises row n h i (suc j) lt ln = elim (last_or_below i j lt) [
  | inl e ↦ omega (arith, h j ln, ap row e)
  | inr l ↦ omega (arith, h j ln, rises row n h i j l (omega arith))
]
  where
    last_or_below : (k n : ℕ) → k < suc n → (k ≡ n) ⊎ (k < n)
    last_or_below k n h = grind arith

-- what rises is at least its place
at_least_place : (row : ℕ → ℕ) (n : ℕ) → ((i j : ℕ) → i < j → j < n → row i < row j) → (i : ℕ) → i < n → i ≤ row i
at_least_place row n h zero lt = omega arith
at_least_place row n h (suc i) lt = omega (arith, h i (suc i) (omega arith) lt, at_least_place row n h i (omega arith))

-- there are no more numbers than lie below a bound
pub no_more : (row : ℕ → ℕ) (n m : ℕ) → ((i j : ℕ) → i < j → j < n → row i < row j) → ((i : ℕ) → i < n → row i < m) → n ≤ m
no_more row zero m h k = omega arith
no_more row (suc n) m h k = omega (arith, k n (omega arith), at_least_place row (suc n) h n (omega arith))

-- one step more
pub rises_more : (row : ℕ → ℕ) (i : ℕ) → 1 ≤ i → row (i - 1) < row i → ((k : ℕ) → suc k < i → row k < row (suc k)) → (k : ℕ) → suc k < i + 1 → row k < row (suc k)
rises_more row i p here h k lt = elim (last_or_below (suc k) i (omega arith)) [
  | inl e ↦ omega (arith, here, ap row e, ap row (before k i e))
  | inr l ↦ h k l
]
  where
    last_or_below : (k n : ℕ) → k < suc n → (k ≡ n) ⊎ (k < n)
    last_or_below k n h = grind arith

    before : (k i : ℕ) → suc k ≡ i → k ≡ i - 1
    before k i e = omega arith
