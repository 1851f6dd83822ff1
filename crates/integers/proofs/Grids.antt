-- Places in a grid of rows of one length.
use Rattle.std.proofs.Common.{ℕ, zero, suc, ◌+◌, ◌*◌, ◌/◌, ◌%◌, ◌<◌, ◌≤◌, arith}
use Rattle.std.proofs.Math.Nat.{mul-le-mul_right, div-lt_iff_lt-mul}

-- a place in a grid of rows of n
pub grid-below : (m n i j : ℕ) → i < m → j < n → i * n + j < m * n
grid-below m n i j h k = let rows : (i + 1) * n ≤ m * n = mul-le-mul_right n (omega arith) in omega arith

-- a grid that holds a place has a column
some_column : (m n i : ℕ) → i < m * n → 0 < n
some_column m zero i h = absurd (omega arith)
some_column m (suc n) i h = omega arith

pub grid-row : (m n i : ℕ) → i < m * n → i / n < m
grid-row m n i h = (div-lt_iff_lt-mul (some_column m n i h)).1 h

pub grid-column : (m n i : ℕ) → i < m * n → i % n < n
grid-column m n i h = let some = some_column m n i h in omega arith
