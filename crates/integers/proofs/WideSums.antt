-- Sums that code adds up in 128 bits, one term at a time.
use Rattle.std.proofs.Common.{◌≡◌, ℕ, ◌+◌, ◌*◌, ◌<◌, ◌≤◌, ◌^◌, List, length, get_or, take, ℤ, ◌+ℤ◌, unsigned_abs, arith, ap}
use Rattle.std.proofs.lemmas.Int.{ints}
use mir.Syntax.{w128}
use mir.Val.{to_z, of_z}
use Rattle.integers.specs.Sums.{int_sum_by}
use Rattle.integers.proofs.ByList.{int_sum_by_more}
use Rattle.integers.proofs.Ring.{additive}

-- a small number is read as it was written
pub read_wide : (x : ℤ) (a : ℕ) → unsigned_abs x ≤ a → a ≤ 2 ^ 126 → to_z w128 (of_z w128 x) ≡ x
read_wide x a h k = omega (arith, ints)

pub read-small : (x : ℤ) (a : ℕ) → unsigned_abs x ≤ a → a ≤ 2 ^ 126 → unsigned_abs (to_z w128 (of_z w128 x)) ≤ a
read-small x a h k = omega (arith, ap unsigned_abs (read_wide x a h k))

-- one part more
pub added : (s p : ℤ) (a : ℕ) → unsigned_abs s ≤ a → a ≤ 2 ^ 126 → unsigned_abs p ≤ 2 ^ 122 → to_z w128 (of_z w128 (s +ℤ to_z w128 (of_z w128 p))) ≡ s +ℤ p
added s p a h k l = omega (arith, ints)

pub added-small : (s p : ℤ) (m i : ℕ) → unsigned_abs s ≤ m * i → unsigned_abs p ≤ m → unsigned_abs (s +ℤ p) ≤ m * (i + 1)
added-small s p m i h k = omega (arith, ints)

-- one term more
pub term-more : (f : ℕ → ℤ) (xs : List ℕ) (i : ℕ) (s p : ℤ) → i < length xs → s ≡ int_sum_by f (take i xs) → p ≡ f (get_or xs i 0) → s +ℤ p ≡ int_sum_by f (take (i + 1) xs)
term-more f xs i s p lt e g = omega (arith, additive, int_sum_by_more f xs i 0 lt, e, g)
