-- The numbers that are drawn from a seed: a linear congruential generator on 64 bits.
use Rattle.std.specs.Prelude.{ℕ, zero, suc, ◌+◌, ◌*◌, ◌/◌, ◌%◌, ◌^◌, List}
use Rattle.integers.specs.Numbers.{tabulate}

-- the state that follows a state
abbrev pub next : ℕ → ℕ
next s = (s * 6364136223846793005 + 1442695040888963407) % 2 ^ 64

-- the state after so many draws
unfoldable pub state_after : ℕ → ℕ → ℕ
state_after s zero = s
state_after s (suc n) = next (state_after s n)

-- what a state gives as a number below m: the rest of its upper 31 bits
abbrev pub drawn : ℕ → ℕ → ℕ
drawn s m = s / 2 ^ 33 % m

-- the n-th number that is drawn from a state, from 0, where it is drawn below m
abbrev pub draw : ℕ → ℕ → ℕ → ℕ
draw s n m = drawn (state_after s (suc n)) m

-- so many numbers below m, drawn from a state one after another
abbrev pub draws : ℕ → ℕ → ℕ → List ℕ
draws s m n = tabulate (λ i. draw s i m) n
