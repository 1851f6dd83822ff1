-- Counts over several steps.
use Rattle.std.proofs.Common.{ℕ, inl, inr, arith}
use Rattle.edge_io.specs.Counts.{Grows, Rose}

-- nothing happened
pub grows-same : (a : ℕ) → Grows a a
grows-same a = record { grown = omega arith; within = λ h. h }

-- one step after another
pub grows-then : (a b c : ℕ) → Grows a b → Grows b c → Grows a c
grows-then a b c h k = record { grown = omega (arith, h.grown, k.grown); within = λ l. k.within (h.within l) }

-- a count that rises in the last step has risen
pub rose-behind : (a b c : ℕ) → Grows a b → Rose b c → Rose a c
rose-behind a b c h (inl k) = inl (omega (arith, h.grown, k))
rose-behind a b c h (inr k) = inr k
