use Rattle.std.proofs.Common.{ℕ, ◌<◌, get_or, None}
use Rattle.network_parts.specs.Faults.{IsInOrder}
use Rattle.network_checks.proofs.ranges.are_orderly.Given as goal

abbrev pub invariant-loop-k : goal.invariant-loop-k
invariant-loop-k l = (m : ℕ) → m < l.k → IsInOrder (get_or l.least m None) (get_or l.most m None)
