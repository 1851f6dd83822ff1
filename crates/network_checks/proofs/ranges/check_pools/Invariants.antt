use Rattle.std.proofs.Common.{ℕ, ◌<◌, map, get_or}
use Rattle.network_parts.specs.Parts.{pool_row}
use Rattle.network_parts.specs.Faults.{IsPoolInRange, no_pool_row}
use Rattle.network_checks.proofs.ranges.check_pools.Given as goal

abbrev pub invariant-loop-n : goal.invariant-loop-n
invariant-loop-n l = (m : ℕ) → m < l.n → IsPoolInRange (get_or (map pool_row l.rows) m no_pool_row)
