use Rattle.std.proofs.Common.{ℕ, ◌<◌, map, get_or}
use Rattle.network_parts.specs.Parts.{source_row}
use Rattle.network_parts.specs.Faults.{IsSourceInRange, no_source_row}
use Rattle.network_checks.proofs.ranges.check_sources.Given as goal

abbrev pub invariant-loop-n : goal.invariant-loop-n
invariant-loop-n l = (m : ℕ) → m < l.n → IsSourceInRange (get_or (map source_row l.rows) m no_source_row)
