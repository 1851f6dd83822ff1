use Rattle.std.proofs.Common.{ℕ, ◌<◌, map, get_or}
use Rattle.network_parts.specs.Parts.{arc_row}
use Rattle.network_parts.specs.Faults.{IsArcInRange, no_arc_row}
use Rattle.network_checks.proofs.ranges.check_carriage.Given as goal

abbrev pub invariant-loop-n : goal.invariant-loop-n
invariant-loop-n l = (m : ℕ) → m < l.n → IsArcInRange (get_or (map arc_row l.rows) m no_arc_row)
