use Rattle.std.proofs.Common.{◌≡◌, ℕ, ◌<◌, length}
use Rattle.exact_pivots.specs.Views.{program_of, line_at, stands_at}
use Rattle.exact_pivots.specs.Starts.{IsFirstLine}
use Rattle.exact_pivots.proofs.start.first_lines.Given as goal

abbrev pub invariant-loop-row : goal.invariant-loop-row
invariant-loop-row l = (length l.lines.items ≡ l.row) × ((r : ℕ) → r < l.row → IsFirstLine (program_of l.program) (stands_at l.stands) r (line_at l.lines.items r))
