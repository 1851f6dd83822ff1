use Rattle.std.proofs.Common.{ℕ, suc, ◌<◌, get_or, pos}
use Rattle.row_book.proofs.ordered.is_rising.Given as goal

abbrev pub invariant-loop-i : goal.invariant-loop-i
invariant-loop-i l = (k : ℕ) → suc k < l.i → (get_or l.parts k record { row = 0; mult = pos 0 }).row < (get_or l.parts (suc k) record { row = 0; mult = pos 0 }).row
