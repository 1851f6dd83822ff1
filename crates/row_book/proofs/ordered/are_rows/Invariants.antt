use Rattle.std.proofs.Common.{ℕ, ◌<◌, get_or, pos}
use Rattle.row_book.proofs.ordered.are_rows.Given as goal

abbrev pub invariant-loop-part : goal.invariant-loop-part
invariant-loop-part l = (k : ℕ) → k < l.part-index → (get_or l.proof.parts.items k record { row = 0; mult = pos 0 }).row < l.count
