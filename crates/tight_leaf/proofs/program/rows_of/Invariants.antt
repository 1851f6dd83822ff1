use Rattle.std.proofs.Common.{take}
use Rattle.tight_leaf.specs.Rewritten.{AreRowsOf}
use Rattle.tight_leaf.proofs.program.rows_of.Given as goal

abbrev pub invariant-loop-row : goal.invariant-loop-row
invariant-loop-row l = AreRowsOf (take l.row-index l.rows) l.bounded.items
