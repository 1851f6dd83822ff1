use Rattle.std.proofs.Common.{◌≡◌, map, take}
use Rattle.tight_leaf.proofs.program.numbers_of.Given as goal

abbrev pub invariant-loop-row : goal.invariant-loop-row
invariant-loop-row l = l.numbers.items ≡ map (λ r. r.id) (take l.row-index l.rows)
