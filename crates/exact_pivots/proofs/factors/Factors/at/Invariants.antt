use Rattle.std.proofs.Common.{◌≡◌, length}
use Rattle.exact_pivots.specs.Entries.{factor_at}
use Rattle.exact_pivots.proofs.factors.Factors.at.Given as goal

abbrev pub invariant-loop-entry : goal.invariant-loop-entry
invariant-loop-entry l = factor_at l.rest l.column ≡ factor_at l.self.entries.items l.column

abbrev pub decreases-loop-entry : goal.decreases-loop-entry
decreases-loop-entry l = length l.rest
