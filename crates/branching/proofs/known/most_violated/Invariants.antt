use Rattle.branching.specs.Known.{IsLessMissed}
use Rattle.branching.proofs.Greatest.{IsGreatestBelow}
use Rattle.branching.proofs.known.most_violated.Given as goal

abbrev pub invariant-loop-place : goal.invariant-loop-place
invariant-loop-place l = IsGreatestBelow IsLessMissed l.rows l.place l.best
