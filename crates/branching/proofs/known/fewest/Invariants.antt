use Rattle.branching.specs.Known.{IsMoreCut}
use Rattle.branching.proofs.Greatest.{IsGreatestBelow}
use Rattle.branching.proofs.known.fewest.Given as goal

abbrev pub invariant-loop-place : goal.invariant-loop-place
invariant-loop-place l = IsGreatestBelow IsMoreCut l.rows l.place l.best
