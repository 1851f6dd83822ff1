use Rattle.branching.specs.Known.{IsNarrower}
use Rattle.branching.proofs.Greatest.{IsGreatestBelow}
use Rattle.branching.proofs.known.widest.Given as goal

abbrev pub invariant-loop-place : goal.invariant-loop-place
invariant-loop-place l = IsGreatestBelow IsNarrower l.rows l.place l.best
