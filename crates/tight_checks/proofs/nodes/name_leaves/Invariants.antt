use Rattle.tight_checks.proofs.NodesNamed.{NameBelow}
use Rattle.tight_checks.proofs.nodes.name_leaves.Given as goal

abbrev pub invariant-loop-i : goal.invariant-loop-i
invariant-loop-i l = NameBelow l.lines l.leaves l.i
