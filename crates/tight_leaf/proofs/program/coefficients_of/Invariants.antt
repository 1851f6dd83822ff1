use Rattle.std.proofs.Common.{◌≡◌, map, take}
use Rattle.tight_leaf.specs.Rewritten.{shown_term}
use Rattle.tight_leaf.proofs.program.coefficients_of.Given as goal

abbrev pub invariant-loop-term : goal.invariant-loop-term
invariant-loop-term l = map shown_term l.coefficients.items ≡ take l.term-index l.terms
