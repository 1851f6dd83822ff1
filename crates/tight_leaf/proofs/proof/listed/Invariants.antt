use Rattle.std.proofs.Common.{map, take}
use Rattle.exact_num.specs.Views.{shown_frac}
use Rattle.exact_pivots.specs.Factors.{factors_of}
use Rattle.tight_leaf.proofs.Places.{IsListed}
use Rattle.tight_leaf.proofs.proof.listed.Given as goal

abbrev pub invariant-loop-entry : goal.invariant-loop-entry
invariant-loop-entry l = IsListed l.leaf.rows.items l.first l.negated (factors_of l.factors) (take l.entry-index l.entry-items) l.rows.items (map shown_frac l.values.items)
