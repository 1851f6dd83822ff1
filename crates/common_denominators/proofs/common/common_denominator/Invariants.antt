use Rattle.std.proofs.Common.{map}
use Rattle.exact_num.specs.Views.{shown_frac}
use Rattle.common_denominators.specs.Multiples.{IsCommonBelow}
use Rattle.common_denominators.proofs.common.common_denominator.Given as goal

abbrev pub invariant-loop-fraction : goal.invariant-loop-fraction
invariant-loop-fraction l = IsCommonBelow (map shown_frac l.fractions) l.fraction-index l.common
