use Rattle.std.proofs.Common.{◌≡◌, ℕ, ◌<◌, length, get_or, map, pos}
use Rattle.exact_num.specs.Views.{shown_frac}
use Rattle.exact_run.specs.Operations.{whole}
use Rattle.common_denominators.specs.Multiples.{IsTimes}
use Rattle.tight_leaf.proofs.point.values_over.Given as goal

abbrev pub invariant-loop-fraction : goal.invariant-loop-fraction
invariant-loop-fraction l = record {
  count : length l.values.items ≡ l.fraction-index;
  each : (i : ℕ) → i < l.fraction-index → IsTimes l.base (get_or (map shown_frac l.fractions) i (whole (pos 0))) (get_or l.values.items i (pos 0));
}
