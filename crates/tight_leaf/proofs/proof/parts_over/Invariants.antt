use Rattle.std.proofs.Common.{◌≡◌, ℕ, ◌<◌, get_or, map, take, pos}
use Rattle.exact_num.specs.Views.{shown_frac}
use Rattle.exact_run.specs.Operations.{whole}
use Rattle.common_denominators.specs.Multiples.{IsTimes}
use Rattle.tight_leaf.proofs.proof.parts_over.Given as goal

abbrev pub invariant-loop-number : goal.invariant-loop-number
invariant-loop-number l = record {
  rows : map (λ q. q.row) l.parts.items ≡ take l.number l.rows;
  times : (i : ℕ) → i < l.number → IsTimes l.scale (get_or (map shown_frac l.values) i (whole (pos 0))) (get_or (map (λ q. q.mult) l.parts.items) i (pos 0));
}
