use Rattle.std.proofs.Common.{◌≡◌, ℕ, ◌<◌, length, get_or, map, pos}
use Rattle.exact_num.specs.Views.{shown_frac}
use Rattle.exact_run.specs.Operations.{whole}
use Rattle.exact_run.specs.Programs.{end_value}
use Rattle.exact_pivots.specs.Views.{program_of, stands_at, state_of}
use Rattle.tight_leaf.proofs.Values.{AreTo}
use Rattle.tight_leaf.proofs.point.values.Given as goal

abbrev pub invariant-loop-variable : goal.invariant-loop-variable
invariant-loop-variable l = record {
  count : length l.values.items ≡ l.variable;
  each : (v : ℕ) → v < l.variable → get_or (map shown_frac l.values.items) v (whole (pos 0)) ≡ whole (end_value (program_of l.program) v (stands_at l.tableau.stands.items v));
}

abbrev pub invariant-loop-place : goal.invariant-loop-place
invariant-loop-place l = AreTo (program_of l.program) (state_of l.tableau) l.place (map shown_frac l.values.items)
