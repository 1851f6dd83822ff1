use Rattle.std.proofs.Common.{◌≡◌, ◌+◌, ◌*◌, ◌^◌, ◌≤◌, pos, ◌+ℤ◌, ◌*ℤ◌, unsigned_abs, take}
use Rattle.relaxation_points.specs.Lines.{terms_value, terms_weight}
use Rattle.relaxation_points.specs.Views.{shown_point}
use Rattle.relaxation_points.proofs.sums.row_sum.Given as goal

abbrev pub invariant-loop-term : goal.invariant-loop-term
invariant-loop-term l = record {
  weight : l.weight ≡ unsigned_abs l.row.constant * l.point.base + terms_weight (shown_point l.point) (take l.term-index l.terms);
  narrow : l.weight ≤ 2 ^ 126;
  small : unsigned_abs l.sum ≤ l.weight;
  value : l.sum ≡ l.row.constant *ℤ pos l.point.base +ℤ terms_value (shown_point l.point) (take l.term-index l.terms);
}
