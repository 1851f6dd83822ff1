use Rattle.std.proofs.Common.{◌≡◌, ℕ, ◌+◌, ◌^◌, ◌<◌, ◌≤◌, pos, ◌-ℤ◌, ◌*ℤ◌, length, get_or, take}
use Rattle.pool_model.specs.Network.{net_of}
use Rattle.box_space.specs.Views.{shown_box}
use Rattle.row_book.specs.Sizes.{terms_weight, coef_in}
use Rattle.row_book.proofs.weighing.add_row.Given as goal

abbrev pub invariant-loop-term : goal.invariant-loop-term
invariant-loop-term l = record {
  weight : l.weight ≡ l.initial.weight + terms_weight (net_of l.net) (shown_box l.v) l.mult (take l.term-index l.terms);
  narrow : l.weight ≤ 2 ^ 126;
  taken : (i : ℕ) → i < length l.rests → get_or l.rests i (pos 0) ≡ get_or l.initial.rests i (pos 0) -ℤ l.mult *ℤ coef_in (take l.term-index l.terms) i;
}
