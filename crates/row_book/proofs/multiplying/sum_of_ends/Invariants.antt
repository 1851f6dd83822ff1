use Rattle.std.proofs.Common.{◌≡◌, pos, ◌*ℤ◌, get_or}
use Rattle.std.specs.Int.{int_min}
use Rattle.integers.specs.Sums.{int_sum_below}
use Rattle.pool_model.specs.Network.{net_of}
use Rattle.row_model.specs.Variables.{by_number, lows, highs}
use Rattle.box_space.specs.Views.{shown_box}
use Rattle.row_book.proofs.multiplying.sum_of_ends.Given as goal

abbrev pub invariant-loop-var : goal.invariant-loop-var
invariant-loop-var l =
    l.total ≡ int_sum_below
    (λ i. int_min (get_or l.rests i (pos 0) *ℤ by_number (net_of l.net) (lows (net_of l.net) (shown_box l.v)) i)
    (get_or l.rests i (pos 0) *ℤ by_number (net_of l.net) (highs (net_of l.net) (shown_box l.v)) i)) l.var
