use Rattle.std.proofs.Common.{◌≡◌, ℕ, ◌<◌, get_or, pos}
use Rattle.pool_model.specs.Network.{net_of}
use Rattle.row_model.specs.Variables.{by_number, lows, highs}
use Rattle.box_space.specs.Views.{shown_box}
use Rattle.dual_rounding.proofs.program.write_ends.Given as goal

abbrev pub invariant-loop-var : goal.invariant-loop-var
invariant-loop-var l = record {
  low : (k : ℕ) → k < l.var → get_or l.least k (pos 0) ≡ by_number (net_of l.net) (lows (net_of l.net) (shown_box l.v)) k;
  high : (k : ℕ) → k < l.var → get_or l.greatest k (pos 0) ≡ by_number (net_of l.net) (highs (net_of l.net) (shown_box l.v)) k;
}
