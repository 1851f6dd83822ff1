use Rattle.std.proofs.Common.{◌≡◌, ℕ, ◌<◌, length, get_or, pos}
use Rattle.pool_model.specs.Network.{net_of}
use Rattle.row_model.specs.Boxes.{root}
use Rattle.box_space.proofs.root.root_box.Given as goal

abbrev pub invariant-loop-n : goal.invariant-loop-n
invariant-loop-n l = record {
  lows : length l.low.items ≡ l.n;
  highs : length l.high.items ≡ l.n;
  low : (c : ℕ) → c < l.n → get_or l.low.items c (pos 0) ≡ (root (net_of l.net)).low c;
  high : (c : ℕ) → c < l.n → get_or l.high.items c (pos 0) ≡ (root (net_of l.net)).high c;
}
