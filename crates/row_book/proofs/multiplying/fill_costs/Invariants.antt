use Rattle.std.proofs.Common.{◌≡◌, ℕ, ◌^◌, ◌<◌, ◌≤◌, get_or, pos, ◌*ℤ◌, unsigned_abs}
use Rattle.pool_model.specs.Network.{net_of}
use Rattle.row_model.specs.Variables.{variables, by_number, costs}
use Rattle.row_book.proofs.multiplying.fill_costs.Given as goal

abbrev pub invariant-loop-var : goal.invariant-loop-var
invariant-loop-var l = record {
  costs : (k : ℕ) → k < l.var → get_or l.rests k (pos 0) ≡ pos l.scale *ℤ by_number (net_of l.net) (costs (net_of l.net)) k;
  small : (k : ℕ) → k < l.var → unsigned_abs (get_or l.rests k (pos 0)) ≤ 2 ^ 112;
  zero : (k : ℕ) → l.var ≤ k → k < variables (net_of l.net) → get_or l.rests k (pos 0) ≡ pos 0;
}
