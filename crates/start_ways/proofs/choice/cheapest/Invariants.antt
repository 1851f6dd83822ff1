use Rattle.std.proofs.Common.{◌≤◌, ◌^◌, ◌*◌, unsigned_abs}
use Rattle.std.specs.Prelude.{IfSome}
use Rattle.pool_model.specs.Network.{net_of}
use Rattle.pool_model.specs.Starting.{StartObeys, start_cost}
use Rattle.start_ways.specs.Cheapest.{IsFirstLeast}
use Rattle.start_ways.proofs.choice.cheapest.Given as goal

abbrev pub invariant-loop-number : goal.invariant-loop-number
invariant-loop-number l = record {
  least : IsFirstLeast (StartObeys (net_of l.net)) (start_cost (net_of l.net)) l.number l.best;
  size : IfSome l.best (λ best. unsigned_abs best.cost ≤ 4 * 10 ^ 24);
}
