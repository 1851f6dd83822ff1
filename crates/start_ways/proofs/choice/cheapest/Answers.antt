use Rattle.std.proofs.Common.{◌≤◌, ◌^◌, ◌*◌, ◌+◌, unsigned_abs, sym, subst}
use Rattle.std.specs.Prelude.{IfSome}
use Rattle.pool_model.specs.Network.{net_of}
use Rattle.pool_model.specs.Starting.{StartObeys, start_cost}
use Rattle.start_ways.specs.Cheapest.{IsFirstLeast}
use Rattle.start_ways.proofs.Least.{least-better, small-better}
use Rattle.start_ways.proofs.choice.cheapest.Goals as goal

pub loop-number-preserved : goal.loop-number-preserved
loop-number-preserved c =
    let n = net_of c.args.net.now in
    let k = c.loop-number.number in
    let found = c.start_cost.ensures in
    record {
      least = subst (IsFirstLeast (StartObeys n) (start_cost n) (k + 1)) (sym c.better-best.ensures)
          (least-better (StartObeys n) (start_cost n) k c.loop-number.best c.start_cost.result c.loop-number.invariant.least found.obeys found.cost found.breaks);
      size = subst (λ o. IfSome o (λ best. unsigned_abs best.cost ≤ 4 * 10 ^ 24)) (sym c.better-best.ensures)
          (small-better (λ z. unsigned_abs z ≤ 4 * 10 ^ 24) c.loop-number.best k c.start_cost.result c.loop-number.invariant.size found.size);
    }
