use Rattle.std.proofs.Common.{◌≡◌, ◌*◌, ◌^◌, ◌≤◌, ◌*ℤ◌, unsigned_abs}
use Rattle.integers.specs.Sums.{int_sum_below, sum_below}
use Rattle.pool_model.specs.Network.{net_of}
use Rattle.row_model.specs.Variables.{by_number, costs}
use Rattle.relaxation_points.specs.Views.{shown_point}
use Rattle.relaxation_points.proofs.sums.cost_sum.Given as goal

abbrev pub invariant-loop-var : goal.invariant-loop-var
invariant-loop-var l = record {
  weight : l.weight ≡ sum_below (λ v. unsigned_abs (by_number (net_of l.net) (costs (net_of l.net)) v) * unsigned_abs ((shown_point l.point).value v)) l.var;
  narrow : l.weight ≤ 2 ^ 126;
  small : unsigned_abs l.sum ≤ l.weight;
  value : l.sum ≡ int_sum_below (λ v. by_number (net_of l.net) (costs (net_of l.net)) v *ℤ (shown_point l.point).value v) l.var;
}
