use Rattle.std.proofs.Common.{◌≡◌, ◌*◌, ◌^◌, pos, ◌*ℤ◌}
use Rattle.integers.specs.Sums.{int_sum_below}
use Rattle.pool_model.specs.Network.{net_of}
use Rattle.pool_model.specs.Starting.{reach_cost, margin}
use Rattle.network_parts.specs.Faults.{IsUpTo}
use Rattle.blend_network.proofs.network.Network.reach_bound.Given as goal

abbrev pub invariant-loop-j : goal.invariant-loop-j
invariant-loop-j l = record {
  sum : l.earned ≡ int_sum_below (λ j. pos ((net_of l.self).product_max j) *ℤ margin (reach_cost (net_of l.self) j) ((net_of l.self).price j)) l.j;
  size : IsUpTo (l.j * (4 * 10 ^ 24)) l.earned;
}
