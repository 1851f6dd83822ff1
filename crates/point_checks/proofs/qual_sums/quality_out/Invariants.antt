use Rattle.std.proofs.Common.{◌≡◌, ◌≤◌, ◌*◌, ◌^◌, pos, unsigned_abs, take}
use Rattle.std.specs.List.{sum_by}
use Rattle.integers.specs.Sums.{int_sum_by}
use Rattle.pool_model.specs.Network.{net_of}
use Rattle.point_checks.specs.QualSlices.{seen}
use Rattle.point_checks.proofs.qual_sums.quality_out.Given as goal

abbrev pub invariant-loop-out : goal.invariant-loop-out
invariant-loop-out l = record {
  sum : l.sum ≡ int_sum_by (λ o. (seen (net_of l.net) l.point).mixed o l.quality) (take l.out-index l.out-items);
  size : unsigned_abs l.sum ≤ 10 ^ 11 * sum_by (seen (net_of l.net) l.point).out (take l.out-index l.out-items);
}
