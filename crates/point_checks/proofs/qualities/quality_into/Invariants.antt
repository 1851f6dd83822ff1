use Rattle.std.proofs.Common.{◌≡◌, ◌≤◌, ◌*◌, pos, ◌*ℤ◌, unsigned_abs, get_or, take}
use Rattle.std.specs.List.{sum_by}
use Rattle.integers.specs.Sums.{int_sum_by}
use Rattle.pool_model.specs.Network.{net_of}
use Rattle.point_checks.specs.Qualities.{most_by, quality_by}
use Rattle.point_checks.proofs.qualities.quality_into.Given as goal

abbrev pub invariant-loop-number : goal.invariant-loop-number
invariant-loop-number l = record {
  sum : l.sum ≡ int_sum_by (λ i. quality_by (net_of l.net) l.by i l.quality *ℤ pos (get_or l.flows i 0)) (take l.number-index l.number-items);
  size : unsigned_abs l.sum ≤ most_by l.by * sum_by (λ i. get_or l.flows i 0) (take l.number-index l.number-items);
}
