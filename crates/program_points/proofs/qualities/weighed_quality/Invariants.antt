use Rattle.std.proofs.Common.{◌≡◌, ◌≤◌, ◌*◌, ◌^◌, pos, ◌*ℤ◌, unsigned_abs, get_or, take}
use Rattle.integers.specs.Sums.{int_sum_by}
use Rattle.pool_model.specs.Network.{net_of}
use Rattle.program_points.proofs.qualities.weighed_quality.Given as goal

abbrev pub invariant-loop-feed : goal.invariant-loop-feed
invariant-loop-feed l =
    (l.sum ≡ int_sum_by (λ e. (net_of l.net).source_quality ((net_of l.net).feed_source e) l.quality *ℤ pos (get_or l.weights e 0)) (take l.feed-index l.feed-items))
    × (unsigned_abs l.sum ≤ 2 ^ 95 * l.feed-index)
