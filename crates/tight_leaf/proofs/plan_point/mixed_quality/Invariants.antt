use Rattle.std.proofs.Common.{◌≡◌, ◌≤◌, ◌*◌, ◌^◌, pos, ◌*ℤ◌, unsigned_abs, take}
use Rattle.integers.specs.Sums.{int_sum_by}
use Rattle.pool_model.specs.Network.{net_of}
use Rattle.plan_core.specs.Views.{shown_plan}
use Rattle.tight_leaf.specs.PlanPoints.{share_of}
use Rattle.tight_leaf.proofs.plan_point.mixed_quality.Given as goal

abbrev pub invariant-loop-feed : goal.invariant-loop-feed
invariant-loop-feed l =
    (l.sum ≡ int_sum_by (λ e. (net_of l.net).source_quality ((net_of l.net).feed_source e) l.quality *ℤ pos (share_of (net_of l.net) (shown_plan l.plan) e)) (take l.feed-index l.feed-items))
    × (unsigned_abs l.sum ≤ 2 ^ 57 * l.feed-index)
