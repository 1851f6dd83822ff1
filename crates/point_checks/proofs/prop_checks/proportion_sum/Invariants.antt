use Rattle.std.proofs.Common.{◌≡◌, ◌≤◌, ◌*◌, ◌^◌, get_or, take}
use Rattle.std.specs.List.{sum_by}
use Rattle.point_checks.proofs.prop_checks.proportion_sum.Given as goal

abbrev pub invariant-loop-feed : goal.invariant-loop-feed
invariant-loop-feed l = (l.sum ≡ sum_by (λ e. get_or l.proportions e 0) (take l.feed-index l.feed-items)) × (l.sum ≤ 2 ^ 32 * l.feed-index)
