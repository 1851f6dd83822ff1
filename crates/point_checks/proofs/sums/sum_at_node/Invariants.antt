use Rattle.std.proofs.Common.{◌≡◌, ◌≤◌, ◌*◌, ◌^◌, get_or, take}
use Rattle.std.specs.List.{sum_by}
use Rattle.point_checks.proofs.sums.sum_at_node.Given as goal

abbrev pub invariant-loop-number : goal.invariant-loop-number
invariant-loop-number l = (l.sum ≡ sum_by (λ i. get_or l.flows i 0) (take l.number-index l.number-items)) × (l.sum ≤ 2 ^ 83 * l.number-index)
