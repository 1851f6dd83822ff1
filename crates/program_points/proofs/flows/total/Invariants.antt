use Rattle.std.proofs.Common.{◌≡◌, ◌≤◌, ◌*◌, ◌^◌, get_or, take}
use Rattle.std.specs.List.{sum_by}
use Rattle.program_points.proofs.flows.total.Given as goal

abbrev pub invariant-loop-out : goal.invariant-loop-out
invariant-loop-out l = (l.sum ≡ sum_by (λ o. get_or l.outflows o 0) (take l.out-index l.outs)) × (l.sum ≤ 2 ^ 64 * l.out-index)
