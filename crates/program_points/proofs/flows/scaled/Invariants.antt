use Rattle.std.proofs.Common.{◌≡◌, ◌*◌, map, take}
use Rattle.program_points.proofs.flows.scaled.Given as goal

abbrev pub invariant-loop-flow : goal.invariant-loop-flow
invariant-loop-flow l = l.whole.items ≡ map (λ f. l.base * f) (take l.flow-index l.flows)
