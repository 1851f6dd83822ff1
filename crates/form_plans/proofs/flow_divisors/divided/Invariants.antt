use Rattle.std.proofs.Common.{◌≡◌, ◌/◌, map, take}
use Rattle.form_plans.proofs.flow_divisors.divided.Given as goal

abbrev pub invariant-loop-flow : goal.invariant-loop-flow
invariant-loop-flow l = l.whole.items ≡ map (λ f. f / l.divisor) (take l.flow-index l.flows)
