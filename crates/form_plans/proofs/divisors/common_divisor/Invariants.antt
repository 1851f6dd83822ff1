use Rattle.std.proofs.Common.{get_or}
use Rattle.form_plans.specs.Divisors.{IsDivisorOf}
use Rattle.form_plans.proofs.divisors.common_divisor.Given as goal

abbrev pub invariant-loop-part : goal.invariant-loop-part
invariant-loop-part l = IsDivisorOf l.start (λ i. get_or l.parts i 0) l.part-index l.divisor
