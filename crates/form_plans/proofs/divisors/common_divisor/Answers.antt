use Rattle.std.proofs.Common.{ℕ, get_or, subst, arith, length, ◌≡◌}
use Rattle.form_plans.specs.Divisors.{IsDivisorOf}
use Rattle.form_plans.proofs.CommonDivisors.{divisor-none, divisor-more}
use Rattle.form_plans.proofs.divisors.common_divisor.Goals as goal

pub loop-part-init : goal.loop-part-init
loop-part-init c = divisor-none c.args.start (λ (i : ℕ). get_or c.args.parts.now i 0)

pub loop-part-preserved : goal.loop-part-preserved
loop-part-preserved c =
    divisor-more c.args.start (λ (i : ℕ). get_or c.args.parts.now i 0) c.loop-part.part-index c.loop-part.divisor c.gcd-divisor.result
    (c.loop-part.invariant.positive c.requires) c.loop-part.invariant c.gcd-divisor.ensures

pub returns : goal.returns
returns c =
    let whole : c.loop-part.part-index ≡ length c.args.parts.now = omega arith in
    subst (λ (k : ℕ). IsDivisorOf c.args.start (λ (i : ℕ). get_or c.args.parts.now i 0) k c.loop-part.divisor) whole c.loop-part.invariant
