use Rattle.std.proofs.Common.{ℕ, get_or, length, subst}
use Rattle.form_plans.specs.Divisors.{IsDivisorOf}
use Rattle.form_plans.proofs.flow_divisors.flow_divisor.Goals as goal

pub returns : goal.returns
returns c = record {
  first = c.common_divisor-of_outs.result;
  of_outs = subst (λ (b : ℕ). IsDivisorOf b (λ i. get_or c.args.outs.now i 0) (length c.args.outs.now) c.common_divisor-of_outs.result) c.from.ensures c.common_divisor-of_outs.ensures;
  of_directs = c.common_divisor.ensures;
}
