use Rattle.tight_checks.proofs.Following.{best-text, plans-text}
use Rattle.tight_checks.proofs.laws.holding_law.Goals as goal

pub returns : goal.returns
returns c = record {
  plans = λ n tree text limited is holds. plans-text n tree text holds limited (λ p obeys. c.leaves_law.ensures.held n tree holds.leaves.leaves p limited is holds.leaves.are obeys);
  best = λ n tree text holds. best-text n tree text holds;
}
