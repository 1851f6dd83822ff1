use Rattle.pool_model.proofs.ArcCosts.{carriage-by_number, keeps-by_number, by_number-keeps, cost-by_arcs}
use Rattle.pool_model.proofs.laws.arcs_law.Goals as goal

pub returns : goal.returns
returns c = record {
  carriage = carriage-by_number;
  maxima = λ n p. (keeps-by_number n p, by_number-keeps n p);
  cost = cost-by_arcs;
}
