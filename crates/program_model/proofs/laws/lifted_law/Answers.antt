use Rattle.program_model.specs.Lifted.{factors, proportion_point}
use Rattle.program_model.proofs.FormP.{lifted-point_of_p}
use Rattle.program_model.proofs.FormQ.{lifted-point_of_q, point_of_q-point_of_pq}
use Rattle.program_model.proofs.LiftedPlaces.{lift-by_qualities, lift-by_proportions}
use Rattle.program_model.proofs.Scaled.{same_flows-scaled, same_cost-scaled}
use Rattle.program_model.proofs.laws.lifted_law.Goals as goal

pub returns : goal.returns
returns c = record {
  p = lifted-point_of_p;
  q = lifted-point_of_q;
  pq = λ n p lim o. point_of_q-point_of_pq n (proportion_point n p) lim (lifted-point_of_q n p lim o);
  quality_lift = lift-by_qualities;
  quality_flows = λ n p. same_flows-scaled n (factors n p) p;
  quality_cost = λ n p. same_cost-scaled n (factors n p) p;
  proportion_lift = lift-by_proportions;
  proportion_flows = λ n p. same_flows-scaled n (factors n p) p;
  proportion_cost = λ n p. same_cost-scaled n (factors n p) p;
}
