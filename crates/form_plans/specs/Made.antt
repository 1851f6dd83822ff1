-- The plan that is made of flows and weights.
use Rattle.std.specs.Prelude.{◌≡◌, ℕ, ◌/◌, List, map}
use Rattle.pool_model.specs.Plan.{Written}
use Rattle.point_checks.specs.declared.flows.Flows.{Flows}

-- the lists of a written plan: weights over a base, and flows over a divisor
pub record IsMade (f : Flows) (g parts : ℕ) (weights : List ℕ) (w : Written) : Type 0 where
  pub base : w.base ≡ parts
  pub flow_base : w.flow_base ≡ f.base / g
  pub weights_are : w.weights ≡ weights
  pub outflows : w.outflows ≡ map (λ x. x / g) f.outs.now
  pub direct : w.direct ≡ map (λ x. x / g) f.directs.now
