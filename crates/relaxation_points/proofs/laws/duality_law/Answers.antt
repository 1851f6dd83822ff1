use Rattle.relaxation_points.proofs.Duality.{scale-positive, bound-cost}
use Rattle.relaxation_points.proofs.laws.duality_law.Goals as goal

pub returns : goal.returns
returns c = record { scale = scale-positive; cost = bound-cost }
