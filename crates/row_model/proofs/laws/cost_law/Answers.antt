use Rattle.row_model.proofs.PointCost.{point-cost}
use Rattle.row_model.proofs.laws.cost_law.Goals as goal

pub returns : goal.returns
returns c = record { cost = point-cost }
