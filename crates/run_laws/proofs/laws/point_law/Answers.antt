use Rattle.run_laws.proofs.Points.{point-rows, point-meets}
use Rattle.run_laws.proofs.laws.point_law.Goals as goal

pub returns : goal.returns
returns c = record { rows = point-rows; meets = point-meets }
