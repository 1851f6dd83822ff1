use Rattle.relaxation_points.proofs.Duality.{witness-some, witness-best}
use Rattle.relaxation_points.proofs.laws.witness_law.Goals as goal

pub returns : goal.returns
returns c = record { holds_one = witness-some; best = witness-best }
