use Rattle.program_model.proofs.FormQ.{point_of_q-point_of_pq}
use Rattle.program_model.proofs.laws.further_rows_law.Goals as goal

pub returns : goal.returns
returns c = point_of_q-point_of_pq
