use Rattle.program_model.proofs.FormP.{point_of_p-obeys}
use Rattle.program_model.proofs.FormQ.{point_of_q-obeys}
use Rattle.program_model.proofs.laws.flows_law.Goals as goal

pub returns : goal.returns
returns c = record { p = point_of_p-obeys; q = point_of_q-obeys; pq = λ n q lim h. point_of_q-obeys n q lim h.of_q }
