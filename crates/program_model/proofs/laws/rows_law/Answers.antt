use Rattle.program_model.proofs.ExactRows.{point_of_p-solves, point_of_q-solves, point_of_pq-solves}
use Rattle.program_model.proofs.RowsBack.{solves-point_of_p, solves-point_of_q, solves-point_of_pq}
use Rattle.program_model.proofs.laws.rows_law.Goals as goal

pub returns : goal.returns
returns c = record {
  p = λ n q. (point_of_p-solves n q, solves-point_of_p n q);
  q = λ n q. (point_of_q-solves n q, solves-point_of_q n q);
  pq = λ n q. (point_of_pq-solves n q, solves-point_of_pq n q);
}
