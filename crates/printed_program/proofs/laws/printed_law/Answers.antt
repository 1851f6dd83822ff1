use Rattle.row_model.specs.Boxes.{root}
use Rattle.printed_program.proofs.Whole.{the_problem}
use Rattle.printed_program.proofs.laws.printed_law.Goals as goal

pub returns : goal.returns
returns c = λ n form lim few. the_problem n record {
  limited = lim;
  few = few;
  fits = λ p ob v lt. c.ends_law.ensures.high n (root n) p v lim ob (c.root_law.ensures.holds n p lim ob) lt;
  cost = λ p. c.cost_law.ensures.cost n p lim;
  rows_p = c.rows_law.ensures.p n;
  rows_q = c.rows_law.ensures.q n;
  rows_pq = c.rows_law.ensures.pq n;
  obeys_p = λ q h. c.flows_law.ensures.p n q lim h;
  obeys_q = λ q h. c.flows_law.ensures.q n q lim h;
  point_p = λ p ob. c.lifted_law.ensures.p n p lim ob;
  point_q = λ p ob. c.lifted_law.ensures.q n p lim ob;
  point_pq = λ p ob. c.lifted_law.ensures.pq n p lim ob;
  flows_p = c.lifted_law.ensures.quality_flows n;
  flows_q = c.lifted_law.ensures.proportion_flows n;
  paths = λ q a h lt. c.bounds_law.ensures.paths n q a lim h lt;
  proportions = λ q e h lt. c.bounds_law.ensures.proportions n q e lim h lt;
} form
