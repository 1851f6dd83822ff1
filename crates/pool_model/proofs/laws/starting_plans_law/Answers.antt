use Rattle.pool_model.proofs.Starts.{zero-written, zero-obeys, zero-minima, zero-cost, direct-written, direct-obeys, direct-minima, direct-cost}
use Rattle.pool_model.proofs.PathStarts.{path-written, path-obeys, path-minima, path-cost}
use Rattle.pool_model.proofs.StartOrder.{start_at-starting, start_at-every}
use Rattle.pool_model.proofs.laws.starting_plans_law.Goals as goal

pub returns : goal.returns
returns c = record {
  zero_written = zero-written;
  zero_obeys = λ n. (zero-minima n, zero-obeys n);
  zero_cost = zero-cost;
  path_written = path-written;
  path_obeys = λ n e o way pool. (path-minima n e o way pool, λ meets. path-obeys n e o meets way pool);
  path_cost = path-cost;
  direct_written = direct-written;
  direct_obeys = λ n e there. (direct-minima n e there, λ meets. direct-obeys n e meets there);
  direct_cost = direct-cost;
  each = start_at-starting;
  every = start_at-every;
}
