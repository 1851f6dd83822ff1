use Rattle.pool_model.proofs.Paths.{paths_of-each, paths_of-every, paths_of-rise}
use Rattle.pool_model.proofs.laws.paths_law.Goals as goal

pub returns : goal.returns
returns c = record {
  each = paths_of-each;
  every = paths_of-every;
  in_order = paths_of-rise;
}
