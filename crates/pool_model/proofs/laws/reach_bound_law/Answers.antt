use Rattle.pool_model.proofs.Reach.{reach_bound-holds}
use Rattle.pool_model.proofs.laws.reach_bound_law.Goals as goal

pub returns : goal.returns
returns c = record { bound = reach_bound-holds }
