use Rattle.std.proofs.Common.{refl}
use Rattle.pool_model.specs.Network.{net_of}
use Rattle.row_model.proofs.laws.worked_treatment.Goals as goal

pub returns-clause-feed_cost : goal.returns-clause-feed_cost
unfolding net_of
returns-clause-feed_cost c = refl

pub returns-clause-out_cost : goal.returns-clause-out_cost
unfolding net_of
returns-clause-out_cost c = refl

pub returns-clause-direct_cost : goal.returns-clause-direct_cost
unfolding net_of
returns-clause-direct_cost c = refl

pub returns-clause-feed_end : goal.returns-clause-feed_end
unfolding net_of
returns-clause-feed_end c = refl

pub returns-clause-path_end : goal.returns-clause-path_end
unfolding net_of
returns-clause-path_end c = refl

pub returns-clause-out_end : goal.returns-clause-out_end
unfolding net_of
returns-clause-out_end c = refl

pub returns-clause-direct_end : goal.returns-clause-direct_end
unfolding net_of
returns-clause-direct_end c = refl

pub returns-clause-limit_parts : goal.returns-clause-limit_parts
unfolding net_of
returns-clause-limit_parts c = refl

pub returns-clause-path_parts : goal.returns-clause-path_parts
unfolding net_of
returns-clause-path_parts c = refl

pub returns-clause-direct_parts : goal.returns-clause-direct_parts
unfolding net_of
returns-clause-direct_parts c = refl

pub returns-clause-mixed_parts : goal.returns-clause-mixed_parts
unfolding net_of
returns-clause-mixed_parts c = refl

pub returns-clause-mixed_direct : goal.returns-clause-mixed_direct
unfolding net_of
returns-clause-mixed_direct c = refl

pub returns-clause-priced : goal.returns-clause-priced
unfolding net_of
returns-clause-priced c = refl
