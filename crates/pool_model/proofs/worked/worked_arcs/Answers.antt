use Rattle.std.proofs.Common.{refl}
use Rattle.pool_model.specs.Network.{net_of}
use Rattle.pool_model.proofs.Decision.{breaks}
use Rattle.pool_model.proofs.worked.worked_arcs.Goals as goal

pub returns-clause-feed_over : goal.returns-clause-feed_over
unfolding net_of
returns-clause-feed_over c = breaks _ _ refl

pub returns-clause-out_over : goal.returns-clause-out_over
unfolding net_of
returns-clause-out_over c = breaks _ _ refl

pub returns-clause-direct_over : goal.returns-clause-direct_over
unfolding net_of
returns-clause-direct_over c = breaks _ _ refl

pub returns-clause-half_over : goal.returns-clause-half_over
unfolding net_of
returns-clause-half_over c = breaks _ _ refl

pub returns-clause-treated_over : goal.returns-clause-treated_over
unfolding net_of
returns-clause-treated_over c = breaks _ _ refl
