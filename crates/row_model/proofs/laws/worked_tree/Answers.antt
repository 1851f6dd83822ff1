use Rattle.std.proofs.Common.{refl}
use Rattle.pool_model.specs.Network.{net_of}
use Rattle.row_model.proofs.laws.worked_tree.Goals as goal

pub returns-clause-lower_left : goal.returns-clause-lower_left
unfolding net_of
returns-clause-lower_left c = refl

pub returns-clause-lower_right : goal.returns-clause-lower_right
unfolding net_of
returns-clause-lower_right c = refl

pub returns-clause-upper : goal.returns-clause-upper
unfolding net_of
returns-clause-upper c = refl

pub returns-clause-whole : goal.returns-clause-whole
unfolding net_of
returns-clause-whole c = refl
