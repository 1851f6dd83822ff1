use Rattle.std.proofs.Common.{refl}
use Rattle.pool_model.specs.Network.{net_of}
use Rattle.row_model.proofs.laws.worked_multipliers.Goals as goal

pub returns-clause-haverly_nothing : goal.returns-clause-haverly_nothing
unfolding net_of
returns-clause-haverly_nothing c = refl

pub returns-clause-haverly_maximum : goal.returns-clause-haverly_maximum
unfolding net_of
returns-clause-haverly_maximum c = refl

pub returns-clause-few_proportions : goal.returns-clause-few_proportions
unfolding net_of
returns-clause-few_proportions c = refl

pub returns-clause-second_side : goal.returns-clause-second_side
returns-clause-second_side c = refl
