use Rattle.std.proofs.Common.{refl}
use Rattle.pool_model.specs.Network.{net_of}
use Rattle.row_model.proofs.laws.worked_counts.Goals as goal

pub returns-clause-haverly_coordinates : goal.returns-clause-haverly_coordinates
unfolding net_of
returns-clause-haverly_coordinates c = refl

pub returns-clause-haverly_variables : goal.returns-clause-haverly_variables
unfolding net_of
returns-clause-haverly_variables c = refl

pub returns-clause-haverly_rows : goal.returns-clause-haverly_rows
unfolding net_of
returns-clause-haverly_rows c = refl

pub returns-clause-one_source_rows : goal.returns-clause-one_source_rows
unfolding net_of
returns-clause-one_source_rows c = refl
