use Rattle.std.proofs.Common.{refl}
use Rattle.pool_model.specs.Network.{net_of}
use Rattle.pool_model.specs.Worked.{shared_breaking, shared_obeying}
use Rattle.pool_model.proofs.Decision.{all_break, all_obey, breaks}
use Rattle.pool_model.proofs.worked.worked_plans.Goals as goal

pub returns-clause-haverly_mixed : goal.returns-clause-haverly_mixed
unfolding net_of
returns-clause-haverly_mixed c = breaks _ _ refl

pub returns-clause-shared_obey : goal.returns-clause-shared_obey
unfolding net_of
returns-clause-shared_obey c = all_obey _ shared_obeying refl

pub returns-clause-shared_break : goal.returns-clause-shared_break
unfolding net_of
returns-clause-shared_break c = all_break _ shared_breaking refl

pub returns-clause-desulfured_over : goal.returns-clause-desulfured_over
unfolding net_of
returns-clause-desulfured_over c = breaks _ _ refl

pub returns-clause-desulfured_less : goal.returns-clause-desulfured_less
unfolding net_of
returns-clause-desulfured_less c = breaks _ _ refl
