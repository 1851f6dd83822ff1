use Rattle.std.proofs.Common.{refl}
use Rattle.pool_model.specs.Network.{net_of}
use Rattle.pool_model.proofs.Decision.{breaks}
use Rattle.pool_model.proofs.worked.worked_rules.Goals as goal

pub returns-clause-quality_over : goal.returns-clause-quality_over
unfolding net_of
returns-clause-quality_over c = breaks _ _ refl

pub returns-clause-quality_under : goal.returns-clause-quality_under
unfolding net_of
returns-clause-quality_under c = breaks _ _ refl
