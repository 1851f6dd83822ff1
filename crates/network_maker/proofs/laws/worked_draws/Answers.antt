use Rattle.std.proofs.Common.{refl}
use Rattle.drawn_numbers.specs.Draws.{state_after}
use Rattle.network_maker.specs.Generated.{generated}
use Rattle.network_maker.proofs.laws.worked_draws.Goals as goal

pub returns-clause-state : goal.returns-clause-state
unfolding state_after
returns-clause-state c = refl

pub returns-clause-first : goal.returns-clause-first
unfolding state_after
returns-clause-first c = refl

pub returns-clause-cost : goal.returns-clause-cost
unfolding state_after generated
returns-clause-cost c = refl

pub returns-clause-qualities : goal.returns-clause-qualities
unfolding state_after generated
returns-clause-qualities c = refl

pub returns-clause-pools : goal.returns-clause-pools
unfolding state_after generated
returns-clause-pools c = refl

pub returns-clause-limits : goal.returns-clause-limits
unfolding state_after generated
returns-clause-limits c = refl
