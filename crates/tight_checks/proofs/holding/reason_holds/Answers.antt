use Rattle.tight_checks.proofs.holding.reason_holds.Goals as goal

pub returns-in-Coarse-clause-holds : goal.returns-in-Coarse-clause-holds
returns-in-Coarse-clause-holds c = rw c.in-Coarse.is c.is_coarse.ensures
