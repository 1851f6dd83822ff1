use Rattle.run_laws.proofs.Empty.{empty-there, empty-one, empty-signed, empty-number}
use Rattle.run_laws.proofs.laws.empty_law.Goals as goal

pub returns : goal.returns
returns c = record { there = empty-there; one = empty-one; signed = empty-signed; number = empty-number }
