use Rattle.run_laws.proofs.Solved.{solved-there, solved-one, solved-signed, solved-rest_free, solved-rest_basic, solved-number}
use Rattle.run_laws.proofs.laws.multipliers_law.Goals as goal

pub returns : goal.returns
returns c = record { there = solved-there; one = solved-one; signed = solved-signed; free = solved-rest_free; basic = solved-rest_basic; number = solved-number }
