use Rattle.faults.proofs.First.{one-rank}
use Rattle.faults.proofs.first_fault_law.Goals as goal

pub returns : goal.returns
returns g c = record {
  one_rank = λ s. one-rank g.F.Ranked.rank (g.F.Ranked.Holds s);
  unique = λ apart s one other first second. apart one other (one-rank g.F.Ranked.rank (g.F.Ranked.Holds s) one other first second);
}
