use Rattle.pool_model.specs.Network.{net_of}
use Rattle.tight_checks.specs.Judging.{HasRoom}
use Rattle.tight_checks.proofs.Judged.{AreJudgedTo}
use Rattle.tight_checks.proofs.judging.MarkJudge.least_bound.Given as goal

abbrev pub invariant-loop-i : goal.invariant-loop-i
invariant-loop-i l = HasRoom (net_of l.net) l.self × AreJudgedTo (net_of l.net) l.found l.text l.i l.least
