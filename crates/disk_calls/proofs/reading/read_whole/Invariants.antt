use Rattle.disk_calls.proofs.Ranges.{Filled}
use Rattle.disk_calls.proofs.reading.read_whole.Given as goal

abbrev pub invariant-loop : goal.invariant-loop
invariant-loop g l = Filled (g.S.FileCalls.told l.fn.system) (g.S.FileCalls.told l.system) (g.S.FileCalls.named l.fn.system) (g.S.FileCalls.named l.system) l.at l.done l.fn.into l.into
