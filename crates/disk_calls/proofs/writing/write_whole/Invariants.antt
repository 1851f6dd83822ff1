use Rattle.disk_calls.proofs.Ranges.{Put}
use Rattle.disk_calls.proofs.writing.write_whole.Given as goal

abbrev pub invariant-loop : goal.invariant-loop
invariant-loop g l = Put (g.S.FileCalls.told l.fn.system) (g.S.FileCalls.told l.system) (g.S.FileCalls.named l.fn.system) (g.S.FileCalls.named l.system) l.at l.done l.bytes
