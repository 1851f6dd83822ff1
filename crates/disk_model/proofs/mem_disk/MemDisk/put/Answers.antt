use Rattle.std.proofs.Common.{ℕ, List, length, subst}
use Rattle.disk_calls.specs.Disks.{Torn, LeavesBy}
use Rattle.disk_model.specs.MemDisks.{told_of}
use Rattle.disk_model.proofs.mem_disk.MemDisk.put.Goals as goal

pub returns-in-Ok-clause-crash : goal.returns-in-Ok-clause-crash
returns-in-Ok-clause-crash c = subst (λ (w : List ℕ). LeavesBy (Torn c.args.at (length w)) (told_of c.args.self.now) (told_of c.go.new.self)) c.in-Ok.ensures.items c.go.ensures.crash
