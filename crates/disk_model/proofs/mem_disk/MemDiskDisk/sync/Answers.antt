use Rattle.disk_calls.proofs.Moments.{goes_on-then, nothing_new-then}
use Rattle.disk_model.specs.MemDisks.{told_of}
use Rattle.disk_model.proofs.mem_disk.MemDiskDisk.sync.Goals as goal

pub returns-clause-crash : goal.returns-clause-crash
returns-clause-crash c =
    nothing_new-then (told_of c.args.self.now) (told_of c.settle-gone.new.self) (told_of c.count.new.self) c.settle-gone.ensures.crash c.settle-gone.ensures.goes_on c.count.ensures.goes_on
    c.count.ensures.crash

pub returns-clause-goes_on : goal.returns-clause-goes_on
returns-clause-goes_on c = goes_on-then (told_of c.args.self.now) (told_of c.settle-gone.new.self) (told_of c.count.new.self) c.settle-gone.ensures.goes_on c.count.ensures.goes_on c.count.ensures.crash
