use Rattle.std.proofs.Common.{length}
use Rattle.disk_calls.specs.Disks.{Torn}
use Rattle.disk_calls.proofs.Moments.{goes_on-then, leaves_by-then}
use Rattle.disk_model.specs.MemDisks.{told_of}
use Rattle.disk_model.proofs.mem_disk.MemDiskDisk.write_at.Goals as goal

pub returns-clause-crash : goal.returns-clause-crash
returns-clause-crash c =
    leaves_by-then (Torn c.args.at (length c.args.bytes.now)) (told_of c.args.self.now) (told_of c.put-gone.new.self) (told_of c.count.new.self) c.put-gone.ensures.crash c.put-gone.ensures.goes_on c.count.ensures.goes_on c.count.ensures.crash

pub returns-clause-goes_on : goal.returns-clause-goes_on
returns-clause-goes_on c = goes_on-then (told_of c.args.self.now) (told_of c.put-gone.new.self) (told_of c.count.new.self) c.put-gone.ensures.goes_on c.count.ensures.goes_on c.count.ensures.crash
