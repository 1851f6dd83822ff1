use Rattle.std.proofs.Common.{Some, ap, sym}
use Rattle.disk_model.specs.Images.{reads-image}
use Rattle.disk_model.specs.MemDisks.{bytes_of}
use Rattle.disk_model.proofs.Calls.{same_bytes}
use Rattle.disk_model.proofs.mem_disk.MemDisk.hold.Goals as goal

pub returns-clause-opens : goal.returns-clause-opens
returns-clause-opens c = record {
  file = bytes_of c.args.self.now;
  image = reads-image c.args.self.now.start.items c.args.self.now.steps.items (bytes_of c.args.self.now) (sym c.args.self.now.follows);
  read = ap Some (same_bytes c.args.self.now c.count.new.self c.count.ensures.same_file);
}
