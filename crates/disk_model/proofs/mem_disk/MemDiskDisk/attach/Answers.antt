use Rattle.std.proofs.Common.{Some, ap, sym, ◌∙◌}
use Rattle.disk_model.specs.Images.{reads-image}
use Rattle.disk_model.specs.MemDisks.{bytes_of}
use Rattle.disk_model.proofs.Calls.{same_bytes, same_file-then}
use Rattle.disk_model.proofs.mem_disk.MemDiskDisk.attach.Goals as goal

pub returns-clause-open : goal.returns-clause-open
returns-clause-open c =
    let same = same_file-then c.args.self.now c.note-noted.new.self c.count.new.self c.note-noted.ensures.same_file c.count.ensures.same_file in
    record {
      file = bytes_of c.args.self.now;
      image = reads-image c.args.self.now.start.items c.args.self.now.steps.items (bytes_of c.args.self.now) (sym c.args.self.now.follows);
      read = ap Some (same_bytes c.args.self.now c.count.new.self same);
      noted = c.count.ensures.goes_on.same_disk.same_attached ∙ c.note-noted.ensures.noted c.in_ok-count.ensures.worked;
    }
