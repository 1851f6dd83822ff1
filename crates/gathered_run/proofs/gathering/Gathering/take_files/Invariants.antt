use Rattle.std.proofs.Common.{◌≡◌, length}
use Rattle.std.specs.Prelude.{IsTrue}
use Rattle.disk_calls.specs.Disks.{IsSameDisk}
use Rattle.pool_model.specs.Network.{net_of}
use Rattle.node_journal.specs.Journals.{IsLeft}
use Rattle.gathered_run.specs.Files.{items_of}
use Rattle.gathered_run.specs.Steps.{IsReady, AreTaken}
use Rattle.gathered_run.proofs.gathering.Gathering.take_files.Given as goal

abbrev pub invariant-loop-file : goal.invariant-loop-file
invariant-loop-file g l = record {
  ready : IsReady (net_of l.net) l.self;
  left : IsTrue (g.D.Disk.told l.disk).tells → IsLeft l.self.journal (g.D.Disk.told l.disk);
  taken : AreTaken (net_of l.net) (items_of l.yielded) l.fn.self l.self (g.D.Disk.told l.fn.disk) (g.D.Disk.told l.disk);
  number : l.number ≡ length l.yielded;
  same_disk : IsSameDisk (g.D.Disk.told l.fn.disk) (g.D.Disk.told l.disk);
}
