use Rattle.std.proofs.Common.{◌≡◌, ℕ, ◌-◌, ◌≤◌, List, length, Some}
use Rattle.disk_calls.specs.Disks.{IsSameDisk}
use Rattle.node_journal.specs.Found.{IsFoundFrom}
use Rattle.node_journal.specs.Settled.{IsQuiet}
use Rattle.node_journal.proofs.records.read_records.Given as goal

abbrev pub invariant-loop-entries : goal.invariant-loop-entries
invariant-loop-entries g l = record {
  read : (file : List ℕ) → (g.D.Disk.told l.fn.disk).reads ≡ Some file → l.end ≡ length file
      → IsFoundFrom l.fn.born (length l.fn.room) l.start file record { entries = l.entries; turn_at = l.turn_at; spot = l.spot };
  same : (g.D.Disk.told l.disk).reads ≡ (g.D.Disk.told l.fn.disk).reads;
  reached : l.spot.at ≤ l.end;
  few : l.spot.number ≤ l.spot.at;
  room : length l.room ≡ length l.fn.room;
  quiet : IsQuiet (g.D.Disk.told l.fn.disk) (g.D.Disk.told l.disk);
  same_disk : IsSameDisk (g.D.Disk.told l.fn.disk) (g.D.Disk.told l.disk);
}

abbrev pub decreases-loop-entries : goal.decreases-loop-entries
decreases-loop-entries g l = l.end - l.spot.at
