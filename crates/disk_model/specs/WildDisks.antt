-- What there is of a disk of which nothing is known.
use Rattle.std.specs.Prelude.{ℕ}
use Rattle.disk_calls.specs.Disks.{DiskTold, untold}
use Rattle.disk_model.specs.declared.wild_disk.WildDisk.{WildDisk}

-- what there is to know of it: how many of its calls failed
abbrev pub told_of : WildDisk → DiskTold
told_of d = untold d.faults

-- what the next byte is drawn from
abbrev pub state_of : WildDisk → ℕ
state_of d = d.draws.state
