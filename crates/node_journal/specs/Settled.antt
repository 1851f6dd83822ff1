-- What a disk gives and keeps between two calls of a journal.
use Rattle.std.specs.Prelude.{◌≡◌, ℕ, List, Some}
use Rattle.disk_calls.specs.Disks.{DiskTold, Only, LeavesOnly}

-- a read gives this file, and so does a crash now
pub record IsOnDisk (file : List ℕ) (d : DiskTold) : Type 0 where
  pub read : d.reads ≡ Some file
  pub only : Only file d.may_leave

-- so it is for some file
abbrev pub IsSettled : DiskTold → Type 0
IsSettled d = (file : List ℕ) × IsOnDisk file d

-- a crash at any moment leaves what it might have left before
abbrev pub IsQuiet : DiskTold → DiskTold → Type 0
IsQuiet old new = LeavesOnly old new old.may_leave
