-- What the system's calls over a file in memory have.
use Rattle.std.specs.Prelude.{Bool}
use Rattle.disk_model.specs.declared.mem_calls.MemCalls.{MemCalls}
use Rattle.disk_model.specs.declared.mem_disk.MemDisk.{MemDisk}

-- the disk below
abbrev pub disk_of : MemCalls → MemDisk
disk_of s = s.disk

-- whether the file's name is on the disk
abbrev pub is_named : MemCalls → Bool
is_named s = s.named
