-- What a disk in memory holds, and what it was told to do.
use Rattle.std.specs.Prelude.{◌≡◌, ℕ, ◌+◌, ◌-◌, ◌^◌, min, List, Some, None, true, length, map, take, Vec, if◌then◌else◌}
use Rattle.std.specs.declared.alloc.Global.{Global}
use Rattle.disk_calls.specs.Disks.{DiskTold}
use Rattle.disk_model.specs.Steps.{held, file_after, synced_after, MayLeave, LeftSince, LeftUntil}
use Rattle.disk_model.specs.Images.{reads-held, counts-now, only-now, since-before, up-to-now, ends-now}
use Rattle.disk_model.specs.declared.mem_disk.MemDisk.{MemDisk}

-- the file's bytes
abbrev pub bytes_of : MemDisk → List ℕ
bytes_of d = held d.start.items d.changed

-- What there is to know of it: it tells all and admits every name, and each step that the file has gone is a moment.
abbrev pub told_of : MemDisk → DiskTold
told_of d = record {
  tells = true;
  admits = λ _. true;
  faults = d.faults;
  attached = map (λ (v : Vec ℕ Global). v.items) d.found.items;
  reads = if d.attached then Some (bytes_of d) else None;
  moment = length d.steps.items;
  may_leave = MayLeave d.start.items d.steps.items;
  left_since = LeftSince d.start.items d.steps.items;
  left_until = LeftUntil d.start.items d.steps.items;
  reads_image = λ file is. reads-held d.attached (bytes_of d) d.start.items d.steps.items file d.follows is;
  counts_now = λ t c le now. counts-now d.start.items d.steps.items t c le now;
  only_now = λ c left. only-now d.start.items d.steps.items c left;
  since_before = λ t u c le left. since-before d.start.items d.steps.items t u c le left;
  up_to_now = λ t u c le left. up-to-now d.start.items d.steps.items t u c le left;
  ends_now = λ t c left. ends-now d.start.items d.steps.items t c left;
}

-- these bytes are an image of that moment
abbrev pub IsImageAt : MemDisk → ℕ → List ℕ → Type 0
IsImageAt d moment c = MayLeave d.start.items (take moment d.steps.items) c

-- the file of that moment
abbrev pub file_at : MemDisk → ℕ → List ℕ
file_at d moment = file_after (take moment d.steps.items) d.start.items

-- the file of the last sync before that moment
abbrev pub synced_at : MemDisk → ℕ → List ℕ
synced_at d moment = synced_after (take moment d.steps.items) d.start.items d.start.items

-- the numbers of the calls that fail
abbrev pub failing_of : MemDisk → List ℕ
failing_of d = d.failing.items

-- how many calls there were
abbrev pub calls_of : MemDisk → ℕ
calls_of d = d.calls

-- the file has gone no step
pub record IsSameFile (old new : MemDisk) : Type 0 where
  pub start : new.start.items ≡ old.start.items
  pub steps : new.steps.items ≡ old.steps.items
  pub changed : new.changed ≡ old.changed

-- one call more, and the same calls are to fail
pub record IsCounted (old new : MemDisk) : Type 0 where
  pub next : calls_of new ≡ min (calls_of old + 1) (2 ^ 64 - 1)
  pub same_failing : failing_of new ≡ failing_of old

-- a step of the file leaves the counts, and whether the file is attached
pub record KeepsCounts (old new : MemDisk) : Type 0 where
  pub attached : new.attached ≡ old.attached
  pub failing : new.failing ≡ old.failing
  pub calls : new.calls ≡ old.calls
  pub faults : new.faults ≡ old.faults
