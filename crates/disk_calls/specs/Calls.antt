-- What the system's calls do to the file of a disk.
use Rattle.std.specs.Prelude.{◌≡◌, ℕ, ◌≤◌, Bool, true, false, List, [], ◌∷◌, ◌++◌, take, drop, Option, Some, None, if◌then◌else◌}
use Rattle.disk_calls.specs.Disks.{DiskTold}

-- the file that is opened is one of the images of before
pub record Opens (old new : DiskTold) : Type 0 where
  pub file : List ℕ
  pub image : old.may_leave file
  pub read : new.reads ≡ Some file

-- what a read gives is noted as the file that was found
abbrev pub Notes : DiskTold → DiskTold → Type 0
Notes old new = (file : List ℕ) → old.reads ≡ Some file → new.attached ≡ old.attached ++ file ∷ []

-- so many bytes at the front of a room are those of the file from that place on
abbrev pub Gives : List ℕ → ℕ → ℕ → List ℕ → Type 0
Gives file at n room = take n room ≡ take n (drop at file)

-- what a read gives once the file's name is on the disk too
abbrev pub named_reads : Bool → Option (List ℕ) → Option (List ℕ)
named_reads named reads = if named then reads else None

-- what is known so is what a read gives
pub named-known : (named : Bool) (reads : Option (List ℕ)) (file : List ℕ) → named_reads named reads ≡ Some file → reads ≡ Some file
named-known true reads file is = is
named-known false reads file is = absurd (cc)

-- What there is to know of a disk over the system's calls: what they tell of the file, where a read is known only once its name is on the disk.
abbrev pub disk_over : DiskTold → Bool → ℕ → DiskTold
disk_over s named faults = record {
  tells = s.tells;
  admits = s.admits;
  faults = faults;
  attached = s.attached;
  reads = named_reads named s.reads;
  moment = s.moment;
  may_leave = s.may_leave;
  left_since = s.left_since;
  left_until = s.left_until;
  reads_image = λ file is. s.reads_image file (named-known named s.reads file is);
  counts_now = s.counts_now;
  only_now = s.only_now;
  since_before = s.since_before;
  up_to_now = s.up_to_now;
  ends_now = s.ends_now;
}
