-- What the calls of a disk do to its file, and what a crash may leave of it.
use Rattle.std.specs.Prelude.{◌≡◌, ℕ, ◌+◌, ◌<◌, ◌≤◌, ◌⊎◌, min, max, Bool, true, false, IsTrue, List, [], ◌∷◌, ◌++◌, length, take, drop, Option, Some, None}
use Rattle.edge_io.specs.Counts.{Grows, Rose}

-- What there is to know of a disk: what its calls give, and which images of its file a crash leaves.
pub record DiskTold : Type 1 where
  -- whether it tells what reads give and what a crash leaves
  pub tells : Bool
  -- which names it admits
  pub admits : List ℕ → Bool
  -- how many of its calls have failed
  pub faults : ℕ
  -- what each attach that was done found, in their order
  pub attached : List (List ℕ)
  -- what a read gives now: nothing is known before the first attach, and after a failure until the next
  pub reads : Option (List ℕ)
  -- the moment now, a number that never falls
  pub moment : ℕ
  -- the images that a crash now may leave
  pub may_leave : List ℕ → Type 0
  -- the images that a crash at some moment since that one may have left, during a call or between two
  pub left_since : ℕ → List ℕ → Type 0
  -- the images that a crash at some moment up to that one, and up to now, may have left
  pub left_until : ℕ → List ℕ → Type 0
  -- what a read gives is one of the images of now
  pub reads_image : (file : List ℕ) → reads ≡ Some file → may_leave file
  -- an image of now is one since each moment up to now
  pub counts_now : (t : ℕ) (c : List ℕ) → t ≤ moment → may_leave c → left_since t c
  -- since this moment there is no other
  pub only_now : (c : List ℕ) → left_since moment c → may_leave c
  -- an image since a moment is one since each earlier one
  pub since_before : (t u : ℕ) (c : List ℕ) → t ≤ u → left_since u c → left_since t c
  -- an image since any moment is one up to now, and up to each later moment
  pub up_to_now : (t u : ℕ) (c : List ℕ) → moment ≤ u → left_since t c → left_until u c
  -- up to any moment there is no more than up to now
  pub ends_now : (t : ℕ) (c : List ℕ) → left_until t c → left_until moment c

-- What there is to know of a disk that tells nothing and of which so many calls have failed: each list of bytes may be an image.
abbrev pub untold : ℕ → DiskTold
untold faults = record {
  tells = false;
  admits = λ _. true;
  faults = faults;
  attached = [];
  reads = None;
  moment = 0;
  may_leave = λ _. Unit {0};
  left_since = λ _ _. Unit {0};
  left_until = λ _ _. Unit {0};
  reads_image = λ _ _. tt;
  counts_now = λ _ _ _ _. tt;
  only_now = λ _ _. tt;
  since_before = λ _ _ _ _ _. tt;
  up_to_now = λ _ _ _ _ _. tt;
  ends_now = λ _ _ _. tt;
}

-- the file with these bytes in the place of those from `at` on
abbrev pub written : List ℕ → ℕ → List ℕ → List ℕ
written file at bytes = take at file ++ bytes ++ drop (at + length bytes) file

-- After a write of n bytes that a crash cuts short: the file is no shorter, and no longer than the write makes it. Below
-- its old end and outside the range it has the old bytes; all else may be any bytes.
pub record Torn (at n : ℕ) (old new : List ℕ) : Type 0 where
  pub before : take (min at (length old)) new ≡ take at old
  pub after : drop (at + n) new ≡ drop (at + n) old
  pub no_shorter : length old ≤ length new
  pub no_longer : length new ≤ max (length old) (at + n)

-- after a cut that a crash cuts short: a front of the old file, of a length from `to` to the old one
pub record Shortened (to : ℕ) (old new : List ℕ) : Type 0 where
  pub front : take (length new) old ≡ new
  pub no_shorter : min to (length old) ≤ length new

-- each new image comes from an old one by this step
abbrev pub ComesBy : (List ℕ → List ℕ → Type 0) → (List ℕ → Type 0) → (List ℕ → Type 0) → Type 0
ComesBy step old new = (c : List ℕ) → new c → (i : List ℕ) × old i × step i c

-- each new image is an old one
abbrev pub Among : (List ℕ → Type 0) → (List ℕ → Type 0) → Type 0
Among old new = (c : List ℕ) → new c → old c

-- this is the only image
abbrev pub Only : List ℕ → (List ℕ → Type 0) → Type 0
Only file images = (c : List ℕ) → images c → c ≡ file

-- what a read gives is known, and this place is within it or at its end
abbrev pub IsWithin : Option (List ℕ) → ℕ → Type 0
IsWithin None place = ⊥
IsWithin (Some file) place = place ≤ length file

-- where the disk tells, a read may begin or end at this place
abbrev pub Reaches : DiskTold → ℕ → Type 0
Reaches d place = IsTrue d.tells → IsWithin d.reads place

-- ---- what a call leaves, keeps, and tells by a failure

-- each image that a crash leaves on the way comes by this step from one of before
abbrev pub LeavesBy : (List ℕ → List ℕ → Type 0) → DiskTold → DiskTold → Type 0
LeavesBy step old new = ComesBy step old.may_leave (new.left_since old.moment)

-- no image that a crash leaves on the way is new
abbrev pub LeavesNothingNew : DiskTold → DiskTold → Type 0
LeavesNothingNew old new = Among old.may_leave (new.left_since old.moment)

-- Time goes on: a crash since t left what it might have left before, or what it may leave since the call's start. What a crash up to the
-- call's start left, that moment with it, stays as it was.
pub record Elapses (old new : DiskTold) : Type 0 where
  pub later : old.moment ≤ new.moment
  pub nothing_else : (t : ℕ) (c : List ℕ) → t ≤ old.moment → new.left_since t c → old.left_since t c ⊎ new.left_since old.moment c
  pub keeps : (t : ℕ) (c : List ℕ) → t ≤ old.moment → old.left_since t c → new.left_since t c
  pub nothing_earlier : (t : ℕ) (c : List ℕ) → new.left_until t c → old.left_until t c ⊎ ((old.moment < t) × new.left_since old.moment c)
  pub keeps_past : (t : ℕ) (c : List ℕ) → old.left_until t c → new.left_until t c

-- the count of faults never falls, and whether the disk tells and which names it admits stays
pub record IsSameDevice (old new : DiskTold) : Type 0 where
  pub faults_grow : Grows old.faults new.faults
  pub same_telling : new.tells ≡ old.tells
  pub same_names : new.admits ≡ old.admits

-- so it is, and no attach was done
pub record IsSameDisk (old new : DiskTold) : Type 0 where
  pub device : IsSameDevice old new
  pub same_attached : new.attached ≡ old.attached

-- what every call but an attach keeps
pub record GoesOn (old new : DiskTold) : Type 0 where
  pub time : Elapses old new
  pub same_disk : IsSameDisk old new

-- an attach that is done finds one of the images of before, and that is what a read gives
pub record Finds (old new : DiskTold) : Type 0 where
  pub file : List ℕ
  pub image : old.may_leave file
  pub read : new.reads ≡ Some file
  pub noted : new.attached ≡ old.attached ++ file ∷ []

-- what every failure means: it is counted, and what a read gives is not known
pub record Fails (old new : DiskTold) : Type 0 where
  pub counted : Rose old.faults new.faults
  pub unknown : new.reads ≡ None

-- ---- runs of calls

-- a crash at any moment from the one state to the other leaves a file that has P
pub record LeavesOnly (old new : DiskTold) (P : List ℕ → Type 0) : Type 0 where
  pub later : old.moment ≤ new.moment
  pub each : (c : List ℕ) → new.left_since old.moment c → P c
  -- for a run that began earlier
  pub before : (t : ℕ) (c : List ℕ) → t ≤ old.moment → new.left_since t c → old.left_since t c ⊎ P c
  -- up to the run's start nothing is new
  pub until : (t : ℕ) (c : List ℕ) → new.left_until t c → old.left_until t c ⊎ ((old.moment < t) × P c)

-- the file, or the file with one byte more
abbrev pub IsSameOrLonger : List ℕ → List ℕ → Type 0
IsSameOrLonger file c = (c ≡ file) ⊎ ((byte : ℕ) × (c ≡ file ++ byte ∷ []))
