-- The steps that a file in memory has gone, and what a crash may leave after them.
use Rattle.std.specs.Prelude.{◌≡◌, ℕ, ◌≤◌, List, [], ◌∷◌, length, take, Option, Some, None, Vec}
use Rattle.std.specs.declared.alloc.Global.{Global}
use Rattle.disk_calls.specs.Disks.{written, Torn, Shortened}
use Rattle.disk_model.specs.declared.step.Step.{Step}
use Rattle.disk_model.specs.declared.step.Step.TheVariants.{Write, Cut, Sync}

-- the file after a step
abbrev pub after_step : Step → List ℕ → List ℕ
after_step (Write at bytes) file = written file at bytes.items
after_step (Cut to) file = take to file
after_step Sync file = file

-- the file after these steps
abbrev pub file_after : List Step → List ℕ → List ℕ
file_after [] file = file
file_after (s ∷ ss) file = file_after ss (after_step s file)

-- the file's bytes: those at the start until the first step
abbrev pub held : List ℕ → Option (Vec ℕ Global) → List ℕ
held start None = start
held start (Some changed) = changed.items

-- how an image lands after a step that a crash cuts short
abbrev pub Lands : Step → List ℕ → List ℕ → Type 0
Lands (Write at bytes) old new = Torn at (length bytes.items) old new
Lands (Cut to) old new = Shortened to old new
Lands Sync old new = new ≡ old

-- what a crash may leave after a step, by the file and the images before it
abbrev pub Leaves : Step → List ℕ → (List ℕ → Type 0) → List ℕ → Type 0
Leaves (Write at bytes) file images c = (i : List ℕ) × images i × Torn at (length bytes.items) i c
Leaves (Cut to) file images c = (i : List ℕ) × images i × Shortened to i c
Leaves Sync file images c = c ≡ file

-- what a crash may leave after these steps
abbrev pub IsImage : List Step → List ℕ → (List ℕ → Type 0) → List ℕ → Type 0
IsImage [] file images c = images c
IsImage (s ∷ ss) file images c = IsImage ss (after_step s file) (Leaves s file images) c

-- what a crash may leave after these steps on a file that is on the disk
abbrev pub MayLeave : List ℕ → List Step → List ℕ → Type 0
MayLeave start steps c = IsImage steps start (λ i. i ≡ start) c

-- what a crash may have left at some moment since t; each step is a moment
abbrev pub LeftSince : List ℕ → List Step → ℕ → List ℕ → Type 0
LeftSince start steps t c = (k : ℕ) × (t ≤ k) × (k ≤ length steps) × MayLeave start (take k steps) c

-- what a crash may have left at some moment up to t
abbrev pub LeftUntil : List ℕ → List Step → ℕ → List ℕ → Type 0
LeftUntil start steps t c = (k : ℕ) × (k ≤ t) × (k ≤ length steps) × MayLeave start (take k steps) c

-- what the last sync put on the disk, after a step
abbrev pub synced_step : Step → List ℕ → List ℕ → List ℕ
synced_step (Write at bytes) file synced = synced
synced_step (Cut to) file synced = synced
synced_step Sync file synced = file

-- what the last sync of these steps put on the disk, or what was there before them
abbrev pub synced_after : List Step → List ℕ → List ℕ → List ℕ
synced_after [] file synced = synced
synced_after (s ∷ ss) file synced = synced_after ss (after_step s file) (synced_step s file synced)

-- After k of these steps the image is one that a crash may leave; of choice 0 it is what the last sync put on the disk,
-- and of choice 1 the file.
pub record Replayed (start : List ℕ) (steps : List Step) (choice k : ℕ) (file image : List ℕ) : Type 0 where
  pub file_is : file ≡ file_after (take k steps) start
  pub leaves : MayLeave start (take k steps) image
  pub synced : choice ≡ 0 → image ≡ synced_after (take k steps) start start
  pub written : choice ≡ 1 → image ≡ file

-- Over one step the file takes it wholly, and the image is one that a crash may leave; of choice 0 it is what the last sync put on the disk, and of choice 1 the file.
pub record Takes (s : Step) (choice : ℕ) (file image next landed : List ℕ) : Type 0 where
  pub file_is : next ≡ after_step s file
  pub leaves : Leaves s file (λ i. i ≡ image) landed
  pub synced : choice ≡ 0 → landed ≡ synced_step s file image
  pub written : choice ≡ 1 → image ≡ file → landed ≡ next
