-- Runs of calls of a disk, from call to call.
use Rattle.std.proofs.Common.{◌≡◌, ℕ, ◌≤◌, List, [], ◌∷◌, length, take, drop, Option, Some, None, refl, sym, subst, ◌∙◌, arith}
use Rattle.std.specs.Prelude.{IsTrue, IfSome}
use Rattle.disk_calls.specs.Disks.{DiskTold, IsWithin, Elapses, IsSameDisk, LeavesNothingNew}
use Rattle.node_journal.specs.Settled.{IsOnDisk, IsSettled, IsQuiet}
use Rattle.disk_calls.proofs.Moments.{started, goes_further, leaves-weaker, now-has, goes_on-kept}

-- where the file is known a place within it is reached
pub reaches-known : (reads : Option (List ℕ)) (file : List ℕ) (place : ℕ) → reads ≡ Some file → place ≤ length file → IsWithin reads place
reaches-known reads file place is within = subst (λ (o : Option (List ℕ)). IsWithin o place) (sym is) within

-- what is read where there is no room
pub empty_read : (reads : Option (List ℕ)) (into : List ℕ) (place : ℕ) → length into ≡ 0 → IfSome reads (λ file. into ≡ take (length into) (drop place file))
empty_read None into place none = tt
empty_read (Some file) [] place none = refl
empty_read (Some file) (b ∷ into) place none = absurd (omega (arith, none))

-- no call yet
pub quiet-start : (d : DiskTold) → IsQuiet d d
quiet-start d = started d d.may_leave (λ c now. now)

-- a call that brings no new image
pub quiet-call : (old new : DiskTold) → Elapses old new → LeavesNothingNew old new → IsQuiet old new
quiet-call old new call crash = goes_on-kept old old new old.may_leave (quiet-start old) call crash

-- one such run after another
pub quiet-then : (old mid new : DiskTold) → IsQuiet old mid → IsQuiet mid new → IsQuiet old new
quiet-then old mid new first second = goes_further old mid new old.may_leave first (leaves-weaker mid new mid.may_leave old.may_leave (now-has old mid old.may_leave first) second)

-- what was on the disk stays so
pub still : (old new : DiskTold) (file : List ℕ) → new.reads ≡ old.reads → IsQuiet old new → IsOnDisk file old → IsOnDisk file new
still old new file same run d = record { read = same ∙ d.read; only = λ c now. d.only c (now-has old new old.may_leave run c now) }

pub still_settled : (old new : DiskTold) → IsSameDisk old new → new.reads ≡ old.reads → IsQuiet old new → (IsTrue old.tells → IsSettled old) → IsTrue new.tells → IsSettled new
still_settled old new one same run settled tells = let was = settled (subst IsTrue one.device.same_telling tells) in (was.0, still old new was.0 same run was.1)
