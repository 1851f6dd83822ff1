-- What a run of the whole program is, from its words to the code of its process.
use Rattle.std.specs.Prelude.{◌≡◌, ◌⊎◌, ℕ, Bool, List, Option, Some, Result, Ok, Err, IsTrue, String, Vec, map, string_bytes}
use Rattle.std.specs.declared.alloc.Global.{Global}
use Rattle.edge_io.specs.Counts.{Rose}
use Rattle.edge_io.specs.Writing.{behind, TookFront}
use Rattle.shelf_calls.specs.Told.{ShelfTold}
use Rattle.disk_calls.specs.Disks.{DiskTold}
use Rattle.cli_words.specs.Asks.{Asks}
use Rattle.cli_words.specs.Requests.{Asked}
use Rattle.cli_words.specs.declared.request.WordsFault.{WordsFault}
use Rattle.run_status.specs.Messages.{code_of, message_of}
use Rattle.run_status.specs.Reads.{Files}
use Rattle.run_status.specs.Took.{IsCutShort, Took}
use Rattle.run_status.specs.declared.status.Status.{Status}
use Rattle.run_status.specs.declared.status.Status.TheVariants as statuses
use Rattle.file_numbers.specs.Numbers.{AreHeld}
use Rattle.pool_cli.specs.Ends.{AnswersAs, DecidedAs, EndsAs, HasNoJournal, IsUnanswered, LeavesAs, words_status}

-- where the system tells which numbers are in use, those of the standard streams are
abbrev pub IsHeld : {N : Type 0} → Bool → (N → ℕ → Bool) → N → Type 0
IsHeld tells used numbers = IsTrue tells → AreHeld (used numbers)

-- Each name may be asked for where there are numbers of files that are held: whoever has none yet may ask for nothing.
abbrev pub AdmitsOnce : {N : Type 0} → (N → Type 0) → (List ℕ → Bool) → Type 0
AdmitsOnce {N} Held admits = (numbers : N) → Held numbers → (name : List ℕ) → IsTrue (admits name)

-- shelf, disk and standard output at one moment
pub record Devices (D : Type 0) : Type 0 where
  -- what the shelf tells
  pub shelf : ShelfTold
  pub disk : D
  -- what standard output took, where it tells it
  pub printed : Option (List ℕ)
  -- how many of its calls failed
  pub faults : ℕ

-- they, by what they tell
abbrev pub devices : {D : Type 0} → ShelfTold → D → Option (List ℕ) → ℕ → Devices D
devices shelf disk printed faults = record { shelf = shelf; disk = disk; printed = printed; faults = faults }

-- `run` answered this status to these words, over devices that were so before and after: each field is a clause of `run`
pub record IsRun {D : Type 0} (told : D → DiskTold) (words : List (List ℕ)) (before after : Devices D) (status : Status) : Type 0 where
  pub took : (asked : Asked) → Asks words asked → Took (AnswersAs before.shelf.files asked) status before.printed after.printed
  pub unanswered : IsUnanswered status → after.printed ≡ before.printed
  pub usage : status ≡ statuses.Usage → (asked : Asked) → ¬ Asks words asked
  pub asked : IsUnanswered status ⊎ ((asked : Asked) × Asks words asked)
  pub ends : (asked : Asked) → Asks words asked → EndsAs before.shelf.files before.shelf.taken after.shelf.taken asked status
  pub decided : (files : Files) (asked : Asked) → before.shelf.files ≡ Some files → Asks words asked → DecidedAs files asked status
  pub read_fault : status ≡ statuses.ReadFault → Rose before.shelf.faults after.shelf.faults
  pub quiet : (status ≡ statuses.ReadFault) ⊎ (after.shelf.faults ≡ before.shelf.faults)
  pub write_fault : status ≡ statuses.WriteFault → Rose before.faults after.faults
  pub disk_fault : status ≡ statuses.DiskFault → Rose (told before.disk).faults (told after.disk).faults
  pub journal : (asked : Asked) → Asks words asked → IsTrue (told before.disk).tells
      → LeavesAs before.shelf.files (told before.disk) (told after.disk) before.printed after.printed asked status
  pub apart : (asked : Asked) → Asks words asked → HasNoJournal asked → after.disk ≡ before.disk
  pub unasked : ((asked : Asked) → ¬ Asks words asked) → after.disk ≡ before.disk

-- nothing was done for this reason, and the status is that of a fault outside: 20 or 23
pub record IsIdle {D : Type 0} (Reason : Type 0) (before after : Devices D) (status : Status) : Type 0 where
  pub reason : Reason
  pub same : after ≡ before
  pub short : IsCutShort status

-- words that were read were run; where none could be read nothing was done, and the status says why
abbrev pub Ran : {D : Type 0} → (D → DiskTold) → Result (Vec (String Global) Global) WordsFault → (before after : Devices D) → Status → Type 0
Ran told (Ok words) before after status = IsRun told (map string_bytes words.items) before after status
Ran told (Err fault) before after status = (after ≡ before) × (status ≡ words_status fault)

-- the standard streams are held and the words were run, or they could not be held and nothing was done
abbrev pub Answers : {D : Type 0} → (D → DiskTold) → (Held Unheld : Type 0) → Result (Vec (String Global) Global) WordsFault → (before after : Devices D) → Status → Type 0
Answers told Held Unheld words before after status = (Held × Ran told words before after status) ⊎ IsIdle Unheld before after status

-- standard error took all of this line, or where it failed a front of it
abbrev pub IsTold : List ℕ → (before after : Option (List ℕ)) → (faults more : ℕ) → Type 0
IsTold line before after faults more = (after ≡ behind before line) ⊎ (TookFront before line after × Rose faults more)

-- one status answers the words, the process ends with its code, and standard error took its line alone
pub record IsServed (Status_of : Status → Type 0) (code : ℕ) (Told : List ℕ → Type 0) : Type 0 where
  pub status : Status
  pub answers : Status_of status
  pub code_is : code ≡ code_of status
  pub line : Told (message_of status)
