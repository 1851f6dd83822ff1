-- How a run with a journal ends that gives no answer, and which file is the cause.
use Rattle.std.specs.Prelude.{◌≡◌, ◌⊎◌, ℕ, List, [], ◌∷◌, ◌++◌}
use Rattle.disk_calls.specs.Disks.{DiskTold}
use Rattle.pool_model.specs.Network.{Net}
use Rattle.row_model.specs.Entries.{Entry, AreInOrder}
use Rattle.journal_format.specs.Files.{Stands}
use Rattle.journal_format.specs.Faults.{Has}
use Rattle.journal_format.specs.Longest.{longest}
use Rattle.node_journal.specs.Settled.{IsOnDisk, IsQuiet}
use Rattle.journal_format.specs.declared.fault.JournalFault.TheVariants as journal_faults
use Rattle.recorded_run.specs.Recorded.{HasOutOfOrder, IsNetworksOwn}
use Rattle.recorded_run.specs.declared.fault.RunFault.{RunFault}
use Rattle.recorded_run.specs.declared.fault.RunFault.TheVariants as faults
use Rattle.run_status.specs.declared.status.Status.{Status}
use Rattle.run_status.specs.declared.status.Status.TheVariants as statuses

-- ---- statuses

-- the status of a run that gives no answer
abbrev pub fault_status : RunFault → Status
fault_status (faults.Journal journal_faults.Disk) = statuses.DiskFault
fault_status (faults.Journal journal_faults.NotAJournal) = statuses.NotAJournal
fault_status (faults.Journal (journal_faults.UnknownVersion version)) = statuses.UnknownVersion version
fault_status (faults.Journal journal_faults.OtherNetwork) = statuses.OtherNetwork
fault_status (faults.Journal (journal_faults.BadRecord number)) = statuses.BadJournal number
fault_status (faults.Journal journal_faults.Memory) = statuses.OutOfMemory
fault_status (faults.OutOfOrder number) = statuses.BadJournal number

-- the journal is refused
abbrev pub IsJournalRefused : Status → Type 0
IsJournalRefused statuses.OtherNetwork = Unit {0}
IsJournalRefused (statuses.BadJournal number) = Unit {0}
IsJournalRefused (statuses.UnknownVersion version) = Unit {0}
IsJournalRefused statuses.NotAJournal = Unit {0}
IsJournalRefused status = ⊥

-- no journal of this network stands in the file
abbrev pub IsForeign : Status → Type 0
IsForeign statuses.OtherNetwork = Unit {0}
IsForeign (statuses.UnknownVersion version) = Unit {0}
IsForeign statuses.NotAJournal = Unit {0}
IsForeign status = ⊥

-- the disk failed, or the journal is refused
abbrev pub IsJournalEnd : Status → Type 0
IsJournalEnd statuses.DiskFault = Unit {0}
IsJournalEnd status = IsJournalRefused status

-- the disk failed, or memory ran out
abbrev pub IsFailed : Status → Type 0
IsFailed statuses.DiskFault = Unit {0}
IsFailed statuses.OutOfMemory = Unit {0}
IsFailed status = ⊥

-- the run came to no file: the network, what is asked of it or another file that is read is refused; or shelf, disk or memory failed
abbrev pub IsUnopened : Status → Type 0
IsUnopened (statuses.NetworkRefused cause) = Unit {0}
IsUnopened statuses.BudgetTooLarge = Unit {0}
IsUnopened statuses.CertTooLong = Unit {0}
IsUnopened (statuses.JobsRefused line) = Unit {0}
IsUnopened statuses.ReadFault = Unit {0}
IsUnopened status = IsFailed status

-- ---- causes

-- The file is a cause of this status. A record is bad where it holds no entry's bytes, or else where it is the first of an entry that
-- is not in order after those before it.
abbrev pub IsJournalCause : Net → List ℕ → List ℕ → Status → Type 0
IsJournalCause n text file statuses.OtherNetwork = Has text (longest n) file journal_faults.OtherNetwork
IsJournalCause n text file (statuses.BadJournal number) = Has text (longest n) file (journal_faults.BadRecord number) ⊎ HasOutOfOrder n text file number
IsJournalCause n text file (statuses.UnknownVersion version) = Has text (longest n) file (journal_faults.UnknownVersion version)
IsJournalCause n text file statuses.NotAJournal = Has text (longest n) file journal_faults.NotAJournal
IsJournalCause n text file status = ⊥

-- ---- what stands on the disk

-- the file is the only image, and it is the network's own for the list
pub record HoldsOnDisk (n : Net) (text : List ℕ) (list : List Entry) (d : DiskTold) : Type 0 where
  pub file : List ℕ
  pub on_disk : IsOnDisk file d
  pub own : IsNetworksOwn n text list file

-- The run came to no file: it attached none, and no image is new.
pub record CameToNoFile (old new : DiskTold) (status : Status) : Type 0 where
  pub unopened : IsUnopened status
  -- Promise: A run that came to no journal, for whatever reason, leaves what a crash might have left before
  pub quiet : IsQuiet old new
  -- Promise: A run that attached a file is never told as one that came to none
  pub none_attached : new.attached ≡ old.attached

-- A run that attached this file, once, which was one of the images of before. A refusal has its cause in that file, and a cause that is there
-- is answered, unless disk or memory failed; a file that stands for entries in order is never refused. A foreign file is left as it is.
pub record IsAttachedTo (n : Net) (text file : List ℕ) (old new : DiskTold) (status : Status) : Type 0 where
  pub image : old.may_leave file
  -- Promise: With `--journal`, over a disk that tells, a run attaches one file, once, and what is said of the file that was attached is said
  --   of that one
  pub found : new.attached ≡ old.attached ++ file ∷ []
  -- Promise: 30, 31, 32 and 33 come only where the file that was attached is their cause
  pub caused : IsJournalRefused status → IsJournalCause n text file status
  -- Promise: Where the file that was attached is the cause of 30, 31, 32 or 33, that status comes, or disk or memory failed
  pub decided : (cause : Status) → IsJournalCause n text file cause → (status ≡ cause) ⊎ IsFailed status
  -- Promise: 30, 31, 32 and 33 never come where the file stands for entries in order
  pub taken : (list : List Entry) → Stands file text list → AreInOrder n list → ¬ IsJournalRefused status
  -- Promise: Under 30, 32 and 33 the file is left as it is
  pub untouched : IsForeign status → IsQuiet old new
