-- What `jobs` leaves on the disk, and what it prints of it.
use Rattle.std.specs.Prelude.{◌≡◌, ◌⊎◌, ℕ, List, Option, Result, Ok, Err}
use Rattle.disk_calls.specs.Disks.{DiskTold, LeavesOnly}
use Rattle.pool_model.specs.Network.{Net, Network, net_of}
use Rattle.row_model.specs.Entries.{Entry, AreInOrder}
use Rattle.network_text.specs.Canonical.{canonical_text}
use Rattle.journal_format.specs.Files.{Stands}
use Rattle.recorded_run.specs.Recorded.{IsNetworksOwn, StandsNow}
use Rattle.recorded_run.specs.declared.fault.RunFault.{RunFault}
use Rattle.journal_status.specs.JournalEnds.{CameToNoFile, HoldsOnDisk, IsAttachedTo, fault_status}
use Rattle.job_texts.specs.Texts.{Jobs}
use Rattle.job_texts.specs.Views.{shown_jobs}
use Rattle.job_texts.specs.declared.jobs.JobsText.{JobsText}
use Rattle.run_status.specs.Reads.{Files, ReadsUnder}
use Rattle.run_status.specs.declared.status.Status.{Status}
use Rattle.run_status.specs.declared.status.Status.TheVariants as statuses
use Rattle.job_commands.specs.Handed.{IsWritten}
use Rattle.job_commands.specs.JobsEnds.{AreJobsOf}

-- what is printed are jobs on the tree of these entries
abbrev pub ArePrintedOf : Net → (count : ℕ) → List Entry → (Jobs → Type 0) → Type 0
ArePrintedOf n count list Prints = (j : Jobs) × AreJobsOf n count list j × Prints j

-- What is printed are jobs on the tree of entries in order, which are those that the file stands for, all of them.
pub record IsHandedFrom (n : Net) (text : List ℕ) (count : ℕ) (file : List ℕ) (Prints : Jobs → Type 0) : Type 0 where
  pub list : List Entry
  pub stands : Stands file text list
  pub in_order : AreInOrder n list
  pub printed : ArePrintedOf n count list Prints

-- A run on a file that is the network's own and stands for a list. Nothing is recorded: a crash at any moment leaves what it might have
-- left before, or the network's own file for the same list; and the file that reads at the end stands for it, unless the disk failed.
pub record IsKeptOn (n : Net) (text : List ℕ) (count : ℕ) (list : List Entry) (old new : DiskTold)
    (status : Status) (Prints : Jobs → Type 0) : Type 0 where
  -- Promise: A run of `jobs` on the network's own file loses nothing and records nothing, at any moment: a crash leaves a file that a crash
  --   might have left before, or the network's own for the same entries
  pub any_moment : LeavesOnly old new (λ c. old.may_leave c ⊎ IsNetworksOwn n text list c)
  -- Promise: Where jobs were printed, or the sink failed, the network's own file stands for the entries from before, and every crash leaves
  --   that file
  pub held : IsWritten status → HoldsOnDisk n text list new
  -- Promise: Where memory ran out, the network's own file stands for the entries from before
  pub stands : status ≡ statuses.OutOfMemory → StandsNow n text list new
  -- Promise: What `jobs` prints on the network's own file are jobs on the tree of the entries that it stands for
  pub printed : status ≡ statuses.Done → ArePrintedOf n count list Prints

-- A run that attached one file, once.
pub record IsAttachedFor (n : Net) (text : List ℕ) (count : ℕ) (old new : DiskTold)
    (status : Status) (Prints : Jobs → Type 0) : Type 0 where
  pub file : List ℕ
  pub attached : IsAttachedTo n text file old new status
  -- Promise: Over a disk that tells, the jobs that `jobs` prints are on the tree of all entries that the file stood for which was attached,
  --   whether or not that file is the network's own
  pub handed : status ≡ statuses.Done → IsHandedFrom n text count file Prints
  pub own : (list : List Entry) → IsNetworksOwn n text list file → IsKeptOn n text count list old new status Prints

-- a run that read a network, and a file as its journal
pub record AttachedUnder (files : Option Files) (net : List ℕ) (count : ℕ) (old new : DiskTold)
    (status : Status) (Prints : Jobs → Type 0) : Type 0 where
  pub network : Network
  pub reads : ReadsUnder files net network
  pub attached : IsAttachedFor (net_of network) (canonical_text network) count old new status Prints

-- A run from the old state of the disk to the new one: it came to no file, or it read one.
abbrev pub JobsJournaled : Option Files → (net : List ℕ) → (count : ℕ) → (old new : DiskTold) → Status → (Jobs → Type 0) → Type 0
JobsJournaled files net count old new status Prints = CameToNoFile old new status ⊎ AttachedUnder files net count old new status Prints

-- ---- words of the inner contracts

-- the status of jobs that were made, before they are printed
abbrev pub made_status : Result JobsText RunFault → Status
made_status (Ok text) = statuses.Done
made_status (Err fault) = fault_status fault

-- these jobs were made
abbrev pub shows : Result JobsText RunFault → Jobs → Type 0
shows (Ok text) j = shown_jobs text ≡ j
shows (Err fault) j = ⊥

-- no file was attached, and no image is new; or one was read
abbrev pub IsOpened : Net → List ℕ → (count : ℕ) → (old new : DiskTold) → Result JobsText RunFault → Type 0
IsOpened n text count old new result =
    CameToNoFile old new (made_status result) ⊎ IsAttachedFor n text count old new (made_status result) (shows result)
