-- How `jobs` ends.
use Rattle.std.specs.Prelude.{◌≡◌, ◌⊎◌, ℕ, List, Option, Some}
use Rattle.pool_model.specs.Network.{Net, Network, counts_of, net_of}
use Rattle.row_model.specs.Entries.{Entry, made_by, AreInOrder}
use Rattle.work_units.specs.Handed.{AreFirstJobs}
use Rattle.job_texts.specs.Texts.{Jobs}
use Rattle.job_trees.specs.Fitting.{Fits}
use Rattle.journal_format.specs.declared.fault.JournalFault.TheVariants as journal_faults
use Rattle.recorded_run.specs.declared.fault.RunFault.TheVariants as faults
use Rattle.journal_status.specs.JournalEnds.{IsJournalEnd, fault_status}
use Rattle.run_status.specs.Reads.{Files, IsRefusedAs, ReadsNone, ReadsSome, ReadsUnder}
use Rattle.run_status.specs.Took.{IsCutShort, IsNetworkRefused, unread_status}
use Rattle.run_status.specs.declared.reading.Unread.TheVariants as unread
use Rattle.run_status.specs.declared.status.Status.{Status}
use Rattle.run_status.specs.declared.status.Status.TheVariants as statuses
use Rattle.job_commands.specs.Handed.{IsWritten, SpellsJobs}
use Rattle.job_commands.specs.declared.handing.JobsOutcome.{JobsOutcome}
use Rattle.job_commands.specs.declared.handing.JobsOutcome.TheVariants as outcomes

-- the status that it ends with
abbrev pub jobs_status : JobsOutcome → Status
jobs_status outcomes.Done = statuses.Done
jobs_status (outcomes.Unread why) = unread_status why
jobs_status (outcomes.Unrecovered fault) = fault_status fault
jobs_status outcomes.WriteFault = statuses.WriteFault

-- ---- what is printed

-- Jobs on the tree of these entries: the shape is the network's counts, the splits are the tree's, and there is one job for each of the first
-- so many leaves that may hold a plan. They fit the network, so `work` takes them.
pub record AreJobsOf (n : Net) (count : ℕ) (list : List Entry) (j : Jobs) : Type 0 where
  pub shape : j.shape ≡ counts_of n
  -- Promise: The splits that `jobs` prints are those of the tree of the entries that the journal held
  pub splits : j.splits ≡ (made_by list).tree.splits
  -- Promise: `jobs` prints one job for each of the first `--count` leaves that may hold a plan, by bound and then by number
  pub first : AreFirstJobs n (made_by list).tree count j.jobs
  -- Promise: The jobs that `jobs` prints fit the network
  pub fits : Fits n j

-- the same of entries that are in order
pub record AreJobsOfOrdered (n : Net) (count : ℕ) (j : Jobs) : Type 0 where
  pub list : List Entry
  pub in_order : AreInOrder n list
  pub are : AreJobsOf n count list j

-- the texts that answer on the tree of entries that a journal of the network in the file of this name held, by the status
pub record HandsAs (files : Option Files) (net : List ℕ) (count : ℕ) (text : List ℕ) : Type 0 where
  pub network : Network
  pub reads : ReadsUnder files net network
  pub jobs : Jobs
  pub are : AreJobsOfOrdered (net_of network) count jobs
  pub spelled : SpellsJobs text jobs

abbrev pub JobsAs : Option Files → (net : List ℕ) → (count : ℕ) → Status → List ℕ → Type 0
JobsAs files net count statuses.Done text = HandsAs files net count text
JobsAs files net count status text = ⊥

-- ---- when each status comes

-- Each status comes only where its line holds of the file of this name; no other comes. The counts are of the bytes taken. Of the file of
-- the journal more is said in `specs/Kept.antt`.
-- Promise: Each other status of `jobs` comes only where it says so of the files: 3 where no network is read from NET, with its first cause; 0,
--   21, 22 and 30 to 33 where a network is read
abbrev pub JobsEnds : Option Files → (net : List ℕ) → (before after : ℕ) → Status → Type 0
JobsEnds files net before after statuses.Done = ReadsSome files net
JobsEnds files net before after statuses.WriteFault = ReadsSome files net
JobsEnds files net before after (statuses.NetworkRefused cause) = IsRefusedAs files net before after cause
JobsEnds files net before after statuses.ReadFault = Unit {0}
JobsEnds files net before after statuses.DiskFault = ReadsSome files net
JobsEnds files net before after statuses.OtherNetwork = ReadsSome files net
JobsEnds files net before after (statuses.BadJournal number) = ReadsSome files net
JobsEnds files net before after (statuses.UnknownVersion version) = ReadsSome files net
JobsEnds files net before after statuses.NotAJournal = ReadsSome files net
JobsEnds files net before after statuses.OutOfMemory = Unit {0}
JobsEnds files net before after status = ⊥

-- memory ran out where the network was to be read, or where the journal of one that was read was recovered and jobs made of it
abbrev pub WantsMemory : Option Files → (net : List ℕ) → JobsOutcome → Type 0
WantsMemory files net (outcomes.Unread why) = why ≡ unread.Memory
WantsMemory files net (outcomes.Unrecovered fault) = (fault ≡ faults.Journal journal_faults.Memory) × ReadsSome files net
WantsMemory files net outcome = ⊥

-- which status comes, by what the told files say, where the run isn't cut short
pub record JobsDecided (told : Files) (net : List ℕ) (status : Status) : Type 0 where
  -- Promise: Where no network is read from NET, the status is 3, or shelf or memory failed
  pub no_network : ReadsNone told net → IsNetworkRefused status ⊎ IsCutShort status
  -- Promise: Where a network is read, `jobs` prints jobs, or it ended at the journal, or shelf, sink or memory failed
  pub network : ReadsSome (Some told) net → IsWritten status ⊎ (IsJournalEnd status ⊎ IsCutShort status)
