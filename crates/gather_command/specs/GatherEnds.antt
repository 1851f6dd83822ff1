-- How `gather` ends.
use Rattle.std.specs.Prelude.{◌≡◌, ◌⊎◌, ℕ, List, Option, Some}
use Rattle.std.specs.List.{Contains}
use Rattle.disk_calls.specs.Disks.{DiskTold}
use Rattle.shelf_calls.specs.Files.{IsTooLong}
use Rattle.shelf_calls.specs.declared.fault.ShelfFault.{ShelfFault}
use Rattle.shelf_calls.specs.declared.fault.ShelfFault.TheVariants as shelf
use Rattle.pool_model.specs.Network.{Network, net_of}
use Rattle.row_model.specs.Entries.{Entry}
use Rattle.network_text.specs.Canonical.{canonical_text}
use Rattle.journal_format.specs.declared.fault.JournalFault.TheVariants as journal_faults
use Rattle.recorded_run.specs.declared.fault.RunFault.TheVariants as run_faults
use Rattle.job_texts.specs.Texts.{Jobs}
use Rattle.gathered_run.specs.Files.{items_of}
use Rattle.gathered_run.specs.Events.{Event}
use Rattle.gathered_run.specs.declared.files.AnswersFile.{AnswersFile}
use Rattle.gathered_run.specs.declared.fault.GatherFault.{GatherFault}
use Rattle.gathered_run.specs.declared.fault.GatherFault.TheVariants as gather_faults
use Rattle.job_commands.specs.Handed.{JobsUnder, LongJobsUnder, RefusesJobsUnder, most_jobs, unhanded_status}
use Rattle.job_commands.specs.WorkEnds.{HandsOutUnder}
use Rattle.job_commands.specs.declared.handed.Unhanded.TheVariants as unhanded
use Rattle.journal_status.specs.JournalEnds.{CameToNoFile, IsJournalEnd, fault_status}
use Rattle.run_status.specs.Reads.{Files, IsRefusedAs, ReadsNone, ReadsSome}
use Rattle.run_status.specs.Took.{IsCutShort, IsNetworkRefused, unread_status}
use Rattle.run_status.specs.declared.reading.Unread.TheVariants as unread
use Rattle.gather_command.specs.Answers.{SayUnder}
use Rattle.gather_command.specs.Journaled.{IsAllTold, IsGatheringOf, IsToldOf}
use Rattle.gather_command.specs.declared.outcome.GatherOutcome.{GatherOutcome}
use Rattle.gather_command.specs.declared.outcome.GatherOutcome.TheVariants as outcomes
use Rattle.run_status.specs.declared.status.Status.{Status}
use Rattle.run_status.specs.declared.status.Status.TheVariants as statuses

-- the names of the files that are to be read: the network's, that of the jobs, and those of the answers
pub record Named : Type 0 where
  pub net : List ℕ
  pub jobs : List ℕ
  pub answers : List (List ℕ)

-- ---- statuses

-- the status where a file of answers is not read
abbrev pub unsaid_status : ShelfFault → Status
unsaid_status shelf.Failed = statuses.ReadFault
unsaid_status shelf.TooLong = statuses.CertTooLong
unsaid_status shelf.Memory = statuses.OutOfMemory

-- the status where nothing is gathered
abbrev pub ungathered_status : GatherFault → Status
ungathered_status (gather_faults.Run fault) = fault_status fault
ungathered_status gather_faults.OtherTree = statuses.OtherTree

-- the status that it ends with
abbrev pub gather_status : GatherOutcome → Status
gather_status outcomes.Done = statuses.Done
gather_status (outcomes.Unread why) = unread_status why
gather_status (outcomes.Unhanded why) = unhanded_status why
gather_status (outcomes.Unsaid fault) = unsaid_status fault
gather_status (outcomes.Ungathered fault) = ungathered_status fault
gather_status outcomes.WriteFault = statuses.WriteFault

-- ---- what is read

-- A network, jobs that fit it, and files of answers are read from the files of these names.
pub record ReadUnder (files : Option Files) (w : Named) : Type 0 where
  pub network : Network
  pub jobs : Jobs
  pub jobs_under : JobsUnder files w.net w.jobs network jobs
  pub said : List AnswersFile
  pub say : SayUnder files w.answers said

-- jobs that fit a network are read, and one of the files of answers is longer than may be
pub record LongAnswersUnder (files : Option Files) (w : Named) (before after : ℕ) : Type 0 where
  pub handed : HandsOutUnder files w.net w.jobs
  pub name : List ℕ
  pub one : Contains w.answers name
  pub more : IsTooLong files name most_jobs before after

-- ---- what is written

-- What is written tells of the answers in files, which are gathered on the tree of entries. The journal held these.
pub record TellsUnder (files : Option Files) (w : Named) (text : List ℕ) : Type 0 where
  pub read : ReadUnder files w
  pub first : List Entry
  pub events : List Event
  pub told : IsToldOf (net_of read.network) read.jobs.splits read.jobs.jobs (items_of read.said) first events text

-- the texts that answer, by the status
abbrev pub GathersAs : Option Files → Named → Status → List ℕ → Type 0
GathersAs files w statuses.Done text = TellsUnder files w text
GathersAs files w status text = ⊥

-- ---- what is left of the journal

-- a run that read all files, and one as its journal
pub record GathersUnder (files : Option Files) (w : Named) (old new : DiskTold) (status : Status) (Prints : List ℕ → Type 0) : Type 0 where
  pub read : ReadUnder files w
  pub gathering : IsGatheringOf (net_of read.network) (canonical_text read.network) read.jobs.splits read.jobs.jobs (items_of read.said) old new status Prints

-- A run from the old state of the disk to the new one: it came to no file, or it read one.
abbrev pub GatherJournaled : Option Files → Named → (old new : DiskTold) → Status → (List ℕ → Type 0) → Type 0
GatherJournaled files w old new status Prints = CameToNoFile old new status ⊎ GathersUnder files w old new status Prints

-- ---- when each status comes

-- Each status comes only where its line holds of the files of these names; no other comes. The counts are of the bytes taken. Of the file of
-- the journal more is said in `specs/Journaled.antt`.
-- Promise: Each other status of `gather` comes only where it says so of the files: 3 where no network is read from NET, with its first cause; 5
--   where JOBS or an ANSWERS file has more than 67,108,864 bytes; 6 where JOBS spells no jobs, with its first faulty line, or where they don't
--   fit the network, with line 0; 0, 7, 21, 22 and 30 to 33 where all of them are read and JOBS spells jobs that fit the network
abbrev pub GatherEnds : Option Files → Named → (before after : ℕ) → Status → Type 0
GatherEnds files w before after statuses.Done = ReadUnder files w
GatherEnds files w before after statuses.WriteFault = ReadUnder files w
GatherEnds files w before after (statuses.NetworkRefused cause) = IsRefusedAs files w.net before after cause
GatherEnds files w before after statuses.CertTooLong = LongJobsUnder files w.net w.jobs before after ⊎ LongAnswersUnder files w before after
GatherEnds files w before after (statuses.JobsRefused line) = RefusesJobsUnder files w.net w.jobs line
GatherEnds files w before after statuses.OtherTree = ReadUnder files w
GatherEnds files w before after statuses.ReadFault = Unit {0}
GatherEnds files w before after statuses.DiskFault = ReadUnder files w
GatherEnds files w before after statuses.OtherNetwork = ReadUnder files w
GatherEnds files w before after (statuses.BadJournal number) = ReadUnder files w
GatherEnds files w before after (statuses.UnknownVersion version) = ReadUnder files w
GatherEnds files w before after statuses.NotAJournal = ReadUnder files w
GatherEnds files w before after statuses.OutOfMemory = Unit {0}
GatherEnds files w before after status = ⊥

-- Memory ran out where the network was to be read, or the jobs of a network that was read, or answers to jobs that were handed out, or of
-- the gathering, where all were read.
abbrev pub WantsUnder : Option Files → Named → GatherOutcome → Type 0
WantsUnder files w (outcomes.Unread why) = why ≡ unread.Memory
WantsUnder files w (outcomes.Unhanded why) = (why ≡ unhanded.Memory) × ReadsSome files w.net
WantsUnder files w (outcomes.Unsaid fault) = (fault ≡ shelf.Memory) × HandsOutUnder files w.net w.jobs
WantsUnder files w (outcomes.Ungathered fault) = (fault ≡ gather_faults.Run (run_faults.Journal journal_faults.Memory)) × ReadUnder files w
WantsUnder files w outcome = ⊥

-- all were read: what came of the answers was written, the sink failed, or it ended at the journal
abbrev pub IsTried : Status → Type 0
IsTried statuses.OtherTree = Unit {0}
IsTried status = IsAllTold status ⊎ IsJournalEnd status

-- the disk was not asked for any file
abbrev pub IsBeforeJournal : Status → Type 0
IsBeforeJournal (statuses.NetworkRefused cause) = Unit {0}
IsBeforeJournal statuses.CertTooLong = Unit {0}
IsBeforeJournal (statuses.JobsRefused line) = Unit {0}
IsBeforeJournal statuses.ReadFault = Unit {0}
IsBeforeJournal status = ⊥

-- which status comes, by what the told files say, where the run isn't cut short
pub record GatherDecided (told : Files) (w : Named) (status : Status) : Type 0 where
  -- Promise: Where no network is read from NET, the status is 3, or shelf or memory failed
  pub no_network : ReadsNone told w.net → IsNetworkRefused status ⊎ IsCutShort status
  -- Promise: Of JOBS that are too long the status is 5, or shelf or memory failed
  pub long_jobs : (before after : ℕ) → LongJobsUnder (Some told) w.net w.jobs before after → (status ≡ statuses.CertTooLong) ⊎ IsCutShort status
  -- Promise: JOBS that spell no jobs are refused at their first faulty line, and those that don't fit the network at line 0 (6), or shelf
  --   or memory failed
  pub refused : (line : ℕ) → RefusesJobsUnder (Some told) w.net w.jobs line → (status ≡ statuses.JobsRefused line) ⊎ IsCutShort status
  -- Promise: Where JOBS spells jobs that fit the network and an ANSWERS file is too long, the status is 5, or shelf or memory failed
  pub long_answers : (before after : ℕ) → LongAnswersUnder (Some told) w before after → (status ≡ statuses.CertTooLong) ⊎ IsCutShort status
  -- Promise: Where JOBS spells jobs that fit the network and no ANSWERS file is too long, what came of the answers is written, or the sink
  --   failed, or the run ended at the journal (7, 22, 30 to 33), or shelf or memory failed
  pub read : ReadUnder (Some told) w → IsTried status ⊎ IsCutShort status
