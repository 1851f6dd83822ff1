-- How a run ends, by what its words ask.
use Rattle.std.specs.Prelude.{◌≡◌, ◌⊎◌, ℕ, List, Option, None, Some}
use Rattle.std.specs.List.{Contains}
use Rattle.edge_io.specs.Writing.{behind}
use Rattle.disk_calls.specs.Disks.{DiskTold}
use Rattle.pool_model.specs.Network.{Network}
use Rattle.cert_format.specs.Text.{text_of}
use Rattle.job_texts.specs.Texts.{jobs_text}
use Rattle.cli_words.specs.Requests.{Asked, solve, check, report, formulate, make, trial, jobs, work, gather, tight, checktight}
use Rattle.cli_words.specs.declared.request.WordsFault.{WordsFault}
use Rattle.cli_words.specs.declared.request.WordsFault.TheVariants as faults
use Rattle.run_status.specs.Reads.{Files, ReadsUnder}
use Rattle.run_status.specs.Took.{Took}
use Rattle.solve_command.specs.Gaps.{IsGapAsked}
use Rattle.solve_command.specs.Journaled.{Journaled}
use Rattle.solve_command.specs.SolveEnds.{SolveDecided, SolveEnds, SolvesAs}
use Rattle.certificate_commands.specs.CheckEnds.{CheckDecided, CheckEnds, ChecksAs}
use Rattle.certificate_commands.specs.ReportEnds.{ReportDecided, ReportEnds, ReportsAs}
use Rattle.job_commands.specs.JobsEnds.{JobsAs, JobsDecided, JobsEnds}
use Rattle.job_commands.specs.Kept.{JobsJournaled}
use Rattle.job_commands.specs.WorkEnds.{HandsOutUnder, WorkDecided, WorkEnds, WorksAs}
use Rattle.tight_commands.specs.Certified.{CertifiesSome}
use Rattle.tight_commands.specs.CheckTightEnds.{CheckTightDecided, CheckTightEnds, ChecksTightAs}
use Rattle.tight_commands.specs.TightEnds.{TightDecided, TightEnds, TightsAs}
use Rattle.gather_command.specs.GatherEnds.{GatherDecided, GatherEnds, GatherJournaled, GathersAs, Named, ReadUnder}
use Rattle.pool_cli.specs.FormulateEnds.{FormulateDecided, FormulateEnds, FormulatesAs}
use Rattle.pool_cli.specs.MakeEnds.{MakeDecided, MakeEnds, MakesAs}
use Rattle.pool_cli.specs.TrialEnds.{TrialDecided, TrialEnds, TriesAs}
use Rattle.run_status.specs.declared.status.Status.{Status}
use Rattle.run_status.specs.declared.status.Status.TheVariants as statuses

-- the files that `gather` asks the shelf for
abbrev pub named : (net file : List ℕ) → (answers : List (List ℕ)) → Named
named net file answers = record { net = net; jobs = file; answers = answers }

-- the texts that answer what is asked, by the status
abbrev pub AnswersAs : Option Files → Asked → Status → List ℕ → Type 0
AnswersAs files (solve s) = SolvesAs files s
AnswersAs files (check net cert) = ChecksAs files net cert
AnswersAs files (report net cert) = ReportsAs files net cert
AnswersAs files (formulate net form) = FormulatesAs files net form
AnswersAs files (make number) = MakesAs number
AnswersAs files (trial number) = TriesAs number
AnswersAs files (jobs net journal count) = JobsAs files net count
AnswersAs files (work net file form) = WorksAs files net file form
AnswersAs files (gather net file answers journal) = GathersAs files (named net file answers)
AnswersAs files (tight net cert form pivots) = TightsAs files net cert form pivots
AnswersAs files (checktight net cert marks) = ChecksTightAs files net cert marks

-- this holds, or memory ran out at the words
-- Promise: Memory may run out at the words of `tight` (23), whatever they ask
abbrev pub OrNoWords : Status → Type 0 → Type 0
OrNoWords status Holds = Holds ⊎ (status ≡ statuses.OutOfMemory)

-- Each status comes only where its line holds. The counts are of the bytes taken.
abbrev pub EndsAs : Option Files → (before after : ℕ) → Asked → Status → Type 0
EndsAs files before after (solve s) status = SolveEnds files s before after status
EndsAs files before after (check net cert) status = CheckEnds files net cert before after status
EndsAs files before after (report net cert) status = ReportEnds files net cert before after status
EndsAs files before after (formulate net form) status = FormulateEnds files net before after status
EndsAs files before after (make number) status = MakeEnds status
EndsAs files before after (trial number) status = TrialEnds status
EndsAs files before after (jobs net journal count) status = JobsEnds files net before after status
EndsAs files before after (work net file form) status = WorkEnds files net file before after status
EndsAs files before after (gather net file answers journal) status = GatherEnds files (named net file answers) before after status
EndsAs files before after (tight net cert form pivots) status = OrNoWords status (TightEnds files net cert pivots before after status)
EndsAs files before after (checktight net cert marks) status = CheckTightEnds files net cert marks before after status

-- which status comes, by what the told files say
abbrev pub DecidedAs : Files → Asked → Status → Type 0
DecidedAs told (solve s) status = SolveDecided told s status
DecidedAs told (check net cert) status = CheckDecided told net cert status
DecidedAs told (report net cert) status = ReportDecided told net cert status
DecidedAs told (formulate net form) status = FormulateDecided told net status
DecidedAs told (make number) status = MakeDecided status
DecidedAs told (trial number) status = TrialDecided status
DecidedAs told (jobs net journal count) status = JobsDecided told net status
DecidedAs told (work net file form) status = WorkDecided told net file status
DecidedAs told (gather net file answers journal) status = GatherDecided told (named net file answers) status
DecidedAs told (tight net cert form pivots) status = OrNoWords status (TightDecided told net cert pivots status)
DecidedAs told (checktight net cert marks) status = CheckTightDecided told net cert marks status

-- usage, or want of memory
abbrev pub IsUnanswered : Status → Type 0
IsUnanswered statuses.Usage = Unit {0}
IsUnanswered statuses.OutOfMemory = Unit {0}
IsUnanswered status = ⊥

-- no journal is named
abbrev pub HasNoJournal : Asked → Type 0
HasNoJournal (solve s) = s.journal ≡ None
HasNoJournal (jobs net journal count) = ⊥
HasNoJournal (gather net file answers journal) = ⊥
HasNoJournal asked = Unit {0}

-- What a run leaves of the journal that is named, from the old state of the disk to the new one, where standard output took this before and
-- that after.
abbrev pub LeavesAs : Option Files → (old new : DiskTold) → (before after : Option (List ℕ)) → Asked → Status → Type 0
LeavesAs files old new before after (solve s) status =
    (file : List ℕ) → s.journal ≡ Some file → Journaled files s old new status (λ c. after ≡ behind before (text_of c))
LeavesAs files old new before after (jobs net journal count) status = JobsJournaled files net count old new status (λ j. after ≡ behind before (jobs_text j))
LeavesAs files old new before after (gather net file answers journal) status =
    GatherJournaled files (named net file answers) old new status (λ text. Took (λ _ t. t ≡ text) status before after)
LeavesAs files old new before after asked status = Unit {0}

-- ---- what is asked for

-- what `gather` asks of the shelf and of the disk
pub record IsGatherAdmitted (Shelf Disk : List ℕ → Type 0) (files : Option Files) (w : Named) (journal : List ℕ) : Type 0 where
  pub net : Shelf w.net
  -- Promise: JOBS is asked for only where a network is read from NET
  pub jobs : (network : Network) → ReadsUnder files w.net network → Shelf w.jobs
  -- Promise: ANSWERS are asked for only where JOBS spells jobs that fit the network
  pub answers : HandsOutUnder files w.net w.jobs → (name : List ℕ) → Contains w.answers name → Shelf name
  -- Promise: The disk is asked for the file of `--journal` alone, and only where NET, JOBS and ANSWERS were read
  pub disk : ReadUnder files w → Disk journal

-- what `checktight` asks of the shelf
pub record IsMarksAdmitted (Shelf : List ℕ → Type 0) (files : Option Files) (net cert marks : List ℕ) : Type 0 where
  pub network : Shelf net
  -- Promise: CERT is asked for only where a network is read from NET
  pub certificate : (network : Network) → ReadsUnder files net network → Shelf cert
  -- Promise: TIGHT is asked for only where CERT has the text of a certificate that is valid for the network of NET
  pub text : CertifiesSome files net cert → Shelf marks

-- `Shelf` and `Disk` hold of the names that shelf and disk are asked for: a certificate, or jobs, only where a network is read.
-- Promise: CERT is asked for only where a network is read from NET
-- Promise: JOBS is asked for only where a network is read from NET
-- Promise: The disk is asked for the file of `--journal` alone
abbrev pub IsAdmitted : (Shelf Disk : List ℕ → Type 0) → Option Files → Asked → Type 0
IsAdmitted Shelf Disk files (solve s) = Shelf s.net × ((file : List ℕ) → s.journal ≡ Some file → Disk file)
IsAdmitted Shelf Disk files (check net cert) = Shelf net × ((network : Network) → ReadsUnder files net network → Shelf cert)
IsAdmitted Shelf Disk files (report net cert) = Shelf net × ((network : Network) → ReadsUnder files net network → Shelf cert)
IsAdmitted Shelf Disk files (formulate net form) = Shelf net
IsAdmitted Shelf Disk files (jobs net journal count) = Shelf net × Disk journal
IsAdmitted Shelf Disk files (work net file form) = Shelf net × ((network : Network) → ReadsUnder files net network → Shelf file)
IsAdmitted Shelf Disk files (gather net file answers journal) = IsGatherAdmitted Shelf Disk files (named net file answers) journal
IsAdmitted Shelf Disk files (tight net cert form pivots) = Shelf net × ((network : Network) → ReadsUnder files net network → Shelf cert)
IsAdmitted Shelf Disk files (checktight net cert marks) = IsMarksAdmitted Shelf files net cert marks
IsAdmitted Shelf Disk files asked = Unit {0}

-- ---- words of the inner contracts

-- the status of words that no request was read from
abbrev pub words_status : WordsFault → Status
words_status faults.Usage = statuses.Usage
words_status faults.Memory = statuses.OutOfMemory

-- the gap that is asked for, if any, is one that a search takes
abbrev pub HasFairGap : Asked → Type 0
HasFairGap (solve s) = IsGapAsked s.gap
HasFairGap asked = Unit {0}
