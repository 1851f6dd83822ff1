-- How `work` ends.
use Rattle.std.specs.Prelude.{◌≡◌, ◌⊎◌, ℕ, ◌<◌, List, length, map, Option, Some}
use Rattle.pool_model.specs.Network.{Net, Network, net_of}
use Rattle.row_model.specs.Trees.{most_splits}
use Rattle.row_model.specs.Entries.{Searched, made_by}
use Rattle.box_space.specs.declared.coordinates.Form.{Form}
use Rattle.work_units.specs.Units.{Answer}
use Rattle.job_texts.specs.Texts.{Jobs}
use Rattle.job_trees.specs.Fitting.{bare}
use Rattle.job_work.specs.Answered.{AreAnswered, AreWorked, FitDesks}
use Rattle.run_status.specs.Reads.{Files, IsRefusedAs, ReadsNone, ReadsUnder}
use Rattle.run_status.specs.Took.{IsCutShort, IsNetworkRefused, unread_status}
use Rattle.run_status.specs.declared.reading.Unread.TheVariants as unread
use Rattle.run_status.specs.declared.status.Status.{Status}
use Rattle.run_status.specs.declared.status.Status.TheVariants as statuses
use Rattle.job_commands.specs.Handed.{IsWritten, JobsUnder, LongJobsUnder, RefusesJobsUnder, SpellsAnswers, unhanded_status}
use Rattle.job_commands.specs.declared.handed.Unhanded.TheVariants as unhanded
use Rattle.job_commands.specs.declared.working.WorkOutcome.{WorkOutcome}
use Rattle.job_commands.specs.declared.working.WorkOutcome.TheVariants as outcomes

-- the status that it ends with
abbrev pub work_status : WorkOutcome → Status
work_status outcomes.Done = statuses.Done
work_status (outcomes.Unread why) = unread_status why
work_status (outcomes.Unhanded why) = unhanded_status why
work_status outcomes.Memory = statuses.OutOfMemory
work_status outcomes.WriteFault = statuses.WriteFault

-- ---- what is printed

-- the tree that jobs are on: what their splits make of nothing, without proofs
abbrev pub tree_of : Jobs → Searched
tree_of j = made_by (map bare j.splits)

-- The text is that of answers to the jobs. There is one for each job whose leaf can be cut at a coordinate of the form, in the order of the
-- jobs, and none for the others; each brings what work on the job's leaf gives, and a desk over the tree takes each.
pub record IsWorkOn (n : Net) (form : Form) (j : Jobs) (text : List ℕ) : Type 0 where
  pub answers : List Answer
  -- Promise: What `work` prints has one answer to each job of JOBS whose leaf has a coordinate of the form that can be cut, in the order of
  --   the jobs, and no other
  pub answered : AreAnswered n form j.splits j.jobs answers
  -- Promise: Each answer that `work` prints cuts its job's leaf in the middle of the widest coordinate of the form, and proves its halves as
  --   the definition says
  pub worked : AreWorked n form (tree_of j) j.jobs answers
  -- Promise: A desk over the tree of JOBS takes each answer that `work` prints, while the tree has room for one more split
  pub fit : length j.splits < most_splits → FitDesks n (tree_of j) j.jobs answers
  -- Promise: What `work` prints is the text of its answers, and is read as these and as no others
  pub spelled : SpellsAnswers text answers

-- the texts that answer on jobs, by the status
abbrev pub AnswersJobs : Net → Form → Jobs → Status → List ℕ → Type 0
AnswersJobs n form j statuses.Done text = IsWorkOn n form j text
AnswersJobs n form j status text = ⊥

-- the texts that answer on the jobs under the second name, for the network under the first, by the status
abbrev pub WorksAs : Option Files → (net jobs : List ℕ) → Form → Status → List ℕ → Type 0
WorksAs files net jobs form status text = (network : Network) × ((j : Jobs) × JobsUnder files net jobs network j × AnswersJobs (net_of network) form j status text)

-- ---- when each status comes

-- a network is read from the file of the first name, and jobs that fit it from that of the second
abbrev pub HandsOutUnder : Option Files → (net jobs : List ℕ) → Type 0
HandsOutUnder files net jobs = (network : Network) × ((j : Jobs) × JobsUnder files net jobs network j)

-- Each status comes only where its line holds of the files of these names; no other comes. The counts are of the bytes taken.
-- Promise: Each other status of `work` comes only where it says so of the files: 3 where no network is read from NET, with its first cause; 5
--   where JOBS has more than 67,108,864 bytes; 6 where JOBS spells no jobs, with its first faulty line, or where they don't fit the network,
--   with line 0; 0 and 21 where JOBS spells jobs that fit it
abbrev pub WorkEnds : Option Files → (net jobs : List ℕ) → (before after : ℕ) → Status → Type 0
WorkEnds files net jobs before after statuses.Done = HandsOutUnder files net jobs
WorkEnds files net jobs before after statuses.WriteFault = HandsOutUnder files net jobs
WorkEnds files net jobs before after statuses.CertTooLong = LongJobsUnder files net jobs before after
WorkEnds files net jobs before after (statuses.JobsRefused line) = RefusesJobsUnder files net jobs line
WorkEnds files net jobs before after (statuses.NetworkRefused cause) = IsRefusedAs files net before after cause
WorkEnds files net jobs before after statuses.ReadFault = Unit {0}
WorkEnds files net jobs before after statuses.OutOfMemory = Unit {0}
WorkEnds files net jobs before after status = ⊥

-- how work on jobs that were handed out may end
abbrev pub IsTried : WorkOutcome → Type 0
IsTried outcomes.Done = Unit {0}
IsTried outcomes.Memory = Unit {0}
IsTried outcomes.WriteFault = Unit {0}
IsTried outcome = ⊥

-- Memory ran out where the network was to be read, or the jobs of a network that was read, or in the work on jobs that were handed out.
abbrev pub WantsUnder : Option Files → (net jobs : List ℕ) → WorkOutcome → Type 0
WantsUnder files net jobs (outcomes.Unread why) = why ≡ unread.Memory
WantsUnder files net jobs (outcomes.Unhanded why) = (why ≡ unhanded.Memory) × ((network : Network) × ReadsUnder files net network)
WantsUnder files net jobs outcomes.Memory = HandsOutUnder files net jobs
WantsUnder files net jobs outcome = ⊥

-- which status comes, by what the told files say, where the run isn't cut short
pub record WorkDecided (told : Files) (net jobs : List ℕ) (status : Status) : Type 0 where
  -- Promise: Where no network is read from NET, the status is 3, or shelf or memory failed
  pub no_network : ReadsNone told net → IsNetworkRefused status ⊎ IsCutShort status
  -- Promise: Of JOBS that are too long the status is 5, or shelf or memory failed
  pub too_long : (before after : ℕ) → LongJobsUnder (Some told) net jobs before after → (status ≡ statuses.CertTooLong) ⊎ IsCutShort status
  -- Promise: JOBS that spell no jobs are refused at their first faulty line, and those that don't fit the network at line 0 (6), or shelf
  --   or memory failed
  pub refused : (line : ℕ) → RefusesJobsUnder (Some told) net jobs line → (status ≡ statuses.JobsRefused line) ⊎ IsCutShort status
  -- Promise: Of JOBS that spell jobs which fit the network answers are printed, or shelf, sink or memory failed
  pub handed : HandsOutUnder (Some told) net jobs → IsWritten status ⊎ IsCutShort status
