-- What is gathered from, in the words of the inner contracts, and how the rest of a run ends.
use Rattle.std.specs.Prelude.{◌≡◌, ◌⊎◌, ℕ, List, Option, Result, MatchResult}
use Rattle.disk_calls.specs.Disks.{DiskTold}
use Rattle.shelf_calls.specs.Told.{ShelfTold}
use Rattle.pool_model.specs.Network.{Net, Network, net_of}
use Rattle.row_model.specs.Trees.{Split}
use Rattle.row_model.specs.Entries.{Entry}
use Rattle.job_texts.specs.Texts.{Jobs}
use Rattle.gathered_run.specs.Files.{Item}
use Rattle.gathered_run.specs.Events.{Event}
use Rattle.gathered_run.specs.declared.told.Gathered.{Gathered}
use Rattle.gathered_run.specs.declared.fault.GatherFault.{GatherFault}
use Rattle.job_commands.specs.Handed.{IsHandedOut, IsUnhanded, JobsUnder}
use Rattle.job_commands.specs.WorkEnds.{HandsOutUnder}
use Rattle.job_commands.specs.declared.handed.Unhanded.{Unhanded}
use Rattle.journal_status.specs.JournalEnds.{CameToNoFile}
use Rattle.work_units.specs.Desks.{desk_of}
use Rattle.work_units.specs.declared.job.Job.{Job}
use Rattle.run_status.specs.Reads.{Files, ReadsUnder}
use Rattle.run_status.specs.Unreads.{IsUnread}
use Rattle.gather_command.specs.Answers.{IsOneUnsaid, SayUnder}
use Rattle.gather_command.specs.Told.{told_text}
use Rattle.gather_command.specs.Journaled.{IsAllTold, IsGatheringOf, IsToldOf}
use Rattle.gather_command.specs.GatherEnds.{ungathered_status}
use Rattle.gather_command.specs.declared.brought.Brought.{Brought}
use Rattle.gather_command.specs.declared.outcome.GatherOutcome.{GatherOutcome}
use Rattle.gather_command.specs.declared.outcome.GatherOutcome.TheVariants as outcomes
use Rattle.run_status.specs.declared.status.Status.{Status}
use Rattle.run_status.specs.declared.status.Status.TheVariants as statuses

-- ---- what is read

-- these are the network, the jobs and the answers in the files of these names
pub record IsBrought (files : Option Files) (net jobs : List ℕ) (answers : List (List ℕ)) (b : Brought) : Type 0 where
  pub jobs_text : Jobs
  pub under : JobsUnder files net jobs b.network jobs_text
  pub handed : IsHandedOut (net_of b.network) jobs_text b.handed
  pub say : SayUnder files answers b.files.items

-- a network is read, and no jobs are handed out
pub record IsUnhandedUnder (net jobs : List ℕ) (before after : ShelfTold) (why : Unhanded) : Type 0 where
  pub network : Network
  pub reads : ReadsUnder before.files net network
  pub unhanded : IsUnhanded (net_of network) jobs before after why

-- why they are not all read
abbrev pub IsUnbrought : (net jobs : List ℕ) → (answers : List (List ℕ)) → (before after : ShelfTold) → GatherOutcome → Type 0
IsUnbrought net jobs answers before after (outcomes.Unread why) = IsUnread net before after why
IsUnbrought net jobs answers before after (outcomes.Unhanded why) = IsUnhandedUnder net jobs before after why
IsUnbrought net jobs answers before after (outcomes.Unsaid fault) = HandsOutUnder before.files net jobs × IsOneUnsaid answers before after fault
IsUnbrought net jobs answers before after outcome = ⊥

-- ---- what is gathered

-- what is written of it
abbrev pub text_of : Net → Gathered → List ℕ
text_of n g = told_text n g.lines.items (desk_of g.desk)

-- this is written where it is done
abbrev pub WritesAs : Net → Gathered → Status → List ℕ → Type 0
WritesAs n g status text = (status ≡ statuses.Done) × (text ≡ text_of n g)

-- its text tells of answers that were gathered on the tree of entries
pub record IsToldBy (n : Net) (splits : List Split) (jobs : List Job) (items : List Item) (g : Gathered) : Type 0 where
  pub first : List Entry
  pub events : List Event
  pub told : IsToldOf n splits jobs items first events (text_of n g)

-- What is left of the journal: no file was attached, and no image is new; or one was read.
abbrev pub IsLeft : Net → List ℕ → List Split → List Job → List Item → (old new : DiskTold) → Result Gathered GatherFault → Type 0
IsLeft n text splits jobs items old new result = MatchResult result
    (λ g. (status : Status) → IsAllTold status → IsGatheringOf n text splits jobs items old new status (λ t. t ≡ text_of n g))
    (λ fault. CameToNoFile old new (ungathered_status fault) ⊎ IsGatheringOf n text splits jobs items old new (ungathered_status fault) (λ _. ⊥))
