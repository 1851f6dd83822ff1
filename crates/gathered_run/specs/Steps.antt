-- What a gathering leaves, step by step.
use Rattle.std.specs.Prelude.{◌≡◌, ℕ, List, ◌++◌, map, false}
use Rattle.disk_calls.specs.Disks.{DiskTold, LeavesOnly}
use Rattle.pool_model.specs.Network.{Net}
use Rattle.row_model.specs.Entries.{Entry}
use Rattle.box_tree.specs.Kept.{IsOf}
use Rattle.journal_format.specs.Longest.{longest}
use Rattle.journal_format.specs.declared.fault.JournalFault.TheVariants.{Memory}
use Rattle.recorded_run.specs.Recorded.{BeginsWith, IsBetween, IsRecorded, StandsNow}
use Rattle.recorded_run.specs.Acknowledged.{KeepsAcknowledged}
use Rattle.recorded_run.specs.declared.fault.RunFault.{RunFault}
use Rattle.recorded_run.specs.declared.fault.RunFault.TheVariants.{Journal}
use Rattle.work_units.specs.Desks.{desk_of}
use Rattle.gathered_run.specs.Files.{Item}
use Rattle.gathered_run.specs.Events.{Event, item_of, line_of, gains, desk_after, AreJudged}
use Rattle.gathered_run.specs.Gatherings.{IsReached}
use Rattle.gathered_run.specs.declared.gathering.Gathering.{Gathering}

-- the desk's tree is the network's, and its journal takes each entry that is in order
pub record IsReady (n : Net) (g : Gathering) : Type 0 where
  pub tree : IsOf n g.desk.tree
  pub largest : g.journal.largest ≡ longest n
  pub usable : g.journal.failed ≡ false

-- From one list to another: a crash at any moment leaves the network's own file for a list between the two, and no acknowledged entry is
-- lost.
pub record Grows (n : Net) (text : List ℕ) (first last : List Entry) (old new : DiskTold) : Type 0 where
  pub begins : BeginsWith last first
  pub any_moment : LeavesOnly old new (IsBetween n text first last)
  pub acknowledged : KeepsAcknowledged n text first last old new

-- the disk holds the last list, and the desk's tree is made of it
pub record GrowsTo (n : Net) (text : List ℕ) (first last : List Entry) (old new : DiskTold) (now : Gathering) : Type 0 where
  pub grows : Grows n text first last old new
  pub held : IsRecorded n text last now.journal.next (desk_of now.desk).searched new

-- What is brought was taken as the events say: a line tells of each, the desk is the one after them, and the disk holds the entries of
-- those that fitted behind the ones from before.
pub record AreTaken (n : Net) (items : List Item) (was now : Gathering) (old new : DiskTold) : Type 0 where
  pub events : List Event
  pub of_items : map item_of events ≡ items
  pub lines : now.lines.items ≡ was.lines.items ++ map line_of events
  pub judged : AreJudged n (desk_of was.desk) events
  pub desk : desk_of now.desk ≡ desk_after (desk_of was.desk) events
  pub recorded : (text : List ℕ) (first : List Entry) → IsRecorded n text first was.journal.next (desk_of was.desk).searched old
      → GrowsTo n text first (first ++ gains events) old new now

-- how far it came where it failed, from a list that the disk holds
pub record IsStopped (n : Net) (text : List ℕ) (items : List Item) (was : Gathering) (first : List Entry) (old new : DiskTold) (fault : RunFault) : Type 0 where
  pub last : List Entry
  pub grows : Grows n text first last old new
  pub reached : IsReached n (desk_of was.desk) items first last
  pub stands : fault ≡ Journal Memory → StandsNow n text last new

abbrev pub AreStopped : Net → List Item → Gathering → (old new : DiskTold) → RunFault → Type 0
AreStopped n items was old new fault = (text : List ℕ) (first : List Entry) → IsRecorded n text first was.journal.next (desk_of was.desk).searched old
    → IsStopped n text items was first old new fault
