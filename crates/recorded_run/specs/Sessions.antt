-- What a run holds between two steps, how its entries are recorded, and what it leaves.
use Rattle.std.specs.Prelude.{◌≡◌, ◌⊎◌, ℕ, List, [], ◌∷◌, ◌++◌, IsTrue, false, Some, Result, MatchResult}
use Rattle.disk_calls.specs.Disks.{DiskTold, LeavesOnly}
use Rattle.pool_model.specs.Network.{Net}
use Rattle.row_model.specs.Entries.{Entry, Searched, made_by, AreInOrder}
use Rattle.journal_format.specs.Files.{Stands}
use Rattle.journal_format.specs.Longest.{longest}
use Rattle.journal_format.specs.Records.{Place, IsKeptAt}
use Rattle.node_journal.specs.Journals.{Ready, IsLeft, IsBeforeOrAfter}
use Rattle.node_journal.specs.Settled.{IsOnDisk}
use Rattle.search_core.specs.Searches.{IsSearchOf, Searching}
use Rattle.search_run.specs.Found.{IsFound}
use Rattle.search_run.specs.Orders.{options_of}
use Rattle.search_run.specs.Runs.{IsRun}
use Rattle.search_core.specs.declared.ended.Ended.{Ended}
use Rattle.search_run.specs.declared.orders.Orders.{Orders}
use Rattle.journal_format.specs.declared.fault.JournalFault.TheVariants.{Memory}
use Rattle.journal_format.specs.declared.version.Version.TheVariants.{Two}
use Rattle.recorded_run.specs.Recorded.{BeginsWith, HasFewSplits, IsBetween, IsRecorded, StandsNow}
use Rattle.recorded_run.specs.Acknowledged.{KeepsAcknowledged}
use Rattle.recorded_run.specs.declared.fault.RunFault.{RunFault}
use Rattle.recorded_run.specs.declared.fault.RunFault.TheVariants.{Journal}

-- the search is the network's and asks for what was ordered
pub record IsOrdered (n : Net) (o : Orders) (s : Searching) : Type 0 where
  pub search : IsSearchOf n s
  pub options : s.options ≡ options_of o

-- the journal takes each entry that is in order on the network, and where the disk tells, it reads as the journal left it
pub record TakesEach (n : Net) (journal : Ready) (d : DiskTold) : Type 0 where
  pub largest : journal.largest ≡ longest n
  pub usable : journal.failed ≡ false
  pub left : IsTrue d.tells → IsLeft journal d

-- the place of a run that records nothing
abbrev pub nowhere : Place
nowhere = record { gate = 0; version = Two }

-- one entry more stands on the disk, with the next record's place behind it
abbrev pub Puts : Entry → Place → DiskTold → Place → DiskTold → Type 0
Puts e before old after new = (text file : List ℕ) (list : List Entry) → IsOnDisk file old → IsKeptAt before text list file
    → (then : List ℕ) × IsOnDisk then new × IsKeptAt after text (list ++ e ∷ []) then

-- meanwhile a crash at any moment leaves the file for the list, or for the list with the entry
abbrev pub LeavesOneOrBoth : Entry → Place → DiskTold → DiskTold → Type 0
LeavesOneOrBoth e before old new = (text file : List ℕ) (list : List Entry) → IsOnDisk file old → IsKeptAt before text list file
    → LeavesOnly old new (IsBeforeOrAfter text list e)

-- A run from a list that the disk holds: a crash at any moment leaves the network's own file, for a list between that one and the
-- last, and no acknowledged entry is lost; the last has few splits, also where the run failed. Where the run came to its end the disk holds
-- the last, and the tree is made of it; where memory ran out the file stands for it.
pub record IsRecordedRun (n : Net) (text : List ℕ) (o : Orders) (first : List Entry) (old new : DiskTold) (next : Place) (s : Searched) (result : Result Ended RunFault) : Type 0 where
  pub last : List Entry
  pub begins : BeginsWith last first
  pub any_moment : LeavesOnly old new (IsBetween n text first last)
  pub acknowledged : KeepsAcknowledged n text first last old new
  pub few : HasFewSplits o first last
  pub held : MatchResult result
      (λ _. IsRecorded n text last next s new)
      (λ fault. fault ≡ Journal Memory → StandsNow n text last new)

-- What is recorded on a file that is the network's own and stands for the first list. A crash at any moment leaves what it might have left
-- before, or the network's own file for a list between the first and the last, and no acknowledged entry is lost. Of the last list more is
-- known.
pub record IsGrownFrom (n : Net) (text : List ℕ) (first : List Entry) (old new : DiskTold) (IsKnown : List Entry → Type 0) : Type 0 where
  pub last : List Entry
  pub begins : BeginsWith last first
  pub any_moment : LeavesOnly old new (λ c. old.may_leave c ⊎ IsBetween n text first last c)
  pub acknowledged : KeepsAcknowledged n text first last old new
  pub known : IsKnown last

-- no list that the last one begins with has more splits than were asked for, or than the first has
-- Promise: A run on the network's own file leaves no list with more splits than were asked for, or than it began with, also where it
--   fails or is stopped at any moment
abbrev pub HaveFewSplits : Orders → (first last : List Entry) → Type 0
HaveFewSplits o first last = (list : List Entry) → BeginsWith last list → HasFewSplits o first list

-- so it is of a run that was asked for so many splits
abbrev pub IsRunFrom : Net → List ℕ → Orders → (first : List Entry) → (old new : DiskTold) → (IsKnown : List Entry → Type 0) → Type 0
IsRunFrom n text o first old new IsKnown = IsGrownFrom n text first old new (λ last. HaveFewSplits o first last × IsKnown last)

-- What was found by going on from entries: they are in order, and the file stands for them, where it is known what a read of it gives;
-- the run begins with the tree of them, and what follows of its tree holds.
pub record IsResumed (n : Net) (o : Orders) (text : List ℕ) (d : DiskTold) (found : Searched) (ended : Ended) : Type 0 where
  pub first : List Entry
  pub in_order : AreInOrder n first
  -- Promise: Where the disk tells: the entries that the run goes on from are those that the file stands for, all of them
  pub stands : (file : List ℕ) → d.reads ≡ Some file → Stands file text first
  pub run : IsRun n o (made_by first) found ended
  pub search : IsFound n o (made_by first) found ended
