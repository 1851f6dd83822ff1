-- What `gather` leaves of the journal, and what it tells of it.
use Rattle.std.specs.Prelude.{◌≡◌, ◌⊎◌, ℕ, List, ◌++◌, map}
use Rattle.disk_calls.specs.Disks.{DiskTold}
use Rattle.pool_model.specs.Network.{Net}
use Rattle.row_model.specs.Trees.{Split}
use Rattle.row_model.specs.Entries.{Entry, made_by, AreInOrder}
use Rattle.journal_format.specs.Files.{Stands}
use Rattle.recorded_run.specs.Recorded.{IsNetworksOwn, StandsNow}
use Rattle.recorded_run.specs.Sessions.{IsGrownFrom}
use Rattle.work_units.specs.declared.job.Job.{Job}
use Rattle.gathered_run.specs.Files.{Item}
use Rattle.gathered_run.specs.Events.{Event, item_of, line_of, gains, desk_after, AreJudged}
use Rattle.gathered_run.specs.Gatherings.{BeginWith, IsReached, begun}
use Rattle.gathered_run.specs.Causes.{IsOfOtherTree}
use Rattle.journal_status.specs.JournalEnds.{HoldsOnDisk, IsAttachedTo, IsFailed}
use Rattle.gather_command.specs.Told.{told_text}
use Rattle.run_status.specs.declared.status.Status.{Status}
use Rattle.run_status.specs.declared.status.Status.TheVariants as statuses

-- all answers were gathered: what came of them was written, or the sink failed
abbrev pub IsAllTold : Status → Type 0
IsAllTold statuses.Done = Unit {0}
IsAllTold statuses.WriteFault = Unit {0}
IsAllTold status = ⊥

-- ---- what is told

-- The text tells what came of what files bring, on a desk with these jobs over the tree of these entries.
pub record IsToldOf (n : Net) (splits : List Split) (jobs : List Job) (items : List Item) (first : List Entry) (events : List Event) (text : List ℕ) : Type 0 where
  -- Promise: `gather` goes on from entries that are in order, one after another
  pub in_order : AreInOrder n first
  -- Promise: Answers are gathered only where the tree of the journal's entries begins with the splits of JOBS
  pub same_tree : BeginWith (made_by first).tree.splits splits
  -- Promise: Each answer of each ANSWERS file is judged and told of, file after file and in order, and so is each file told of that spells no
  --   answers, by its number from 0 and its first faulty line
  pub of_files : map item_of events ≡ items
  -- Promise: Each answer is told as a desk judges it after the answers before it
  pub judged : AreJudged n (begun first jobs) events
  -- Promise: The last line of `gather` tells how many answers were taken, and splits and bound of the tree of the journal's entries with those
  --   of the taken answers behind them
  pub tree : (desk_after (begun first jobs) events).searched ≡ made_by (first ++ gains events)
  -- Promise: What `gather` writes is the text of the definition, line by line
  pub spelled : text ≡ told_text n (map line_of events) (desk_after (begun first jobs) events)

-- ---- a file of the network's own

-- The file grew by exactly the entries of the answers that were taken, every crash leaves it, and what is written tells of just these.
pub record IsGrownByTold (n : Net) (text : List ℕ) (splits : List Split) (jobs : List Job) (items : List Item) (first last : List Entry) (new : DiskTold) (Prints : List ℕ → Type 0) : Type 0 where
  pub events : List Event
  pub told : List ℕ
  pub is_told : IsToldOf n splits jobs items first events told
  pub prints : Prints told
  pub grown : last ≡ first ++ gains events
  pub held : HoldsOnDisk n text last new

-- How the last list comes from the first, by the status.
pub record IsGatheredTo (n : Net) (text : List ℕ) (splits : List Split) (jobs : List Job) (items : List Item) (first last : List Entry) (new : DiskTold)
    (status : Status) (Prints : List ℕ → Type 0) : Type 0 where
  -- Promise: Under 0 and 21 of `gather` the network's own file grew by exactly the entries of the answers that were taken, in order, and every
  --   crash leaves that file
  pub whole : IsAllTold status → IsGrownByTold n text splits jobs items first last new Prints
  -- Promise: Under 22 and 23 of `gather` the network's own file grew by the entries of the answers that fit, of those up to where it failed,
  --   in order, and by at most one more, which was judged to fit last
  pub part : IsFailed status → IsReached n (begun first jobs) items first last
  -- Promise: Under 7 the network's own file stands for what it stood for
  pub same : status ≡ statuses.OtherTree → last ≡ first
  -- Promise: Where memory ran out in `gather`, the network's own file that reads at the end stands for the last list
  pub stands : (status ≡ statuses.OtherTree) ⊎ (status ≡ statuses.OutOfMemory) → StandsNow n text last new

-- ---- a file that was attached

-- What is written tells of answers that were gathered on the tree of the entries that the file stands for, all of them.
pub record IsToldFrom (n : Net) (text : List ℕ) (splits : List Split) (jobs : List Job) (items : List Item) (file : List ℕ) (Prints : List ℕ → Type 0) : Type 0 where
  pub first : List Entry
  pub stands : Stands file text first
  pub events : List Event
  pub told : List ℕ
  pub is_told : IsToldOf n splits jobs items first events told
  pub prints : Prints told

-- A run that attached a file, where jobs on a tree and what files bring are these.
pub record IsGatheringOf (n : Net) (text : List ℕ) (splits : List Split) (jobs : List Job) (items : List Item) (old new : DiskTold) (status : Status) (Prints : List ℕ → Type 0) : Type 0 where
  pub file : List ℕ
  pub attached : IsAttachedTo n text file old new status
  -- Promise: 7 comes only where the file that was attached stands for entries in order whose tree doesn't begin with the splits of JOBS
  pub other : status ≡ statuses.OtherTree → IsOfOtherTree n text splits file
  -- Promise: Where the file that was attached stands for entries in order whose tree doesn't begin with the splits of JOBS, 7 comes, or disk
  --   or memory failed
  pub decided : IsOfOtherTree n text splits file → (status ≡ statuses.OtherTree) ⊎ IsFailed status
  -- Promise: Under 7 the file stands for what it stood for
  pub unchanged : status ≡ statuses.OtherTree → (list : List Entry) → Stands file text list → StandsNow n text list new
  -- Promise: Over a disk that tells, `gather` goes on from the entries that the file stood for which was attached, all of them, whether or not
  --   that file is the network's own
  pub resumed : IsAllTold status → IsToldFrom n text splits jobs items file Prints
  -- Promise: On the network's own file a crash at any moment of `gather` leaves a file that a crash might have left before, or the network's
  --   own, for a list of entries that begins with those that were found; no acknowledged entry is lost
  pub own : (first : List Entry) → IsNetworksOwn n text first file → IsGrownFrom n text first old new (λ last. IsGatheredTo n text splits jobs items first last new status Prints)
