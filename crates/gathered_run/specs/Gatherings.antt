-- What is gathered, and what the disk holds then.
use Rattle.std.specs.Prelude.{◌≡◌, ◌⊎◌, ℕ, List, [], ◌∷◌, ◌++◌, map, Some}
use Rattle.disk_calls.specs.Disks.{DiskTold}
use Rattle.pool_model.specs.Network.{Net}
use Rattle.row_model.specs.Trees.{Split}
use Rattle.row_model.specs.Entries.{Entry, made_by, AreInOrder}
use Rattle.journal_format.specs.Files.{Stands}
use Rattle.journal_format.specs.declared.fault.JournalFault.TheVariants.{Memory}
use Rattle.recorded_run.specs.Recorded.{StandsNow, Ends}
use Rattle.recorded_run.specs.declared.fault.RunFault.TheVariants.{Journal}
use Rattle.work_units.specs.Units.{Answer}
use Rattle.work_units.specs.Desks.{Desk, desk_of, entries_of}
use Rattle.work_units.specs.Judging.{IsJudged}
use Rattle.work_units.specs.declared.answer.Judged.TheVariants.{Fits}
use Rattle.work_units.specs.declared.job.Job.{Job}
use Rattle.gathered_run.specs.Files.{Item, an_answer}
use Rattle.gathered_run.specs.Events.{Event, item_of, line_of, gains, desk_after, AreJudged}
use Rattle.gathered_run.specs.declared.fault.GatherFault.{GatherFault}
use Rattle.gathered_run.specs.declared.fault.GatherFault.TheVariants.{Run, OtherTree}
use Rattle.gathered_run.specs.declared.told.Gathered.{Gathered}

-- splits begin with others
abbrev pub BeginWith : (splits front : List Split) → Type 0
BeginWith splits front = (rest : List Split) × (splits ≡ front ++ rest)

-- a desk over the tree of these entries, before any answer
abbrev pub begun : List Entry → List Job → Desk
begun first jobs = record { searched = made_by first; jobs = jobs; taken = [] }

-- What was gathered of what files bring, on a desk over the tree of entries that were recovered.
pub record IsGathered (n : Net) (text : List ℕ) (splits : List Split) (jobs : List Job) (items : List Item) (d : DiskTold) (g : Gathered) : Type 0 where
  -- the entries that were recovered
  pub first : List Entry
  pub in_order : AreInOrder n first
  -- Promise: Where the disk tells: the desk begins over the tree of the entries that the file stands for, all of them
  pub stands : (file : List ℕ) → d.reads ≡ Some file → Stands file text first
  -- Promise: Answers are gathered only where the recovered tree begins with the splits of the tree that the jobs were handed out of
  pub same_tree : BeginWith (made_by first).tree.splits splits
  -- Promise: Each answer of each file is judged, file after file and in order, and so is each file told of that spells none
  pub events : List Event
  pub of_files : map item_of events ≡ items
  -- Promise: Each line tells how its answer was judged, or the first faulty line of a file that spells no answers
  pub lines : g.lines.items ≡ map line_of events
  -- Promise: Each answer is judged as the definition says, on the desk after the answers before it
  pub judged : AreJudged n (begun first jobs) events
  -- Promise: The desk is the one that the answers make which fit, and the tree is the recovered one with the entries of these, in order
  pub desk : desk_of g.desk ≡ desk_after (begun first jobs) events
  pub taken : entries_of g.desk.taken ≡ gains events
  pub tree : (desk_of g.desk).searched ≡ made_by (first ++ gains events)

-- ---- a gathering that fails

-- the answer that comes next is judged to fit, and the list has its entry behind those of another one
pub record HasOneMore (n : Net) (d : Desk) (rest : List Item) (list last : List Entry) : Type 0 where
  pub answer : Answer
  pub behind : List Item
  pub next : rest ≡ an_answer answer ∷ behind
  pub fits : IsJudged n d answer Fits
  pub more : last ≡ list ++ answer.entry ∷ []

-- How far a desk came with what files bring: to a front of it. The last list has behind the first the entries of the answers
-- that fitted, and at most one more: that of the answer which was judged to fit last, and which was not taken.
pub record IsReached (n : Net) (d : Desk) (items : List Item) (first last : List Entry) : Type 0 where
  pub events : List Event
  pub rest : List Item
  pub of_items : items ≡ map item_of events ++ rest
  pub judged : AreJudged n d events
  pub grown : (last ≡ first ++ gains events) ⊎ HasOneMore n (desk_after d events) rest (first ++ gains events) last

-- What is known of the last list where nothing is answered. Where the tree is another, nothing was recorded.
pub record IsBrokenOff (n : Net) (text : List ℕ) (jobs : List Job) (items : List Item) (first last : List Entry) (new : DiskTold) (fault : GatherFault) : Type 0 where
  -- Promise: Where a gathering fails, the journal grew by the entries of the answers that fit, of those up to where it failed, and by at most
  --   one more, which was judged to fit last
  pub reached : IsReached n (begun first jobs) items first last
  -- Promise: Where the tree is another, nothing is recorded, and the file that reads at the end stands for what it stood for
  pub unchanged : fault ≡ OtherTree → last ≡ first
  pub stands : (fault ≡ OtherTree) ⊎ (fault ≡ Run (Journal Memory)) → StandsNow n text last new

-- what is known of the last list: the journal grew by exactly the entries of the answers that were taken, in order
-- Promise: The journal grows by exactly the entries of the answers that are taken, in order
pub record IsGrownByTaken (n : Net) (text : List ℕ) (first last : List Entry) (new : DiskTold) (g : Gathered) : Type 0 where
  pub grown : last ≡ first ++ entries_of g.desk.taken
  pub ends : Ends n text last (desk_of g.desk).searched new
