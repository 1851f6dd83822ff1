-- What is recorded: the list that the disk holds, the tree that is made of it, and the files that a crash leaves.
use Rattle.std.specs.Prelude.{◌≡◌, ◌⊎◌, ◌≤◌, ℕ, max, List, ◌∷◌, ◌++◌, length, Option, Some}
use Rattle.disk_calls.specs.Disks.{DiskTold}
use Rattle.pool_model.specs.Network.{Net}
use Rattle.row_model.specs.Entries.{Entry, Searched, made_by, AreInOrder, IsEntryInOrder}
use Rattle.box_tree.specs.declared.entry.EntryFault.{EntryFault}
use Rattle.box_tree.specs.declared.entry.EntryFault.TheVariants as entry_faults
use Rattle.journal_format.specs.Histories.{History, entries_of, turn_at, record_of, EachEntry}
use Rattle.journal_format.specs.Files.{IsHistoryOf, Stands, IsOwn}
use Rattle.journal_format.specs.Faults.{Has, IsAllowed, IsFree}
use Rattle.journal_format.specs.Longest.{longest}
use Rattle.journal_format.specs.Records.{Place, IsKeptAt}
use Rattle.node_journal.specs.Settled.{IsOnDisk}
use Rattle.search_run.specs.declared.orders.Orders.{Orders}
use Rattle.journal_format.specs.declared.fault.JournalFault.TheVariants.{Memory}
use Rattle.recorded_run.specs.declared.fault.RunFault.{RunFault}
use Rattle.recorded_run.specs.declared.fault.RunFault.TheVariants.{Journal, OutOfOrder}

-- ---- lists of entries

-- one list begins with another
abbrev pub BeginsWith : List Entry → List Entry → Type 0
BeginsWith list front = (rest : List Entry) × (list ≡ front ++ rest)

-- a list has no more splits than are asked for, or than the first list has
abbrev pub HasFewSplits : Orders → (first list : List Entry) → Type 0
HasFewSplits o first list = length (made_by list).tree.splits ≤ max o.nodes (length (made_by first).tree.splits)

-- ---- files

-- The network's own file, which stands for the list: one that a journal of its text may leave, with entries in order.
pub record IsNetworksOwn (n : Net) (text : List ℕ) (list : List Entry) (file : List ℕ) : Type 0 where
  pub own : IsOwn text file
  pub stands : Stands file text list
  pub in_order : AreInOrder n list

-- The file is the network's own, and stands for a list between two: it begins with the first, and the last begins with it.
-- Promise: Of two lists for which a crash may leave the network's own file one begins with the other: there is a last list that begins with
--   both
pub record IsBetween (n : Net) (text : List ℕ) (first last : List Entry) (file : List ℕ) : Type 0 where
  pub list : List Entry
  pub own : IsNetworksOwn n text list file
  pub begins : BeginsWith list first
  pub goes_on : BeginsWith last list

-- ---- what is recorded

-- A file that is the only image holds the entries of the list, in order, with the gate behind them, and the tree is made of them.
pub record IsRecorded (n : Net) (text : List ℕ) (list : List Entry) (place : Place) (s : Searched) (d : DiskTold) : Type 0 where
  pub file : List ℕ
  pub on_disk : IsOnDisk file d
  pub kept : IsKeptAt place text list file
  pub in_order : AreInOrder n list
  pub made : s ≡ made_by list

-- What is recovered of a file: entries that are in order, and the tree of them. They are those that the file stands for, where it is known
-- what a read of it gives, and the disk holds them then.
pub record IsRecovered (n : Net) (text : List ℕ) (place : Place) (s : Searched) (old new : DiskTold) : Type 0 where
  pub first : List Entry
  pub in_order : AreInOrder n first
  pub made : s ≡ made_by first
  pub stands : (file : List ℕ) → old.reads ≡ Some file → Stands file text first
  pub held : (file : List ℕ) → old.reads ≡ Some file → IsRecorded n text first place s new

-- ---- entries that are replayed

-- the entry of this number is the first that is not in order after those before it
pub record IsFirstOutOfOrder (n : Net) (list : List Entry) (k : ℕ) : Type 0 where
  pub front : List Entry
  pub entry : Entry
  pub rest : List Entry
  pub parts : list ≡ front ++ entry ∷ rest
  pub count : k ≡ length front
  pub in_order : AreInOrder n front
  pub out : ¬ IsEntryInOrder n (made_by front) entry

-- what is answered where the entry in the record of this number is not taken
abbrev pub refused_as : ℕ → EntryFault → RunFault
refused_as number entry_faults.Memory = Journal Memory
refused_as number fault = OutOfOrder number

-- why entries are not replayed: memory ran out, or the one in this record is out of order, where the Turn stands in its record, if at all
abbrev pub IsReplayFault : Net → List Entry → Option ℕ → RunFault → Type 0
IsReplayFault n list turn (Journal fault) = fault ≡ Memory
IsReplayFault n list turn (OutOfOrder k) = (entry : ℕ) × IsFirstOutOfOrder n list entry × (k ≡ record_of turn entry)

-- disk or memory failed
abbrev pub IsFreeFault : RunFault → Type 0
IsFreeFault (Journal fault) = IsFree fault
IsFreeFault (OutOfOrder k) = ⊥

-- ---- causes

-- The file holds entries that a journal takes back, and the record of this number holds the first that is not in order. Records are
-- counted with the Turn.
pub record HasOutOfOrder (n : Net) (text file : List ℕ) (k : ℕ) : Type 0 where
  pub history : History
  pub of_file : IsHistoryOf file text history
  pub allowed : EachEntry (IsAllowed (longest n)) history
  pub entry : ℕ
  pub first : IsFirstOutOfOrder n (entries_of history) entry
  pub number : k ≡ record_of (turn_at history) entry

-- the file is a cause of this refusal: its journal has the fault, or an entry that it stands for is not in order
abbrev pub IsCause : Net → List ℕ → List ℕ → RunFault → Type 0
IsCause n text file (Journal fault) = Has text (longest n) file fault
IsCause n text file (OutOfOrder k) = HasOutOfOrder n text file k

-- a journal that is not opened, but for a failure of disk or memory, leaves the file as it is
abbrev pub IsLeftAlone : RunFault → Type 0 → Type 0
IsLeftAlone (Journal fault) Untouched = IsFree fault ⊎ Untouched
IsLeftAlone (OutOfOrder k) Untouched = Unit {0}

-- a read gives the network's own file, which stands for the list
-- Promise: Where memory ran out, the file that reads at the end stands for the last list
pub record StandsNow (n : Net) (text : List ℕ) (list : List Entry) (d : DiskTold) : Type 0 where
  pub file : List ℕ
  pub read : d.reads ≡ Some file
  pub own : IsNetworksOwn n text list file

-- at the end: a file is the only image, it is the network's own for the list, and the tree is made of that
-- Promise: At the end every crash leaves the one file that stands for the last list, and what is answered is the tree of exactly that list
pub record Ends (n : Net) (text : List ℕ) (list : List Entry) (s : Searched) (d : DiskTold) : Type 0 where
  pub file : List ℕ
  pub on_disk : IsOnDisk file d
  pub own : IsNetworksOwn n text list file
  pub made : s ≡ made_by list
