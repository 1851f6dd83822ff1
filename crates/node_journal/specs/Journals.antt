-- What an open journal knows, and what the file is then.
use Rattle.std.specs.Prelude.{◌≡◌, ℕ, ◌+◌, ◌^◌, ◌≤◌, ◌⊎◌, Bool, List, [], ◌∷◌, ◌++◌, Option}
use Rattle.disk_calls.specs.Disks.{DiskTold}
use Rattle.row_model.specs.Entries.{Entry}
use Rattle.journal_format.specs.Histories.{History, framed, entries_of, turn_at, EachEntry}
use Rattle.journal_format.specs.Files.{IsShut, IsHistoryOf, IsKept}
use Rattle.journal_format.specs.Faults.{IsAllowed}
use Rattle.journal_format.specs.Records.{Place, IsKeptAt}
use Rattle.node_journal.specs.Settled.{IsOnDisk}

-- where the next record is to stand and in which version, how long a payload may be, and whether a call failed
pub record Ready : Type 0 where
  pub next : Place
  pub largest : ℕ
  pub failed : Bool

-- places and sizes that no sum leaves
pub record IsSound (gate room : ℕ) : Type 0 where
  pub near : gate ≤ 2 ^ 62
  pub framed : 5 ≤ room
  pub small : room ≤ 2 ^ 20 + 5

-- the disk reads as the journal left it, and a crash leaves that
abbrev pub IsLeft : Ready → DiskTold → Type 0
IsLeft journal d = (text : List ℕ) × (list : List Entry) × (file : List ℕ) × IsOnDisk file d × IsKeptAt journal.next text list file

-- the file holds the entries of the list, or one more
abbrev pub IsBeforeOrAfter : List ℕ → List Entry → Entry → List ℕ → Type 0
IsBeforeOrAfter text list e c = IsKept text list c ⊎ IsKept text (list ++ e ∷ []) c

-- ---- a record that is put behind a gate

-- the file begins with this front, and a closed gate stands behind it
pub record IsShutBehind (front file : List ℕ) : Type 0 where
  pub rest : List ℕ
  pub shut : IsShut rest
  pub parts : file ≡ front ++ rest

-- so it is, or with a record of this payload more
abbrev pub IsPutBehind : List ℕ → List ℕ → List ℕ → Type 0
IsPutBehind front payload file = IsShutBehind front file ⊎ IsShutBehind (front ++ framed payload) file

-- ---- a journal that was opened

-- the file had a history of these entries, with its Turn in this record, and holds them now, with the journal's gate behind them
pub record IsOpenedAs (text : List ℕ) (largest : ℕ) (file : List ℕ) (list : List Entry) (turn : Option ℕ) (next : Place) (d : DiskTold) : Type 0 where
  pub history : History
  pub of_file : IsHistoryOf file text history
  pub entries : entries_of history ≡ list
  pub turned : turn_at history ≡ turn
  pub allowed : EachEntry (IsAllowed largest) history
  pub now : List ℕ
  pub on_disk : IsOnDisk now d
  pub kept : IsKeptAt next text list now
