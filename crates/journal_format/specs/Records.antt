-- Records at places of a file.
use Rattle.std.specs.Prelude.{◌≡◌, ℕ, ◌+◌, ◌<◌, ◌^◌, ◌⊎◌, List, ◌∷◌, ◌++◌, length, drop}
use Rattle.row_model.specs.Entries.{Entry}
use Rattle.journal_format.specs.Fields.{field}
use Rattle.journal_format.specs.Histories.{History, record_bytes, turn_record, born_in, goes_on_in, history_bytes, entries_of, record_count, EachEntry}
use Rattle.journal_format.specs.Files.{header, IsClosed, IsShut, HoldsHistory}
use Rattle.journal_format.specs.Faults.{IsAllowed, IsBad, IsFree}
use Rattle.journal_format.specs.declared.version.Version.{Version}
use Rattle.journal_format.specs.declared.fault.JournalFault.{JournalFault}
use Rattle.journal_format.specs.declared.fault.JournalFault.TheVariants.{BadRecord}
use Rattle.journal_format.specs.declared.opening.RecordHead.{RecordHead}
use Rattle.journal_format.specs.declared.opening.RecordHead.TheVariants.{Closed, CutShort, Payload}

-- what stands before a payload: no open gate; or one, with fewer than four bytes behind it; or one, and a length
abbrev pub Opens : List ℕ → RecordHead → Type 0
Opens rest Closed = IsClosed rest
Opens rest CutShort = (behind : List ℕ) × (rest ≡ 1 ∷ behind) × (length behind < 4)
Opens rest (Payload n) = (n < 2 ^ 32) × (rest ≡ 1 ∷ field 4 n ++ drop 5 rest)

-- the record of this entry stands there, and the next one behind it
pub record IsEntryAt (v : Version) (largest at : ℕ) (file : List ℕ) (e : Entry) (after : ℕ) : Type 0 where
  pub parts : drop at file ≡ record_bytes v e ++ drop after file
  pub allowed : IsAllowed largest v e
  pub place : after ≡ at + length (record_bytes v e)

-- the Turn stands there, and the next record behind it
pub record IsTurnAt (at : ℕ) (file : List ℕ) (after : ℕ) : Type 0 where
  pub parts : drop at file ≡ turn_record ++ drop after file
  pub place : after ≡ at + length turn_record

-- the records of a history stand there, one after another, and what is next behind them
pub record IsHistoryAt (largest at : ℕ) (file : List ℕ) (h : History) (after : ℕ) : Type 0 where
  pub parts : drop at file ≡ history_bytes h ++ drop after file
  pub allowed : EachEntry (IsAllowed largest) h
  pub place : after ≡ at + length (history_bytes h)

-- a bad record of this number stands there, or a cause that may always come
abbrev pub FailsAt : Version → ℕ → ℕ → List ℕ → JournalFault → Type 0
FailsAt v largest number rest fault = IsFree fault ⊎ ((fault ≡ BadRecord number) × IsBad v largest rest)

-- the records of a history that began in this version stand there, and a bad one behind them
pub record IsBadBehind (v : Version) (largest at : ℕ) (file : List ℕ) (fault : JournalFault) : Type 0 where
  pub history : History
  pub after : ℕ
  pub born : born_in history ≡ v
  pub records_at : IsHistoryAt largest at file history after
  pub is : fault ≡ BadRecord (record_count history)
  pub bad : IsBad (goes_on_in history) largest (drop after file)

-- where the next record is to stand, and in which version
pub record Place : Type 0 where
  pub gate : ℕ
  pub version : Version

-- The file is born with this text and holds the entries of the list. The first closed gate stands at this place, and what is recorded
-- there has the version of the place.
pub record IsKeptAt (next : Place) (text : List ℕ) (list : List Entry) (file : List ℕ) : Type 0 where
  pub history : History
  pub entries : entries_of history ≡ list
  pub rest : List ℕ
  pub shut : IsShut rest
  pub holds : HoldsHistory text history rest file
  pub place : next.gate ≡ length (header 1 (born_in history) text ++ history_bytes history)
  pub version : next.version ≡ goes_on_in history

-- the file is born with this text and in this version, and its records begin at this place
pub record IsHeaded (v : Version) (text : List ℕ) (start : ℕ) (file : List ℕ) : Type 0 where
  pub place : start ≡ length (header 1 v text)
  pub parts : file ≡ header 1 v text ++ drop start file
