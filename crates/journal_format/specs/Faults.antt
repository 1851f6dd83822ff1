-- What a file is found to be when a journal is opened on it.
use Rattle.std.specs.Prelude.{◌≡◌, ◌≢◌, ℕ, ◌<◌, ◌≤◌, ◌⊎◌, List, ◌∷◌, ◌++◌, length, get_or, take, Result, IsErrAnd}
use Rattle.row_model.specs.Entries.{Entry}
use Rattle.journal_format.specs.Versions.{version_byte}
use Rattle.journal_format.specs.Payload.{payload}
use Rattle.journal_format.specs.Histories.{History, record_bytes, turn_record, goes_on_in, record_count, EachEntry}
use Rattle.journal_format.specs.Files.{header, IsRecordable, HasMagic, IsBorn, HoldsHistory, IsHistoryOf}
use Rattle.journal_format.specs.declared.version.Version.{Version}
use Rattle.journal_format.specs.declared.version.Version.TheVariants.{One}
use Rattle.journal_format.specs.declared.fault.JournalFault.{JournalFault}
use Rattle.journal_format.specs.declared.fault.JournalFault.TheVariants.{Disk, NotAJournal, UnknownVersion, OtherNetwork, BadRecord, Memory}

-- ---- records

-- an entry that a record can hold, of a payload that is no longer than the largest
pub record IsAllowed (largest : ℕ) (v : Version) (e : Entry) : Type 0 where
  pub recordable : IsRecordable v e
  pub short : length (payload v e) ≤ largest

-- An open gate stands there, and what stands behind it are no entry's bytes in the version; nor is it the Turn, where one may stand.
pub record IsBad (v : Version) (largest : ℕ) (rest : List ℕ) : Type 0 where
  pub open_gate : (behind : List ℕ) × (rest ≡ 1 ∷ behind)
  pub no_entry : (e : Entry) (behind : List ℕ) → IsAllowed largest v e → ¬ (rest ≡ record_bytes v e ++ behind)
  pub no_turn : v ≡ One → (behind : List ℕ) → ¬ (rest ≡ turn_record ++ behind)

-- the file is born with this text, its first n records, with the Turn, hold a history, and the next one is bad
pub record IsBadAt (text : List ℕ) (largest n : ℕ) (file : List ℕ) : Type 0 where
  pub history : History
  pub rest : List ℕ
  pub holds : HoldsHistory text history rest file
  pub allowed : EachEntry (IsAllowed largest) history
  pub count : n ≡ record_count history
  pub bad : IsBad (goes_on_in history) largest rest

-- the file has a history, and each entry of it is one that a record can hold, of a payload that is no longer than the largest
abbrev pub HoldsAllowed : List ℕ → ℕ → List ℕ → Type 0
HoldsAllowed text largest file = (h : History) × IsHistoryOf file text h × EachEntry (IsAllowed largest) h

-- ---- faults

-- the file has this fault
abbrev pub Has : List ℕ → ℕ → List ℕ → JournalFault → Type 0
Has text largest file Disk = ⊥
Has text largest file NotAJournal = (1 < length file) × (get_or file 0 0 ≢ 0) × ¬ HasMagic file
Has text largest file (UnknownVersion byte) = IsBorn file × (get_or file 8 0 ≡ byte) × (byte ≢ 1) × (byte ≢ 2)
Has text largest file OtherNetwork =
    IsBorn file × (v : Version) × (get_or file 8 0 ≡ version_byte v) × (take (length (header 1 v text)) file ≢ header 1 v text)
Has text largest file (BadRecord n) = IsBadAt text largest n file
Has text largest file Memory = ⊥

-- the two causes that may come in place of any other answer
abbrev pub IsFree : JournalFault → Type 0
IsFree fault = (fault ≡ Disk) ⊎ (fault ≡ Memory)

-- a fault that the file has is the answer, unless one of those two is
abbrev pub IsDecided : {T : Type 0} → List ℕ → ℕ → List ℕ → Result T JournalFault → Type 0
IsDecided text largest file result = (fault : JournalFault) → Has text largest file fault → IsErrAnd result (λ e. IsFree e ⊎ (e ≡ fault))
