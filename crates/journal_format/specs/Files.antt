-- The file of a journal: what it stands for, and when it is a network's own.
use Rattle.std.specs.Prelude.{◌≡◌, ◌≢◌, ℕ, ◌^◌, ◌<◌, ◌≤◌, ◌⊎◌, Bool, true, false, List, [], ◌∷◌, ◌++◌, length, get_or, take, drop, Option}
use Rattle.row_model.specs.Entries.{Entry}
use Rattle.journal_format.specs.Fields.{field}
use Rattle.journal_format.specs.Versions.{version_byte}
use Rattle.journal_format.specs.Payload.{payload, EntryFits}
use Rattle.journal_format.specs.Histories.{History, unturned, born_in, history_bytes, entries_of, turn_at, EachEntry}
use Rattle.journal_format.specs.declared.version.Version.{Version}
use Rattle.journal_format.specs.declared.version.Version.TheVariants.{Two}

-- POOLJNL
abbrev pub magic : List ℕ
magic = 80 ∷ 79 ∷ 79 ∷ 76 ∷ 74 ∷ 78 ∷ 76 ∷ []

-- the length of the text, and the text
abbrev pub text_bytes : List ℕ → List ℕ
text_bytes text = field 4 (length text) ++ text

-- what stands before the records: a birth byte, the magic, the version, and the text with its length
abbrev pub header : ℕ → Version → List ℕ → List ℕ
header birth v text = birth ∷ magic ++ (version_byte v ∷ text_bytes text)

-- what is written behind a gate: the length of the payload, the payload, and a closed gate
abbrev pub behind_gate : List ℕ → List ℕ
behind_gate bytes = field 4 (length bytes) ++ bytes ++ 0 ∷ []

-- the file of a journal without entries, as it is born: the header of version 2, and a closed gate
abbrev pub newborn : List ℕ → List ℕ
newborn text = header 1 Two text ++ 0 ∷ []

-- an entry that a record can hold
pub record IsRecordable (v : Version) (e : Entry) : Type 0 where
  pub fits : EntryFits v e
  pub short : length (payload v e) < 2 ^ 32

-- a gate stands there, and it is not open
abbrev pub IsShut : List ℕ → Type 0
IsShut [] = ⊥
IsShut (gate ∷ rest) = gate ≢ 1

-- no open gate stands there: another byte, or none
abbrev pub IsClosed : List ℕ → Type 0
IsClosed [] = Unit {0}
IsClosed (gate ∷ rest) = gate ≢ 1

-- The bytes 1 to 7 are the magic.
abbrev pub HasMagic : List ℕ → Type 0
HasMagic file = take 7 (drop 1 file) ≡ magic

-- The file has at most one byte, or byte 0 is 0, or byte 0 is 2 or more and the magic stands behind it.
abbrev pub IsUnborn : List ℕ → Type 0
IsUnborn file = (length file ≤ 1) ⊎ (get_or file 0 0 ≡ 0) ⊎ ((2 ≤ get_or file 0 0) × HasMagic file)

-- byte 0 is there, and it is 0
pub record IsZeroed (file : List ℕ) : Type 0 where
  pub there : 1 ≤ length file
  pub zero : get_or file 0 0 ≡ 0

-- whether byte 0 is 0 and more stands behind it; of a shorter file either may be said
abbrev pub SaysZeroed : Bool → List ℕ → Type 0
SaysZeroed true file = IsZeroed file
SaysZeroed false file = get_or file 0 0 ≡ 0 → length file ≤ 1

-- Byte 0 is 1, and the magic stands behind it.
pub record IsBorn (file : List ℕ) : Type 0 where
  pub birth : get_or file 0 0 ≡ 1
  pub marked : HasMagic file

-- The file is born with this text, and its records up to the first closed gate, which stands before the rest, are those of the history.
pub record HoldsHistory (text : List ℕ) (h : History) (rest file : List ℕ) : Type 0 where
  pub parts : file ≡ header 1 (born_in h) text ++ (history_bytes h ++ rest)
  pub each : EachEntry IsRecordable h

-- the history of a file: before birth none, and then that of its records up to the first closed gate
abbrev pub IsHistoryOf : List ℕ → List ℕ → History → Type 0
IsHistoryOf file text h = (IsUnborn file × (h ≡ unturned Two [])) ⊎ ((rest : List ℕ) × IsClosed rest × HoldsHistory text h rest file)

-- what the file stands for: the entries of its history, whatever version each has, and whether or not a Turn stands among them
abbrev pub Stands : List ℕ → List ℕ → List Entry → Type 0
Stands file text list = (h : History) × IsHistoryOf file text h × (entries_of h ≡ list)

-- the Turn of the file, where it has one, is the record of this number
abbrev pub TurnsAt : List ℕ → List ℕ → Option ℕ → Type 0
TurnsAt file text number = (h : History) × IsHistoryOf file text h × (turn_at h ≡ number)

-- the file stands for the list, and the first closed gate is there
pub record IsKept (text : List ℕ) (list : List Entry) (file : List ℕ) : Type 0 where
  pub history : History
  pub entries : entries_of history ≡ list
  pub rest : List ℕ
  pub shut : IsShut rest
  pub holds : HoldsHistory text history rest file

-- the file's birth byte is 2 or more, and all that is written before birth stands behind it, in version 1 or 2
pub record IsHalfBorn (text file : List ℕ) : Type 0 where
  pub birth : ℕ
  pub many : 2 ≤ birth
  pub version : Version
  pub rest : List ℕ
  pub shut : IsShut rest
  pub parts : file ≡ header birth version text ++ rest

-- The file is one that a journal of this text may leave, whenever a crash comes: at most one byte; or byte 0 is 0; or half
-- born; or born, with the first closed gate there.
abbrev pub IsOwn : List ℕ → List ℕ → Type 0
IsOwn text file = (length file ≤ 1) ⊎ (get_or file 0 0 ≡ 0) ⊎ IsHalfBorn text file ⊎ ((list : List Entry) × IsKept text list file)

-- the file is one that a journal of this text may leave, and it stands for the list
abbrev pub IsOwnFor : List ℕ → List Entry → List ℕ → Type 0
IsOwnFor text list file = IsOwn text file × Stands file text list
