-- What the records of a file hold, from its birth on.
use Rattle.std.specs.Prelude.{ℕ, suc, ◌+◌, List, ◌∷◌, ◌++◌, length, Option, None, Some, nat_le, if◌then◌else◌}
use Rattle.std.specs.List.{flat_map, AllByRecursion}
use Rattle.row_model.specs.Entries.{Entry}
use Rattle.journal_format.specs.Fields.{field}
use Rattle.journal_format.specs.Payload.{payload, turn_payload}
use Rattle.journal_format.specs.declared.version.Version.{Version}
use Rattle.journal_format.specs.declared.version.Version.TheVariants.{One, Two}

-- ---- records

-- an open gate, the length of the payload, and the payload
abbrev pub framed : List ℕ → List ℕ
framed payload = 1 ∷ field 4 (length payload) ++ payload

abbrev pub record_bytes : Version → Entry → List ℕ
record_bytes v e = framed (payload v e)

abbrev pub records : Version → List Entry → List ℕ
records v = flat_map (record_bytes v)

abbrev pub turn_record : List ℕ
turn_record = framed turn_payload

-- ---- histories

-- entries in one version; or entries in version 1, the Turn, and entries in version 2
pub data History : Type 0 where
  unturned : (version : Version) (list : List Entry) → History
  turned : (before behind : List Entry) → History

-- the version that the file was born with
abbrev pub born_in : History → Version
born_in (unturned v list) = v
born_in (turned before behind) = One

-- the version of what is recorded next
abbrev pub goes_on_in : History → Version
goes_on_in (unturned v list) = v
goes_on_in (turned before behind) = Two

-- the bytes of all records
abbrev pub history_bytes : History → List ℕ
history_bytes (unturned v list) = records v list
history_bytes (turned before behind) = records One before ++ (turn_record ++ records Two behind)

-- all entries, in order
abbrev pub entries_of : History → List Entry
entries_of (unturned v list) = list
entries_of (turned before behind) = before ++ behind

-- the number of the Turn's record, from 0, where there is a Turn
abbrev pub turn_at : History → Option ℕ
turn_at (unturned v list) = None
turn_at (turned before behind) = Some (length before)

-- how many records there are, with the Turn
abbrev pub record_count : History → ℕ
record_count (unturned v list) = length list
record_count (turned before behind) = length before + suc (length behind)

-- the number of the record that holds the entry of this number, both from 0: a Turn before it counts as a record
abbrev pub record_of : Option ℕ → ℕ → ℕ
record_of None entry = entry
record_of (Some turn) entry = if nat_le turn entry then suc entry else entry

-- each entry is as it should be, in the version of its record
abbrev pub EachEntry : (Version → Entry → Type 0) → History → Type 0
EachEntry Holds (unturned v list) = AllByRecursion (Holds v) list
EachEntry Holds (turned before behind) = AllByRecursion (Holds One) before × AllByRecursion (Holds Two) behind
