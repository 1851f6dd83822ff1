-- What is read of the records of a file.
use Rattle.std.specs.Prelude.{◌≡◌, ℕ, List, map}
use Rattle.box_tree.specs.Views.{shown_entry}
use Rattle.journal_format.specs.Payload.{payload, turn_payload, EntryFits}
use Rattle.journal_format.specs.Histories.{History, born_in, goes_on_in, entries_of, turn_at, record_count}
use Rattle.journal_format.specs.Records.{IsEntryAt, IsTurnAt, IsHistoryAt}
use Rattle.journal_format.specs.declared.version.Version.{Version}
use Rattle.journal_format.specs.declared.version.Version.TheVariants.{One}
use Rattle.node_journal.specs.declared.found.Found.{Found}
use Rattle.node_journal.specs.declared.found.Record.{Record}
use Rattle.node_journal.specs.declared.found.Record.TheVariants as records

-- these bytes are the payload of the record; the Turn is one in version 1 alone
abbrev pub Spells : Version → List ℕ → Record → Type 0
Spells v bytes (records.Entry e) = (bytes ≡ payload v (shown_entry e)) × EntryFits v (shown_entry e)
Spells v bytes records.Turn = (v ≡ One) × (bytes ≡ turn_payload)

-- the record stands there, and the next one behind it
abbrev pub IsRecordAt : Version → ℕ → ℕ → List ℕ → Record → ℕ → Type 0
IsRecordAt v largest at file (records.Entry e) after = IsEntryAt v largest at file (shown_entry e) after
IsRecordAt v largest at file records.Turn after = (v ≡ One) × IsTurnAt at file after

-- what was found is the history of the records from a place on, which began in this version
pub record IsFoundFrom (born : Version) (largest start : ℕ) (file : List ℕ) (found : Found) : Type 0 where
  pub history : History
  pub began : born_in history ≡ born
  pub entries : entries_of history ≡ map shown_entry found.entries.items
  pub turned : turn_at history ≡ found.turn_at
  pub version : goes_on_in history ≡ found.spot.version
  pub count : record_count history ≡ found.spot.number
  pub records_at : IsHistoryAt largest start file history found.spot.at
