-- A reader of a certificate that comes in pieces: what its calls take of the file, and what they read of it.
use Rattle.std.specs.Prelude.{◌≡◌, ◌≢◌, ℕ, ◌+◌, ◌-◌, ◌^◌, ◌<◌, ◌≤◌, ◌⊎◌, Bool, false, IsTrue, List, [], ◌∷◌, ◌++◌, length, Option, Ok, Err}
use Rattle.std.specs.Option.{ForSome}
use Rattle.shelf_calls.specs.Opened.{ahead, IsUsedUp}
use Rattle.shelf_calls.specs.Told.{ShelfTold}
use Rattle.edge_io.specs.Counts.{Rose}
use Rattle.cert_text.specs.declared.fault.TextFault.{TextFault}
use Rattle.cert_text.specs.Lines.{IsFaultyLine}
use Rattle.cert_text.specs.Reading.{At}
use Rattle.cert_format.specs.Cert.{Cert, IsCert}
use Rattle.cert_format.specs.Text.{text_of}
use Rattle.cert_stream.specs.declared.fault.ItemFault.{ItemFault}
use Rattle.cert_stream.specs.declared.fault.ItemFault.TheVariants.{Read, TooLong, Text}
use Rattle.cert_items.specs.declared.items.Item as declared
use Rattle.cert_items.specs.declared.items.Item.TheVariants as items
use Rattle.cert_items.specs.declared.items.State.{State}
use Rattle.cert_items.specs.declared.items.State.TheVariants as states
use Rattle.cert_items.specs.Items.{Field, shown_item, items_of, next_at, Gave}

-- ---- a reader

-- What a text goes on with, the line of the next byte, the bytes that are taken and not read, how many more may be taken, and
-- whether the file is at its end.
pub record Reader : Type 0 where
  pub state : State
  pub line : ℕ
  pub held : List ℕ
  pub left : ℕ
  pub ended : Bool

-- before the first byte of a file that may have at most so many
abbrev pub fresh : ℕ → Reader
fresh most = record { state = states.Begin; line = 1; held = []; left = most; ended = false }

-- the number of a line behind the first; 0 for the first, which is there before any byte
abbrev pub later : ℕ → ℕ
later line = line - (2 - line)

-- what the reader has before it, where these bytes come behind those that it holds
abbrev pub at_of : Reader → List ℕ → At
at_of r more = record { line = r.line; rest = r.held ++ more }

-- these bytes may come behind those that are held
abbrev pub MayFollow : Reader → List ℕ → Type 0
MayFollow s more = IsTrue s.ended → more ≡ []

-- the file is at its end, and all of it is read
pub record IsAtEnd (s : Reader) : Type 0 where
  pub held : s.held ≡ []
  pub ended : IsTrue s.ended

-- ---- what a call takes

-- calls took these bytes of the file, and no more than they may; a file at its end stays so
pub record ReaderTook (r : Reader) (rest : Option (List ℕ)) (s : Reader) (now : Option (List ℕ)) : Type 0 where
  pub taken : List ℕ
  pub parts : rest ≡ ahead taken now
  pub within : s.left + length taken ≡ r.left
  pub used_up : IsTrue s.ended → IsUsedUp now
  pub over : IsTrue r.ended → (taken ≡ []) × IsTrue s.ended

-- the same, and the reader holds them behind those that it held
pub record Filled (r : Reader) (rest : Option (List ℕ)) (s : Reader) (now : Option (List ℕ)) : Type 0 where
  pub took : ReaderTook r rest s now
  pub held : s.held ≡ r.held ++ took.taken
  pub state : s.state ≡ r.state
  pub line : s.line ≡ r.line

-- more than so many bytes are left, where that is told
abbrev pub IsMore : ℕ → Option (List ℕ) → Type 0
IsMore most rest = ForSome rest (λ bytes. most < length bytes)

-- more than so many bytes were taken, or their count stands at its last value
abbrev pub TookMore : ℕ → ℕ → ℕ → Type 0
TookMore most before after = (before + most < after) ⊎ (after ≡ 2 ^ 64 - 1)

-- ---- what a call reads

-- a call read this item, of one byte at least, whatever comes behind the bytes that it took; the last one at the file's end
pub record GivesItem (r : Reader) (rest : Option (List ℕ)) (s : Reader) (now : Option (List ℕ)) (item : declared.Item) : Type 0 where
  pub took : ReaderTook r rest s now
  pub reads : (more : List ℕ) → MayFollow s more
      → next_at r.state (at_of r (took.taken ++ more)) ≡ Ok ((shown_item item, s.state), at_of s more)
  pub some : length s.held < length r.held + length took.taken
  pub ends : item ≡ items.End → s.state ≡ states.Ended
  pub last : s.state ≡ states.Ended → item ≡ items.End
  pub whole : s.state ≡ states.Ended → IsAtEnd s

-- a byte stands behind the last line, in this line
pub record StandsBehind (r : Reader) (taken : List ℕ) (line : ℕ) : Type 0 where
  pub item : Field
  pub first : ℕ
  pub behind : List ℕ
  pub reads : next_at r.state (at_of r taken) ≡ Ok ((item, states.Ended), record { line = line; rest = first ∷ behind })

-- A call took the file to its end, and found a fault at this line: of the next item, or behind the last line.
pub record GivesFault (r : Reader) (rest : Option (List ℕ)) (s : Reader) (now : Option (List ℕ)) (fault : TextFault) : Type 0 where
  pub going : r.state ≢ states.Ended
  pub took : ReaderTook r rest s now
  pub at_the_end : IsTrue s.ended
  pub is : (next_at r.state (at_of r took.taken) ≡ Err fault.line) ⊎ StandsBehind r took.taken fault.line

-- the reader took the file to its end, and a byte stood behind the bytes that were read, in this line
pub record HasBehind (r : Reader) (rest : Option (List ℕ)) (s : Reader) (now : Option (List ℕ)) (fault : TextFault) : Type 0 where
  pub took : ReaderTook r rest s now
  pub at_the_end : IsTrue s.ended
  pub line : fault.line ≡ r.line
  pub first : ℕ
  pub behind : List ℕ
  pub are : r.held ++ took.taken ≡ first ∷ behind

-- ---- what calls read, one after another

-- calls gave these items, whatever comes behind the bytes that they took
pub record Ran (r : Reader) (rest : Option (List ℕ)) (s : Reader) (now : Option (List ℕ)) (items : List Field) : Type 0 where
  pub took : ReaderTook r rest s now
  pub reads : (more : List ℕ) → MayFollow s more → Gave r.state (at_of r (took.taken ++ more)) items s.state (at_of s more)
  pub some : length s.held + length items ≤ length r.held + length took.taken

-- calls read on up to the last item, at the file's end
pub record Finished (r : Reader) (rest : Option (List ℕ)) (s : Reader) (now : Option (List ℕ)) : Type 0 where
  pub items : List Field
  pub ran : Ran r rest s now items
  pub state : s.state ≡ states.Ended
  pub whole : (r.state ≡ states.Ended → IsAtEnd r) → IsAtEnd s

-- calls gave items, and then one found this fault
pub record FailsLater (r : Reader) (rest : Option (List ℕ)) (s : Reader) (now : Option (List ℕ)) (fault : TextFault) : Type 0 where
  pub items : List Field
  pub before : Reader
  pub rest_before : Option (List ℕ)
  pub ran : Ran r rest before rest_before items
  pub fault_is : GivesFault before rest_before s now fault

-- ---- what calls from the start of a file say of it

-- these bytes are the rest of a file, where it is told
abbrev pub IsRest : Option (List ℕ) → List ℕ → Type 0
IsRest rest bytes = ForSome rest (λ r. r ≡ bytes)

-- these bytes are the file, where it is told, and at most so many; they spell the certificate of these items
pub record IsTextOf (most : ℕ) (rest : Option (List ℕ)) (bytes : List ℕ) (items : List Field) : Type 0 where
  pub are : IsRest rest bytes
  pub short : length bytes ≤ most
  pub cert : Cert
  pub is : IsCert cert
  pub text : bytes ≡ text_of cert
  pub items_are : items_of cert ≡ items

-- these bytes are the file, where it is told, and at most so many; this is their first faulty line
pub record IsFaultyAt (most : ℕ) (rest : Option (List ℕ)) (bytes : List ℕ) (line : ℕ) : Type 0 where
  pub are : IsRest rest bytes
  pub short : length bytes ≤ most
  pub faulty : IsFaultyLine Cert IsCert text_of bytes line

-- for each of so many items a byte was taken, or their count stands at its last value
abbrev pub IsPaid : ℕ → ℕ → ℕ → Type 0
IsPaid items before after = (before + items ≤ after) ⊎ (after ≡ 2 ^ 64 - 1)

-- ---- why a call failed

-- Bytes could not be taken: the shelf failed, or there are more than may be taken. A fault of the text is neither.
abbrev pub Fails : ItemFault → ℕ → ShelfTold → ShelfTold → Type 0
Fails Read left before after = Rose before.faults after.faults
Fails TooLong left before after = IsMore left before.rest × TookMore left before.taken after.taken
Fails (Text f) left before after = ⊥
