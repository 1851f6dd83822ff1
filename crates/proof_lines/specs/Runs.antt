-- A run of a reader over the opened file of a shelf: what it took of the file, and which items it read.
use Rattle.std.specs.Prelude.{◌≡◌, ◌≢◌, ◌-◌, ◌⊎◌, IsTrue, List}
use Rattle.edge_io.specs.Counts.{Rose, RoseBy}
use Rattle.shelf_calls.specs.Opened.{IsUsedUp}
use Rattle.shelf_calls.specs.Told.{ShelfTold, Keeps}
use Rattle.cert_stream.specs.declared.fault.ItemFault.{ItemFault}
use Rattle.cert_stream.specs.declared.fault.ItemFault.TheVariants as faults
use Rattle.cert_items.specs.declared.items.State.{State}
use Rattle.cert_items.specs.declared.items.State.TheVariants.{Ended}
use Rattle.cert_stream.specs.Items.{Field}
use Rattle.cert_stream.specs.Streams.{Reader, Ran, FailsLater, IsMore, TookMore}
use Rattle.proof_lines.specs.declared.refusal.Refusal.{Refusal}
use Rattle.proof_lines.specs.declared.refusal.Refusal.TheVariants.{Text, Memory as NoMemory}
use Rattle.proof_lines.specs.declared.stream_refusal.StreamRefusal.{StreamRefusal}
use Rattle.proof_lines.specs.declared.stream_refusal.StreamRefusal.TheVariants.{Read, TooLong, Refused, Memory}

-- where a run stands: its reader, and what the shelf tells
pub record Moment : Type 0 where
  pub reader : Reader
  pub shelf : ShelfTold

-- the moment of a reader and a shelf
abbrev pub moment : Reader → ShelfTold → Moment
moment reader shelf = record { reader = reader; shelf = shelf }

-- The reader read these items, as many bytes were counted as it took, and the count of faults is as it was.
pub record Run (m k : Moment) (is : List Field) : Type 0 where
  pub kept : Keeps m.shelf k.shelf
  pub ran : Ran m.reader m.shelf.rest k.reader k.shelf.rest is
  pub counted : RoseBy (m.reader.left - k.reader.left) m.shelf.taken k.shelf.taken
  pub quiet : k.shelf.faults ≡ m.shelf.faults

-- the text goes on with this state, and where the reader is at the end of the file nothing is left
pub record IsReady (m : Moment) (s : State) : Type 0 where
  pub at : m.reader.state ≡ s
  pub used_up : IsTrue m.reader.ended → IsUsedUp m.shelf.rest

-- why no item came
abbrev pub IsWhy : Moment → Moment → ItemFault → Type 0
IsWhy m k faults.Read = Rose m.shelf.faults k.shelf.faults
IsWhy m k faults.TooLong = IsMore m.reader.left m.shelf.rest × TookMore m.reader.left m.shelf.taken k.shelf.taken
IsWhy m k (faults.Text f) = FailsLater m.reader m.shelf.rest k.reader k.shelf.rest f

-- a reading that failed; the count of faults is as it was, unless the shelf failed
pub record Failed (m k : Moment) (fault : ItemFault) : Type 0 where
  pub kept : Keeps m.shelf k.shelf
  pub why : IsWhy m k fault
  pub quiet : (fault ≡ faults.Read) ⊎ (k.shelf.faults ≡ m.shelf.faults)

-- some items were read, and for what they are the certificate is refused; the text goes on
pub record Found (P : List Field → Refusal → Type 0) (m k : Moment) (r : Refusal) : Type 0 where
  pub items : List Field
  pub run : Run m k items
  pub going : k.reader.state ≢ Ended
  pub used_up : IsTrue k.reader.ended → IsUsedUp k.shelf.rest
  pub found : P items r

-- why a part of a certificate was not taken; want of memory says nothing, and is not a refusal
abbrev pub IsCause : (List Field → Refusal → Type 0) → Moment → Moment → StreamRefusal → Type 0
IsCause P m k Read = Rose m.shelf.faults k.shelf.faults
IsCause P m k TooLong = IsMore m.reader.left m.shelf.rest × TookMore m.reader.left m.shelf.taken k.shelf.taken
IsCause P m k (Refused (Text f)) = FailsLater m.reader m.shelf.rest k.reader k.shelf.rest f
IsCause P m k (Refused NoMemory) = ⊥
IsCause P m k (Refused r) = Found P m k r
IsCause P m k Memory = Unit {0}

-- a part of a certificate that was not taken; the count of faults is as it was, unless the shelf failed
pub record Halts (P : List Field → Refusal → Type 0) (m k : Moment) (r : StreamRefusal) : Type 0 where
  pub kept : Keeps m.shelf k.shelf
  pub cause : IsCause P m k r
  pub quiet : (r ≡ Read) ⊎ (k.shelf.faults ≡ m.shelf.faults)

-- ---- errors that are handed on

-- the refusal of a stream for what the reader answered
abbrev pub of_fault : ItemFault → StreamRefusal
of_fault faults.Read = Read
of_fault faults.TooLong = TooLong
of_fault (faults.Text f) = Refused (Text f)

-- the refusal of a stream for one of a text
abbrev pub of_refusal : Refusal → StreamRefusal
of_refusal NoMemory = Memory
of_refusal r = Refused r
