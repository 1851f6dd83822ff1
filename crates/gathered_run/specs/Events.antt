-- What came of what files bring.
use Rattle.std.specs.Prelude.{ℕ, List, [], ◌∷◌, Ok}
use Rattle.pool_model.specs.Network.{Net}
use Rattle.row_model.specs.Entries.{Entry}
use Rattle.work_units.specs.Units.{Answer}
use Rattle.work_units.specs.Desks.{Desk, entries_of}
use Rattle.work_units.specs.Deliveries.{Delivery, AreDelivered, after_all, fitting}
use Rattle.work_units.specs.declared.answer.Judged as judgements
use Rattle.gathered_run.specs.Files.{Item, an_answer, no_answers}
use Rattle.gathered_run.specs.declared.told.Line as lines
use Rattle.gathered_run.specs.declared.told.Line.TheVariants as told

-- an answer with how it was judged; or that the file of this number spells none, and its first faulty line
pub data Event : Type 0 where
  judged : (answer : Answer) (how : judgements.Judged) → Event
  faulty : (file line : ℕ) → Event

-- what it came of
abbrev pub item_of : Event → Item
item_of (judged answer how) = an_answer answer
item_of (faulty file line) = no_answers file line

-- what is told of it
abbrev pub line_of : Event → lines.Line
line_of (judged answer how) = told.Answer answer.number how
line_of (faulty file line) = told.Faulty file line

-- the answers that were delivered
abbrev pub deliveries : List Event → List Delivery
deliveries [] = []
deliveries (judged answer how ∷ events) = record { answer = answer; came = Ok how } ∷ deliveries events
deliveries (faulty file line ∷ events) = deliveries events

-- the entries of the answers that fitted
abbrev pub gains : List Event → List Entry
gains events = entries_of (fitting (deliveries events))

-- the desk after them
abbrev pub desk_after : Desk → List Event → Desk
desk_after d events = after_all d (deliveries events)

-- each answer was judged on the desk after the answers before it
abbrev pub AreJudged : Net → Desk → List Event → Type 0
AreJudged n d events = AreDelivered n d (deliveries events)
