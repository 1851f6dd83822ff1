-- How an answer is judged, and what a delivery makes of a desk.
use Rattle.std.specs.Prelude.{◌≡◌, ℕ, ◌<◌, ◌≤◌, List, [], ◌∷◌, ◌++◌, length, true, false}
use Rattle.pool_model.specs.Network.{Net}
use Rattle.row_model.specs.Entries.{after, IsEntryInOrder}
use Rattle.box_tree.specs.EntryFaults as entries
use Rattle.box_tree.specs.EntryFaults.{IsFirstFault}
use Rattle.work_units.specs.Units.{Answer, node_of, Splits}
use Rattle.work_units.specs.Desks.{Desk, is_answered}
use Rattle.work_units.specs.declared.answer.Judged.{Judged}
use Rattle.work_units.specs.declared.answer.Judged.TheVariants.{Stranger, Repeated, Wrong, Refused, Fits}

-- there is a job of this number, and it waits for an answer
pub record IsWaiting (d : Desk) (number : ℕ) : Type 0 where
  pub known : number < length d.jobs
  pub unanswered : is_answered d number ≡ false

-- the answer's job waits, and it brings a split of the job's node
pub record IsAtJob (d : Desk) (a : Answer) : Type 0 where
  pub waiting : IsWaiting d a.number
  pub splits : Splits (node_of d.jobs a.number) a.entry

-- how an answer is judged that brings no split of the node of a job that waits
abbrev pub IsDismissed : Desk → Answer → Judged → Type 0
IsDismissed d a Stranger = length d.jobs ≤ a.number
IsDismissed d a Repeated = (a.number < length d.jobs) × (is_answered d a.number ≡ true)
IsDismissed d a Wrong = IsWaiting d a.number × ¬ Splits (node_of d.jobs a.number) a.entry
IsDismissed d a _ = ⊥

-- how an answer is judged: the first that holds, in the order of the variants
abbrev pub IsJudged : Net → Desk → Answer → Judged → Type 0
IsJudged n d a Fits = IsAtJob d a × IsEntryInOrder n d.searched a.entry
IsJudged n d a (Refused fault) = IsAtJob d a × IsFirstFault n d.searched a.entry fault
IsJudged n d a judged = IsDismissed d a judged

-- what an answer makes of a desk that is judged so: where it fits it is applied and taken, and else all stays
abbrev pub after_delivery : Desk → Answer → Judged → Desk
after_delivery d a Fits = record { searched = after d.searched a.entry; jobs = d.jobs; taken = d.taken ++ a ∷ [] }
after_delivery d a _ = d

-- the number of a judgement, in the order in which they are looked for, and of a refusal that of its cause
abbrev pub rank : Judged → List ℕ
rank Stranger = 1 ∷ []
rank Repeated = 2 ∷ []
rank Wrong = 3 ∷ []
rank (Refused fault) = 4 ∷ entries.rank fault
rank Fits = 5 ∷ []
