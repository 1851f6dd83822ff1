-- Answers to jobs on leaves of a tree.
use Rattle.std.specs.Prelude.{◌≡◌, ◌↔◌, ℕ, ◌<◌, List, length, All}
use Rattle.std.specs.List.{Contains, AllPairs}
use Rattle.pool_model.specs.Network.{Net}
use Rattle.row_model.specs.Trees.{Split, box_of}
use Rattle.row_model.specs.Entries.{Searched}
use Rattle.box_space.specs.declared.coordinates.Form.{Form}
use Rattle.work_units.specs.Units.{Answer, node_of}
use Rattle.work_units.specs.Judging.{IsJudged}
use Rattle.work_units.specs.declared.answer.Judged.TheVariants.{Fits}
use Rattle.work_units.specs.declared.job.Job.{Job}
use Rattle.job_work.specs.Worked.{CanBeCut, IsWorked}

-- an answer to the job of this number is among these
abbrev pub HasAnswer : List Answer → ℕ → Type 0
HasAnswer answers k = (a : Answer) × Contains answers a × (a.number ≡ k)

-- there is one answer to each job whose leaf can be cut at a coordinate of the form, in the order of the jobs, and no other
pub record AreAnswered (n : Net) (form : Form) (splits : List Split) (jobs : List Job) (answers : List Answer) : Type 0 where
  pub ordered : AllPairs (λ a b. a.number < b.number) answers
  pub answered : (k : ℕ) → HasAnswer answers k ↔ ((k < length jobs) × CanBeCut n form (box_of n splits (node_of jobs k)))

-- the answer is to a job, and brings what work on the job's leaf gives
pub record IsAnswerTo (n : Net) (form : Form) (s : Searched) (jobs : List Job) (a : Answer) : Type 0 where
  pub known : a.number < length jobs
  pub worked : IsWorked n form s (node_of jobs a.number) a.entry

abbrev pub AreWorked : Net → Form → Searched → List Job → List Answer → Type 0
AreWorked n form s jobs answers = All (IsAnswerTo n form s jobs) answers

-- a desk over the tree with these jobs judges each answer to fit, whatever its list of taken answers
abbrev pub FitDesks : Net → Searched → List Job → List Answer → Type 0
FitDesks n s jobs answers = (taken : List Answer) → All (λ a. IsJudged n record { searched = s; jobs = jobs; taken = taken } a Fits) answers
