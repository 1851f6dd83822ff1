-- What files of answers bring.
use Rattle.std.specs.Prelude.{ℕ, suc, List, [], ◌∷◌, ◌++◌, map}
use Rattle.work_units.specs.Units.{Answer}
use Rattle.work_units.specs.Views.{shown_answer}
use Rattle.work_units.specs.declared.answer.Answer as held
use Rattle.gathered_run.specs.declared.files.AnswersFile.{AnswersFile}
use Rattle.gathered_run.specs.declared.files.AnswersFile.TheVariants.{Answers, Faulty}

-- an answer; or that the file of this number spells none, and its first faulty line
pub data Item : Type 0 where
  an_answer : (answer : Answer) → Item
  no_answers : (file line : ℕ) → Item

-- what a list of answers brings
abbrev pub items_of_answers : List held.Answer → List Item
items_of_answers answers = map (λ a. an_answer (shown_answer a)) answers

-- what the file of this number brings: its answers in order, or that it spells none
abbrev pub items_in : ℕ → AnswersFile → List Item
items_in file (Answers answers) = items_of_answers answers.items
items_in file (Faulty line) = no_answers file line ∷ []

-- what files bring, one after another, from this number on
abbrev pub items_from : ℕ → List AnswersFile → List Item
items_from file [] = []
items_from file (f ∷ files) = items_in file f ++ items_from (suc file) files

abbrev pub items_of : List AnswersFile → List Item
items_of files = items_from 0 files
