-- What files of answers say.
use Rattle.std.specs.Prelude.{◌≡◌, ℕ, ◌≤◌, List, [], ◌∷◌, length, Option}
use Rattle.std.specs.List.{Contains}
use Rattle.edge_io.specs.Counts.{Rose}
use Rattle.shelf_calls.specs.Files.{HasFile, IsTooLong}
use Rattle.shelf_calls.specs.Told.{ShelfTold}
use Rattle.shelf_calls.specs.declared.fault.ShelfFault.{ShelfFault}
use Rattle.shelf_calls.specs.declared.fault.ShelfFault.TheVariants as shelf
use Rattle.cert_text.specs.Lines.{IsFaultyLine}
use Rattle.work_units.specs.Units as units
use Rattle.job_texts.specs.Texts.{AreWritten, answers_text}
use Rattle.job_texts.specs.Views.{shown_answers}
use Rattle.gathered_run.specs.declared.files.AnswersFile.{AnswersFile}
use Rattle.gathered_run.specs.declared.files.AnswersFile.TheVariants.{Answers, Faulty}
use Rattle.run_status.specs.Reads.{Files}
use Rattle.job_commands.specs.Handed.{most_jobs}

-- the bytes say so: they are the text of these answers, or of none, and this is their first faulty line
abbrev pub Say : List ℕ → AnswersFile → Type 0
Say bytes (Answers answers) = AreWritten (shown_answers answers) × (bytes ≡ answers_text (shown_answers answers))
Say bytes (Faulty line) = IsFaultyLine (List units.Answer) AreWritten answers_text bytes line

-- the file of this name has at most so many bytes, and they say so
pub record SaysUnder (files : Option Files) (name : List ℕ) (said : AnswersFile) : Type 0 where
  pub bytes : List ℕ
  pub file : HasFile files name bytes
  pub short : length bytes ≤ most_jobs
  pub say : Say bytes said

-- so say the files of these names, one after another
abbrev pub SayUnder : Option Files → List (List ℕ) → List AnswersFile → Type 0
SayUnder files [] [] = Unit {0}
SayUnder files [] (said ∷ later) = ⊥
SayUnder files (name ∷ names) [] = ⊥
SayUnder files (name ∷ names) (said ∷ later) = SaysUnder files name said × SayUnder files names later

-- Why one is not read: the shelf failed, it is longer than may be, or memory ran out. The counts are of the bytes taken.
abbrev pub IsUnsaid : List ℕ → (before after : ShelfTold) → ShelfFault → Type 0
IsUnsaid name before after shelf.Failed = Rose before.faults after.faults
IsUnsaid name before after shelf.TooLong = IsTooLong before.files name most_jobs before.taken after.taken
IsUnsaid name before after shelf.Memory = Unit {0}

-- so it is of one of the files of these names
pub record IsOneUnsaid (names : List (List ℕ)) (before after : ShelfTold) (fault : ShelfFault) : Type 0 where
  pub name : List ℕ
  pub one : Contains names name
  pub unsaid : IsUnsaid name before after fault
