-- The values of the program, without where they lie in memory.
use Rattle.std.specs.Prelude.{◌≡◌, List, Ok, Err, Result, map, option_map, string_bytes}
use Rattle.clap.specs.Words.{Row, first_of}
use Rattle.command_items.specs.Items.{Text}
use Rattle.command_items.specs.Views.{values_under}
use Rattle.cli_words.specs.Requests.{Asked, Solving, line_of, solve, check, report, formulate, make, trial, jobs, work, gather, tight, checktight}
use Rattle.cli_words.specs.Asks.{Says}
use Rattle.cli_words.specs.declared.request.SolveWords.{SolveWords}
use Rattle.cli_words.specs.declared.request.Request.{Request}
use Rattle.cli_words.specs.declared.request.Request.TheVariants.{Solve, Check, Report, Formulate, Make, Trial, Jobs, Work, Gather, Tight, CheckTight}
use Rattle.cli_words.specs.declared.request.WordsFault.{WordsFault}
use Rattle.cli_words.specs.declared.request.WordsFault.TheVariants.{Usage, Memory}

-- what `solve` is asked
abbrev pub shown_solving : SolveWords → Solving
shown_solving s = record { net = string_bytes s.net; form = s.form; nodes = s.nodes; gap = s.gap; journal = option_map string_bytes s.journal; rule = s.rule; squeeze = s.squeeze; raise = s.raise }

-- a request
abbrev pub shown_request : Request → Asked
shown_request (Solve s) = solve (shown_solving s)
shown_request (Check net cert) = check (string_bytes net) (string_bytes cert)
shown_request (Report net cert) = report (string_bytes net) (string_bytes cert)
shown_request (Formulate net form) = formulate (string_bytes net) form
shown_request (Make n) = make n
shown_request (Trial n) = trial n
shown_request (Jobs net journal count) = jobs (string_bytes net) (string_bytes journal) count
shown_request (Work net file form) = work (string_bytes net) (string_bytes file) form
shown_request (Gather net file answers journal) = gather (string_bytes net) (string_bytes file) (map string_bytes answers.items) (string_bytes journal)
shown_request (Tight net cert form pivots) = tight (string_bytes net) (string_bytes cert) form pivots
shown_request (CheckTight net cert marks) = checktight (string_bytes net) (string_bytes cert) (string_bytes marks)

-- ---- words of the inner contracts

-- the command with the values of these rows asks this
pub record Means (command : Text) (rows : List Row) (asked : Asked) : Type 0 where
  pub is : command ≡ (line_of asked).command
  pub says : Says (λ name. first_of name rows) (values_under rows) asked

-- the answer is a value that is meant, or usage where none is; where it is that memory is wanted, this holds
abbrev pub AnswersOr : Type 0 → {A B : Type 0} → (A → B) → (B → Type 0) → Result A WordsFault → Type 0
AnswersOr Wanting shown Meant (Ok a) = Meant (shown a)
AnswersOr Wanting {A} {B} shown Meant (Err Usage) = (b : B) → ¬ Meant b
AnswersOr Wanting shown Meant (Err Memory) = Wanting

-- memory is taken before it is known whether a value is meant
abbrev pub Answers : {A B : Type 0} → (A → B) → (B → Type 0) → Result A WordsFault → Type 0
Answers shown Meant result = AnswersOr (Unit {0}) shown Meant result

-- memory is taken only where a value is meant
abbrev pub Takes : {A B : Type 0} → (A → B) → (B → Type 0) → Result A WordsFault → Type 0
Takes {A} {B} shown Meant result = AnswersOr ((b : B) × Meant b) shown Meant result

-- no memory is taken
abbrev pub Reads : {A B : Type 0} → (A → B) → (B → Type 0) → Result A WordsFault → Type 0
Reads shown Meant result = AnswersOr ⊥ shown Meant result
