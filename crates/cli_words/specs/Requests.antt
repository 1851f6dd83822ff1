-- What words can ask.
use Rattle.std.specs.Prelude.{ℕ, Bool, ℤ, List, Option}
use Rattle.command_items.specs.Items.{Text}
use Rattle.command_items.specs.Lines.{Line, solve_line, check_line, report_line, formulate_line, make_line, trial_line, jobs_line, work_line, gather_line, tight_line, checktight_line}
use Rattle.box_space.specs.declared.coordinates.Form.{Form}
use Rattle.branching.specs.declared.name.RuleName.{RuleName}

-- what `solve` is asked; the gap is in picos, and halves are raised in so many pivots
pub record Solving : Type 0 where
  pub net : Text
  pub form : Form
  pub nodes : ℕ
  pub gap : ℤ
  pub journal : Option Text
  pub rule : RuleName
  pub squeeze : Bool
  pub raise : ℕ

-- a request, without where it lies in memory
pub data Asked : Type 0 where
  solve : Solving → Asked
  check : (net cert : Text) → Asked
  report : (net cert : Text) → Asked
  formulate : (net : Text) (form : Form) → Asked
  make : (number : ℕ) → Asked
  trial : (number : ℕ) → Asked
  jobs : (net journal : Text) (count : ℕ) → Asked
  work : (net jobs : Text) (form : Form) → Asked
  gather : (net jobs : Text) (answers : List Text) (journal : Text) → Asked
  tight : (net cert : Text) (form : Form) (pivots : ℕ) → Asked
  checktight : (net cert marks : Text) → Asked

-- the line of its command
abbrev pub line_of : Asked → Line
line_of (solve s) = solve_line
line_of (check net cert) = check_line
line_of (report net cert) = report_line
line_of (formulate net form) = formulate_line
line_of (make n) = make_line
line_of (trial n) = trial_line
line_of (jobs net journal count) = jobs_line
line_of (work net file form) = work_line
line_of (gather net file answers journal) = gather_line
line_of (tight net cert form pivots) = tight_line
line_of (checktight net cert marks) = checktight_line
