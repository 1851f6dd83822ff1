-- How a run in memory ends.
use Rattle.std.specs.Prelude.{ℕ, ◌≤◌}
use Rattle.exact_num.specs.Views.{shown_frac}
use Rattle.exact_run.specs.Operations.{IsWide}
use Rattle.exact_run.specs.Programs.{Program}
use Rattle.exact_run.specs.States.{State}
use Rattle.exact_run.specs.Steps.{Leaves}
use Rattle.exact_run.specs.Runs.{Reaches, IsSolved, IsEmpty, IsWrittenWithin}
use Rattle.exact_pivots.specs.Views.{state_of}
use Rattle.exact_pivots.specs.Fits.{Fits}
use Rattle.exact_pivots.specs.Choices.{HasSome}
use Rattle.exact_pivots.specs.declared.pivots.Leaving.{Leaving}
use Rattle.exact_pivots.specs.declared.run.Run.{Run}
use Rattle.exact_pivots.specs.declared.run.Run.TheVariants.{Solved, Empty, Pivots, Wide}
use Rattle.exact_pivots.specs.declared.tableau.Tableau.{Tableau}

-- the run comes to the state in memory within so many steps
pub record Comes (p : Program) (pivots : ℕ) (t : Tableau) : Type 0 where
  pub steps : ℕ
  pub few : steps ≤ pivots
  pub reaches : Reaches p steps (state_of t)
  pub fits : Fits p t

-- the run goes on after so many steps: a column leaves, and another may enter
abbrev pub GoesOn : Program → ℕ → Type 0
GoesOn p pivots = (s : State) × Reaches p pivots s × (l : Leaving) × Leaves p s l.place l.side l.end × HasSome p s l

-- what an end of the run says of it
abbrev pub IsEnd : Program → ℕ → Run → Type 0
IsEnd p pivots (Solved t) = Comes p pivots t × IsSolved p (state_of t)
IsEnd p pivots (Empty t l) = Comes p pivots t × IsEmpty p (state_of t) l.place l.side l.end
IsEnd p pivots Pivots = GoesOn p pivots
IsEnd p pivots (Wide w) = IsWrittenWithin p pivots w.operation (shown_frac w.left) (shown_frac w.right) × IsWide w.operation (shown_frac w.left) (shown_frac w.right)
