-- Which column leaves and which one enters, as the run looks for them.
use Rattle.std.specs.Prelude.{◌≡◌, ℕ, ◌<◌, ◌≤◌, Option, Some, None, ℤ}
use Rattle.exact_num.specs.Fraction.{Fraction}
use Rattle.exact_run.specs.Programs.{Program}
use Rattle.exact_run.specs.States.{State}
use Rattle.exact_run.specs.Steps.{IsPast, Leaves, IsCandidate, Enters, Pivot, IsPivot, IsStep}
use Rattle.exact_run.specs.Runs.{IsSolved}
use Rattle.exact_run.specs.Written.{IsWritten}
use Rattle.exact_run.specs.declared.ends.End.{End}
use Rattle.exact_run.specs.declared.operations.Operation.{Operation}
use Rattle.exact_pivots.specs.declared.pivots.Leaving.{Leaving}

-- the column that leaves, or that none does
abbrev pub IsLeaving : Program → State → Option Leaving → Type 0
IsLeaving p s None = IsSolved p s
IsLeaving p s (Some l) = Leaves p s l.place l.side l.end

-- no column may enter
abbrev pub HasNone : Program → State → Leaving → Type 0
HasNone p s l = (j : ℕ) → IsCandidate p s l.place l.side j → ⊥

-- some column may enter
abbrev pub HasSome : Program → State → Leaving → Type 0
HasSome p s l = (j : ℕ) × IsCandidate p s l.place l.side j

-- the column that enters, or that none does
abbrev pub IsEntering : Program → State → Leaving → Option ℕ → Type 0
IsEntering p s l None = HasNone p s l
IsEntering p s l (Some k) = Enters p s l.place l.side k

-- the operation is one of those that a step from the state writes
abbrev pub IsWrittenFrom : Program → State → Operation → Fraction → Fraction → Type 0
IsWrittenFrom p s o a b = (v : Pivot) × IsPivot p s v × IsWritten p s v o a b

-- a step leads from the one state to the other
abbrev pub StepsTo : Program → State → State → Type 0
StepsTo p s after = (v : Pivot) × IsPivot p s v × IsStep p s v after

-- ---- on the way

-- what there is to leave of the first places
abbrev pub IsLeavingOf : Program → State → ℕ → Option Leaving → Type 0
IsLeavingOf p s n None = (q : ℕ) (side : End) (e : ℤ) → q < n → IsPast p s q side e → ⊥
IsLeavingOf p s n (Some l) = (l.place < n) × IsPast p s l.place l.side l.end × ((q : ℕ) (side : End) (e : ℤ) → q < n → IsPast p s q side e → s.basic l.place ≤ s.basic q)

-- the end that a place's column is past, if any
abbrev pub IsPastAt : Program → State → ℕ → Option Leaving → Type 0
IsPastAt p s q None = (side : End) (e : ℤ) → IsPast p s q side e → ⊥
IsPastAt p s q (Some l) = (l.place ≡ q) × IsPast p s l.place l.side l.end
