-- The exact run: the state after so many steps, how it ends, and what the end gives.
use Rattle.std.specs.Prelude.{◌≡◌, ◌≢◌, ℕ, zero, suc, ◌<◌, ℤ, pos}
use Rattle.exact_num.specs.Fraction.{Fraction, negative_of}
use Rattle.exact_run.specs.Operations.{whole}
use Rattle.exact_run.specs.Programs.{Program, row_column, end_value}
use Rattle.exact_run.specs.States.{State, IsFree, IsStart}
use Rattle.exact_run.specs.Steps.{IsPast, Leaves, IsCandidate, Pivot, IsPivot, IsStep}
use Rattle.exact_run.specs.Written.{IsWritten}
use Rattle.exact_run.specs.declared.ends.End.{End}
use Rattle.exact_run.specs.declared.ends.End.TheVariants.{Low, High}
use Rattle.exact_run.specs.declared.operations.Operation.{Operation}

-- the run comes to the state after so many steps
abbrev pub Reaches : Program → ℕ → State → Type 0
Reaches p zero s = IsStart p s
Reaches p (suc steps) s = (before : State) × (v : Pivot) × Reaches p steps before × IsPivot p before v × IsStep p before v s

-- the operation is written in one of the first so many steps
abbrev pub IsWrittenWithin : Program → ℕ → Operation → Fraction → Fraction → Type 0
IsWrittenWithin p pivots o a b = (steps : ℕ) × (steps < pivots) × (s : State) × (v : Pivot) × Reaches p steps s × IsPivot p s v × IsWritten p s v o a b

-- ---- ends

-- no basic column is past an end: the run ends with a point
abbrev pub IsSolved : Program → State → Type 0
IsSolved p s = (r : ℕ) (side : End) (e : ℤ) → r < p.rows → ¬ IsPast p s r side e

-- a column is to leave and none may enter: the run ends without a point
pub record IsEmpty (p : Program) (s : State) (r : ℕ) (side : End) (e : ℤ) : Type 0 where
  pub leaves : Leaves p s r side e
  pub none : (j : ℕ) → ¬ IsCandidate p s r side j

-- ---- what an end gives

-- the value of a column there
pub record IsValueOf (p : Program) (s : State) (j : ℕ) (x : Fraction) : Type 0 where
  pub basic : (r : ℕ) → r < p.rows → s.basic r ≡ j → x ≡ s.value r
  pub free : IsFree p s j → x ≡ whole (end_value p j (s.stands j))

-- a row's multiplier after a point: the cost's factor on its column, and 0 where that is basic
pub record IsSolvedMultiplier (p : Program) (s : State) (row : ℕ) (x : Fraction) : Type 0 where
  pub basic : (r : ℕ) → r < p.rows → s.basic r ≡ row_column p row → x ≡ whole (pos 0)
  pub free : IsFree p s (row_column p row) → x ≡ s.cost (row_column p row)

-- the other sign where the high end is passed
abbrev pub turned_for : End → Fraction → Fraction
turned_for Low x = x
turned_for High x = negative_of x

-- a row's multiplier where there is no point: minus the factor on its column, of the place whose column is to leave; 1 on that column
-- itself, and 0 on the other basic ones; all of the other sign where the high end is passed
pub record IsEmptyMultiplier (p : Program) (s : State) (place : ℕ) (side : End) (row : ℕ) (x : Fraction) : Type 0 where
  pub own : s.basic place ≡ row_column p row → x ≡ turned_for side (whole (pos 1))
  pub basic : (r : ℕ) → r < p.rows → r ≢ place → s.basic r ≡ row_column p row → x ≡ whole (pos 0)
  pub free : IsFree p s (row_column p row) → x ≡ turned_for side (negative_of (s.factor place (row_column p row)))
