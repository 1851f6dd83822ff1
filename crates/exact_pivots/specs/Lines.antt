-- Lines of a state after a step, and the operations that they take.
use Rattle.std.specs.Prelude.{◌≡◌, ◌≢◌, ◌⊎◌, ℕ, ◌<◌, ◌≤◌, pos, List, length}
use Rattle.exact_num.specs.Fraction.{Fraction, sum_of, difference_of, product_of, quotient_of}
use Rattle.exact_run.specs.Operations.{whole, IsReduced}
use Rattle.exact_run.specs.Programs.{Program, end_value}
use Rattle.exact_run.specs.States.{State}
use Rattle.exact_run.specs.declared.operations.Operation.{Operation}
use Rattle.exact_run.specs.declared.operations.Operation.TheVariants.{Sub, Div}
use Rattle.exact_pivots.specs.Stops.{IsWrittenAt, IsWrittenInRow, IsSolvedFactor}
use Rattle.exact_pivots.specs.Views.{Shown, line_at}
use Rattle.exact_pivots.specs.declared.pivots.Leaving.{Leaving}
use Rattle.exact_pivots.specs.declared.tableau.Line.{Line}

-- ---- the pivot's row

-- the operations by which it is found how far the column that enters moves
abbrev pub IsWrittenMoving : Fraction → Fraction → Fraction → Operation → Fraction → Fraction → Type 0
IsWrittenMoving end value by Sub a b = (a ≡ end) × (b ≡ value)
IsWrittenMoving end value by Div a b = IsReduced (difference_of end value) a × (b ≡ by)
IsWrittenMoving end value by _ a b = ⊥

-- how far the column that enters moves, its factors then, and its value
pub record IsPivotRow (p : Program) (s : State) (l : Leaving) (enters : ℕ) (distance : Fraction) (row : ℕ → Fraction) (entered : Fraction) : Type 0 where
  pub moved : IsReduced (quotient_of (difference_of (whole l.end) (s.value l.place)) (s.factor l.place enters)) distance
  pub own : (j : ℕ) → IsSolvedFactor (s.factor l.place enters) enters (s.basic l.place) j (s.factor l.place j) (row j)
  pub value : IsReduced (sum_of (whole (end_value p enters (s.stands enters))) distance) entered

-- ---- the other rows

-- a row's factors, with the pivot's added: none is left on the column that enters
pub record IsChangedRow (enters : ℕ) (own before after : ℕ → Fraction) : Type 0 where
  pub entering : after enters ≡ whole (pos 0)
  pub others : (j : ℕ) → j ≢ enters → IsReduced (sum_of (before j) (product_of (before enters) (own j))) (after j)

-- a line with the pivot's row added
pub record IsChangedLine (entering : ℕ) (moved : Fraction) (own : ℕ → Fraction) (before after : Shown) : Type 0 where
  pub basic : after.basic ≡ before.basic
  pub value : IsReduced (sum_of before.value (product_of (before.factor entering) moved)) after.value
  pub row : IsChangedRow entering own before.factor after.factor

-- the operations of a line
abbrev pub IsWrittenChanging : ℕ → Fraction → (ℕ → Fraction) → Shown → Operation → Fraction → Fraction → Type 0
IsWrittenChanging entering moved own before o a b =
    IsWrittenAt before.value (before.factor entering) moved o a b
    ⊎ IsWrittenInRow before.factor (before.factor entering) own entering o a b

-- of the first lines, all but that of the place are changed; the others are as before
pub record AreChangedTo (skipped enters : ℕ) (moved : Fraction) (own : ℕ → Fraction) (before after : List Line) (n : ℕ) : Type 0 where
  pub length : length after ≡ length before
  pub done : (q : ℕ) → q < n → q ≢ skipped → IsChangedLine enters moved own (line_at before q) (line_at after q)
  pub rest : (q : ℕ) → n ≤ q → line_at after q ≡ line_at before q
  pub place : line_at after skipped ≡ line_at before skipped
