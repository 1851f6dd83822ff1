-- The operations that are too wide for a row, and why a step has no end.
use Rattle.std.specs.Prelude.{◌≡◌, ◌≢◌, ◌⊎◌, ℕ, pos, negsuc}
use Rattle.exact_num.specs.Fraction.{Fraction, negative_of, product_of, quotient_of}
use Rattle.exact_num.specs.Views.{shown_frac}
use Rattle.exact_run.specs.Operations.{whole, IsReduced, IsWide}
use Rattle.exact_run.specs.declared.operations.Operation.{Operation}
use Rattle.exact_run.specs.declared.operations.Operation.TheVariants.{Add, Sub, Mul, Div}
use Rattle.exact_run.specs.declared.operations.TooWide.{TooWide}
use Rattle.exact_pivots.specs.declared.stop.Stop.{Stop}
use Rattle.exact_pivots.specs.declared.stop.Stop.TheVariants.{Wide, Memory}

-- the operation is one of these, and too wide
abbrev pub IsTooWideBy : (Operation → Fraction → Fraction → Type 0) → TooWide → Type 0
IsTooWideBy written w = written w.operation (shown_frac w.left) (shown_frac w.right) × IsWide w.operation (shown_frac w.left) (shown_frac w.right)

-- what stops a step is one of these operations, or want of memory
abbrev pub Stops : (Operation → Fraction → Fraction → Type 0) → Stop → Type 0
Stops written (Wide w) = IsTooWideBy written w
Stops written Memory = Unit {0}

-- ---- a row that is changed

-- the operations that add a part times the scale to a factor: none where the part is 0, and no sum where the factor is
abbrev pub IsWrittenAt : Fraction → Fraction → Fraction → Operation → Fraction → Fraction → Type 0
IsWrittenAt before scale part Add a b = (part.num ≢ pos 0) × (before.num ≢ pos 0) × (a ≡ before) × IsReduced (product_of scale part) b
IsWrittenAt before scale part Mul a b = (part.num ≢ pos 0) × (a ≡ scale) × (b ≡ part)
IsWrittenAt before scale part _ a b = ⊥

-- those of the factors on all columns but the one that enters
abbrev pub IsWrittenInRow : (ℕ → Fraction) → Fraction → (ℕ → Fraction) → ℕ → Operation → Fraction → Fraction → Type 0
IsWrittenInRow before scale own entering o a b = (j : ℕ) × (j ≢ entering) × IsWrittenAt (before j) scale (own j) o a b

-- ---- the pivot's row

-- a factor of the row that is solved for the column that enters
pub record IsSolvedFactor (by : Fraction) (enters leaves j : ℕ) (before after : Fraction) : Type 0 where
  pub entering : j ≡ enters → after ≡ whole (negsuc 0)
  pub leaving : j ≢ enters → j ≡ leaves → before.num ≢ pos 0 → IsReduced (quotient_of (whole (pos 1)) by) after
  pub others : j ≢ enters → j ≢ leaves → before.num ≢ pos 0 → IsReduced (quotient_of (negative_of before) by) after
  pub zero : j ≢ enters → before.num ≡ pos 0 → after ≡ whole (pos 0)

-- the operations that give what is divided
abbrev pub IsWrittenAbove : ℕ → ℕ → Fraction → Operation → Fraction → Fraction → Type 0
IsWrittenAbove leaves j before Sub a b = (j ≢ leaves) × (a ≡ whole (pos 0)) × (b ≡ before)
IsWrittenAbove leaves j before _ a b = ⊥

-- the operations that one factor takes
abbrev pub IsWrittenSolvingAt : Fraction → ℕ → ℕ → ℕ → Fraction → Operation → Fraction → Fraction → Type 0
IsWrittenSolvingAt by entering leaving j before Sub a b = (j ≢ entering) × IsWrittenAbove leaving j before Sub a b
IsWrittenSolvingAt by entering leaving j before Div a b =
    (j ≢ entering) × (b ≡ by) × (((j ≡ leaving) × (a ≡ whole (pos 1))) ⊎ ((j ≢ leaving) × IsReduced (negative_of before) a))
IsWrittenSolvingAt by entering leaving j before _ a b = ⊥

-- those of the factors that are not 0
abbrev pub IsWrittenSolving : (ℕ → Fraction) → ℕ → ℕ → Operation → Fraction → Fraction → Type 0
IsWrittenSolving row entering leaving o a b = (j : ℕ) × ((row j).num ≢ pos 0) × IsWrittenSolvingAt (row entering) entering leaving j (row j) o a b
