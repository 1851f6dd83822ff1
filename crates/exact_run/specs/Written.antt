-- The operations that a step writes, each on two fractions in lowest terms: one of these may be too wide.
use Rattle.std.specs.Prelude.{◌≡◌, ◌≢◌, ◌⊎◌, ℕ, ◌<◌, pos}
use Rattle.exact_num.specs.Fraction.{Fraction, negative_of, difference_of, product_of}
use Rattle.exact_run.specs.Operations.{whole, IsReduced}
use Rattle.exact_run.specs.Programs.{Program, end_value}
use Rattle.exact_run.specs.States.{State}
use Rattle.exact_run.specs.Steps.{IsCandidate, Pivot, StaysFree, leaving}
use Rattle.exact_run.specs.declared.operations.Operation.{Operation}
use Rattle.exact_run.specs.declared.operations.Operation.TheVariants.{Add, Sub, Mul, Div}

-- factors that the step changes: those of a basic column that stays, or of the cost
abbrev pub IsChanged : Program → State → Pivot → (ℕ → Fraction) → Type 0
IsChanged p s v factors = ((q : ℕ) × (q < p.rows) × (q ≢ v.place) × (factors ≡ s.factor q)) ⊎ (factors ≡ s.cost)

-- the value of the column that enters, and that of a basic column that stays
abbrev pub IsAdded : Program → State → Pivot → Fraction → Fraction → Type 0
IsAdded p s v a b =
    ((a ≡ whole (end_value p v.entering (s.stands v.entering))) × (b ≡ v.moved))
    ⊎ (((q : ℕ) × (q < p.rows) × (q ≢ v.place) × (a ≡ s.value q) × IsReduced (product_of (s.factor q v.entering) v.moved) b)
    ⊎ ((factors : ℕ → Fraction) × IsChanged p s v factors × (j : ℕ) × StaysFree p s v j × (a ≡ factors j) × IsReduced (product_of (factors v.entering) (v.own j)) b))

-- how far the value is past its end, and a factor's negative
abbrev pub IsSubtracted : Program → State → Pivot → Fraction → Fraction → Type 0
IsSubtracted p s v a b =
    ((a ≡ whole v.end) × (b ≡ s.value v.place))
    ⊎ ((j : ℕ) × StaysFree p s v j × (a ≡ whole (pos 0)) × (b ≡ s.factor v.place j))

-- what a factor on the column that enters is multiplied with
abbrev pub IsMultiplied : Program → State → Pivot → Fraction → Fraction → Type 0
IsMultiplied p s v a b =
    ((q : ℕ) × (q < p.rows) × (q ≢ v.place) × (a ≡ s.factor q v.entering) × (b ≡ v.moved))
    ⊎ ((factors : ℕ → Fraction) × IsChanged p s v factors × (a ≡ factors v.entering)
    × ((b ≡ v.own (leaving s v)) ⊎ ((j : ℕ) × StaysFree p s v j × (b ≡ v.own j))))

-- what is divided by the factor on the column that enters, and the cost's factor by that on a candidate
abbrev pub IsDivided : Program → State → Pivot → Fraction → Fraction → Type 0
IsDivided p s v a b =
    ((b ≡ s.factor v.place v.entering)
    × (IsReduced (difference_of (whole v.end) (s.value v.place)) a ⊎ ((a ≡ whole (pos 1)) ⊎ ((j : ℕ) × StaysFree p s v j × IsReduced (negative_of (s.factor v.place j)) a))))
    ⊎ ((j : ℕ) × IsCandidate p s v.place v.side j × (a ≡ s.cost j) × (b ≡ s.factor v.place j))

-- the step of the pivot writes the operation on the two
abbrev pub IsWritten : Program → State → Pivot → Operation → Fraction → Fraction → Type 0
IsWritten p s v Add = IsAdded p s v
IsWritten p s v Sub = IsSubtracted p s v
IsWritten p s v Mul = IsMultiplied p s v
IsWritten p s v Div = IsDivided p s v
