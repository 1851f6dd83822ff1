-- Lists of factors by column.
use Rattle.std.specs.Prelude.{◌≡◌, ◌≢◌, ℕ, ◌+◌, ◌<◌, ◌≤◌, List, [], ◌∷◌, if◌then◌else◌, ◌==◌, pos, Option, Some, None, min}
use Rattle.std.specs.Coded.{Unit-prop, le_prop}
use Rattle.exact_num.specs.Fraction.{Fraction}
use Rattle.exact_num.specs.Views.{shown_frac}
use Rattle.exact_run.specs.Operations.{whole}
use Rattle.exact_pivots.specs.declared.entry.Entry.{Entry}

-- the factor on a column: 0 where the list has none
abbrev pub factor_at : List Entry → ℕ → Fraction
factor_at [] j = whole (pos 0)
factor_at (e ∷ es) j = if e.column == j then shown_frac e.value else factor_at es j

-- the columns rise, the first at least this one, and no factor is 0
abbrev pub AreRising : ℕ → List Entry → Type 0
AreRising least [] = Unit {0}
AreRising least (e ∷ es) = (least ≤ e.column) × ((shown_frac e.value).num ≢ pos 0) × AreRising (e.column + 1) es

pub AreRising-prop : (least : ℕ) (xs : List Entry) → IsProp (AreRising least xs)
AreRising-prop least [] = Unit-prop
AreRising-prop least (e ∷ es) = hlevel (le_prop, AreRising-prop (e.column + 1) es)

-- each column is below this one
abbrev pub AreBelow : ℕ → List Entry → Type 0
AreBelow limit [] = Unit {0}
AreBelow limit (e ∷ es) = (e.column < limit) × AreBelow limit es

-- the first column of the list
abbrev pub HasFirst : ℕ → List Entry → Type 0
HasFirst j [] = ⊥
HasFirst j (e ∷ es) = e.column ≡ j

-- the lesser of the first columns of two lists
abbrev pub next_of : List Entry → List Entry → Option ℕ
next_of [] [] = None
next_of [] (b ∷ bs) = Some b.column
next_of (a ∷ as_) [] = Some a.column
next_of (a ∷ as_) (b ∷ bs) = Some (min a.column b.column)
