-- The column that enters, as far as the entries of the row that leaves have been looked at.
use Rattle.std.specs.Prelude.{◌≡◌, ◌≢◌, ℕ, ◌<◌, Option, Some, None, pos}
use Rattle.exact_num.specs.Fraction.{Fraction, IsSame}
use Rattle.exact_num.specs.Views.{shown_frac}
use Rattle.exact_run.specs.Programs.{Program}
use Rattle.exact_run.specs.States.{State}
use Rattle.exact_run.specs.Steps.{IsBelow, IsAtMost, IsCandidate, ratio}
use Rattle.exact_pivots.specs.Sizes.{size_of}
use Rattle.exact_pivots.specs.declared.entry.Entry.{Entry}
use Rattle.exact_pivots.specs.declared.pivots.Leaving.{Leaving}
use Rattle.exact_pivots.specs.declared.pivots.Weighed.{Weighed}

-- the entry is a factor of the place's row, and not 0
abbrev pub IsEntry : State → ℕ → Entry → Type 0
IsEntry s r e = (s.factor r e.column ≡ shown_frac e.value) × ((shown_frac e.value).num ≢ pos 0)

-- of the columns below a number this one has the property and the least ratio, and is the first of those
pub record IsFirstLeast (P : ℕ → Type 0) (ratio : ℕ → Fraction) (n k : ℕ) : Type 0 where
  pub below : k < n
  pub has : P k
  pub least : (j : ℕ) → j < n → P j → IsAtMost (ratio k) (ratio j)
  pub first : (j : ℕ) → j < k → P j → IsBelow (ratio k) (ratio j)

-- what is known of the candidates below a column
abbrev pub IsWeighed : Program → State → Leaving → ℕ → Option Weighed → Type 0
IsWeighed p s l n None = (j : ℕ) → j < n → IsCandidate p s l.place l.side j → ⊥
IsWeighed p s l n (Some w) = IsFirstLeast (IsCandidate p s l.place l.side) (ratio s l.place) n w.column × IsSame (size_of (shown_frac w.ratio)) (ratio s l.place w.column)
