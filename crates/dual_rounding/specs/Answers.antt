-- What rounding answers: the first of the tried proofs that show the most of a box, where it is more than a fallback.
use Rattle.std.specs.Prelude.{◌≡◌, ◌∷◌, ◌++◌, List, All, Option, None, Some, ◌≤ℤ◌, ◌<ℤ◌}
use Rattle.pool_model.specs.Network.{Net}
use Rattle.row_model.specs.Boxes.{Box}
use Rattle.row_model.specs.Multipliers.{Proof, IsInOrder, Shown, bound, no_plan, shown_by}

-- a bound shows less than one that is greater, and that there is no plan shows more than any bound
abbrev pub IsBelow : Shown → Shown → Type 0
IsBelow (bound a) (bound b) = a <ℤ b
IsBelow (bound a) no_plan = Unit {0}
IsBelow no_plan b = ⊥

-- the same, or as much
abbrev pub IsAtMost : Shown → Shown → Type 0
IsAtMost (bound a) (bound b) = a ≤ℤ b
IsAtMost a no_plan = Unit {0}
IsAtMost no_plan (bound b) = ⊥

-- a proof shows less of a box than this, or at most this, where it is in order there
abbrev pub ShowsBelow : Net → Box → Shown → Proof → Type 0
ShowsBelow n b most p = IsInOrder n b p → IsBelow (shown_by n b p) most

abbrev pub ShowsAtMost : Net → Box → Shown → Proof → Type 0
ShowsAtMost n b most p = IsInOrder n b p → IsAtMost (shown_by n b p) most

-- The first of the greatest: a proof in order, above a fallback. Those tried before it show less, and those after it no more.
pub record IsFirstGreatest (n : Net) (b : Box) (tried : List Proof) (fallback : Shown) (p : Proof) : Type 0 where
  pub before : List Proof
  pub after : List Proof
  pub split : tried ≡ before ++ p ∷ after
  pub in_order : IsInOrder n b p
  pub above : IsBelow fallback (shown_by n b p)
  pub less : All (ShowsBelow n b (shown_by n b p)) before
  pub no_more : All (ShowsAtMost n b (shown_by n b p)) after

-- the first of the greatest; none exactly where no tried proof is above the fallback
abbrev pub IsRounded : Net → Box → List Proof → Shown → Option Proof → Type 0
IsRounded n b tried fallback None = All (ShowsAtMost n b fallback) tried
IsRounded n b tried fallback (Some p) = IsFirstGreatest n b tried fallback p

-- what is known of a box then: what the proof shows, or else the fallback
abbrev pub known_by : Net → Box → Shown → Option Proof → Shown
known_by n b fallback None = fallback
known_by n b fallback (Some p) = shown_by n b p
