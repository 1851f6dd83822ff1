-- What the answer of `value` says, as data of the model.
use Rattle.std.specs.Prelude.{ℕ, ℤ, pos, ◌==◌, if◌then◌else◌}
use Rattle.std.specs.Int.{int_div_euclid}
use Rattle.row_model.specs.Multipliers as multipliers
use Rattle.row_book.specs.declared.shown.Shown.{Shown}
use Rattle.row_book.specs.declared.shown.Shown.TheVariants.{Bound, NoPlan}

abbrev pub shown_value : Shown → multipliers.Shown
shown_value (Bound z) = multipliers.bound z
shown_value NoPlan = multipliers.no_plan

-- what a number over a scale shows
abbrev pub shown_at : ℕ → ℤ → multipliers.Shown
shown_at scale number = if scale == 0 then multipliers.no_plan else multipliers.bound (int_div_euclid number (pos scale))
