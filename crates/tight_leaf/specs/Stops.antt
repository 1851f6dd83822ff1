-- Why the way to a mark ends early.
use Rattle.std.specs.Prelude.{ℕ}
use Rattle.exact_num.specs.Fraction.{Fraction}
use Rattle.exact_num.specs.Views.{shown_frac}
use Rattle.common_denominators.specs.Multiples.{IsCoarse}
use Rattle.leaf_marks.specs.declared.mark.Reason.{Reason}
use Rattle.leaf_marks.specs.declared.mark.Reason.TheVariants.{Coarse}
use Rattle.tight_leaf.specs.declared.stop.Stop.{Stop}
use Rattle.tight_leaf.specs.declared.stop.Stop.TheVariants.{Loose, Memory}

-- the reason is a number and a fraction that are too coarse, and of which this is so
abbrev pub IsCoarseReason : (ℕ → Fraction → Type 0) → Reason → Type 0
IsCoarseReason so (Coarse times f) = IsCoarse times (shown_frac f) × so times (shown_frac f)
IsCoarseReason so _ = ⊥

-- what stops it is a reason of this kind, or want of memory
abbrev pub StopsBy : (Reason → Type 0) → Stop → Type 0
StopsBy so (Loose reason) = so reason
StopsBy so Memory = Unit {0}
