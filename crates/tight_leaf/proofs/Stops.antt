-- What stops a run, for one reason or another.
use Rattle.std.proofs.Common.{ℕ}
use Rattle.exact_num.specs.Fraction.{Fraction}
use Rattle.exact_num.specs.Views.{shown_frac}
use Rattle.tight_leaf.specs.Stops.{IsCoarseReason, StopsBy}
use Rattle.leaf_marks.specs.declared.mark.Reason.{Reason}
use Rattle.leaf_marks.specs.declared.mark.Reason.TheVariants.{Coarse, HeavyPoint, HeavyProof, Pivots, Wide}
use Rattle.tight_leaf.specs.declared.stop.Stop.{Stop}
use Rattle.tight_leaf.specs.declared.stop.Stop.TheVariants.{Loose, Memory}

pub stops-weaker : (P Q : Reason → Type 0) → ((r : Reason) → P r → Q r) → (s : Stop) → StopsBy P s → StopsBy Q s
stops-weaker P Q each (Loose r) h = each r h
stops-weaker P Q each Memory h = tt

pub coarse-weaker : (P Q : ℕ → Fraction → Type 0) → ((n : ℕ) (x : Fraction) → P n x → Q n x) → (r : Reason) → IsCoarseReason P r → IsCoarseReason Q r
coarse-weaker P Q each (Coarse times f) h = (h.0, each times (shown_frac f) h.1)
coarse-weaker P Q each (Pivots n) h = h
coarse-weaker P Q each (Wide w) h = h
coarse-weaker P Q each (HeavyProof p) h = h
coarse-weaker P Q each (HeavyPoint q) h = h

pub stops-coarse : (P Q : ℕ → Fraction → Type 0) → ((n : ℕ) (x : Fraction) → P n x → Q n x) → (s : Stop) → StopsBy (IsCoarseReason P) s → StopsBy (IsCoarseReason Q) s
stops-coarse P Q each s h = stops-weaker (IsCoarseReason P) (IsCoarseReason Q) (coarse-weaker P Q each) s h
