-- Why a run gives no mark but a loose one.
use Rattle.std.proofs.Common.{ℕ}
use Rattle.exact_num.specs.Fraction.{Fraction}
use Rattle.exact_num.specs.Views.{shown_frac}
use Rattle.exact_run.specs.Programs.{Program}
use Rattle.pool_model.specs.Network.{Net}
use Rattle.row_model.specs.Boxes.{Box}
use Rattle.box_space.specs.declared.coordinates.Form.{Form}
use Rattle.tight_leaf.specs.Causes.{Gives, HasCoarse}
use Rattle.tight_leaf.specs.Ends.{IsRunStop}
use Rattle.leaf_marks.specs.Marks.{IsReason}
use Rattle.tight_leaf.specs.Stops.{IsCoarseReason, StopsBy}
use Rattle.leaf_marks.specs.declared.mark.Reason.{Reason}
use Rattle.leaf_marks.specs.declared.mark.Reason.TheVariants.{Coarse, HeavyPoint, HeavyProof, Pivots, Wide}
use Rattle.tight_leaf.specs.declared.stop.Stop.{Stop}
use Rattle.tight_leaf.proofs.Stops.{stops-weaker}

-- a fraction that is too coarse, of a run's values or multipliers
coarse-gives : (n : Net) (form : Form) (b : Box) (p : Program) (pivots : ℕ) (so : ℕ → Fraction → Type 0) → ((times : ℕ) (x : Fraction) → so times x → HasCoarse p pivots times x)
    → (r : Reason) → IsCoarseReason so r → IsReason n form b pivots r × Gives n form p pivots r
coarse-gives n form b p pivots so each (Coarse times f) h = (h.0, each times (shown_frac f) h.1)
coarse-gives n form b p pivots so each (Pivots count) h = absurd h
coarse-gives n form b p pivots so each (Wide w) h = absurd h
coarse-gives n form b p pivots so each (HeavyProof proof) h = absurd h
coarse-gives n form b p pivots so each (HeavyPoint q) h = absurd h

pub coarse-stop : (n : Net) (form : Form) (b : Box) (p : Program) (pivots : ℕ) (so : ℕ → Fraction → Type 0) → ((times : ℕ) (x : Fraction) → so times x → HasCoarse p pivots times x)
    → (s : Stop) → StopsBy (IsCoarseReason so) s → IsRunStop n form b p pivots s
coarse-stop n form b p pivots so each s h =
    stops-weaker (IsCoarseReason so) (λ reason. IsReason n form b pivots reason × Gives n form p pivots reason) (coarse-gives n form b p pivots so each) s h
