-- Where the mark of a leaf comes from.
use Rattle.std.proofs.Common.{◌≡◌, Bool, true, false, IsTrue, ℕ, ℤ, Some, None}
use Rattle.pool_model.specs.Network.{Net}
use Rattle.pool_model.specs.Plan.{Written}
use Rattle.row_model.specs.Boxes.{Box}
use Rattle.box_space.specs.declared.coordinates.Form.{Form}
use Rattle.relaxation_points.specs.declared.point.RelaxPoint.{RelaxPoint}
use Rattle.tight_leaf.specs.Ends.{ComesOf, IsBoxMark, IsBoxStop, IsPlanAnswer, IsStop}
use Rattle.leaf_marks.specs.Marks.{IsReason}
use Rattle.leaf_marks.specs.declared.mark.Mark.{Mark}
use Rattle.leaf_marks.specs.declared.mark.Mark.TheVariants.{Loose, Tight}
use Rattle.tight_leaf.specs.declared.stop.Stop.{Stop}
use Rattle.tight_leaf.proofs.Stops.{stops-weaker}

-- from a plan that decides
pub comes-decided : (n : Net) (form : Form) (b : Box) (low : ℤ) (w : Written) (pivots : ℕ) (q : RelaxPoint) → IsPlanAnswer n form b low w (Some q) → ComesOf n form b low (Some w) pivots (Tight q)
comes-decided n form b low w pivots q a = record { decided = λ d. a.1; else_run = λ no. absurd (no a.0) }

-- else from the run
pub comes-run : (n : Net) (form : Form) (b : Box) (low : ℤ) (w : Written) (pivots : ℕ) (mark : Mark) → IsPlanAnswer n form b low w None → IsBoxMark n form b pivots mark
    → ComesOf n form b low (Some w) pivots mark
comes-run n form b low w pivots mark none box = record { decided = λ d. absurd (none d); else_run = λ no. box }

pub stop-run : (n : Net) (form : Form) (b : Box) (low : ℤ) (w : Written) (pivots : ℕ) (s : Stop) → IsPlanAnswer n form b low w None → IsBoxStop n form b pivots s → IsStop n form b low (Some w) pivots s
stop-run n form b low w pivots s none h =
    stops-weaker (λ reason. IsReason n form b pivots reason × IsBoxMark n form b pivots (Loose reason)) (λ reason. IsReason n form b pivots reason × ComesOf n form b low (Some w) pivots (Loose reason))
    (λ reason k. (k.0, comes-run n form b low w pivots (Loose reason) none k.1)) s h

-- ---- tests

pub not_both : (b : Bool) → b ≡ false → IsTrue b → ⊥
not_both true e h = cc
not_both false e h = cc
