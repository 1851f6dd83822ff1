-- Which mark a leaf gets: by a plan that decides, else by the run of its box.
use Rattle.std.specs.Prelude.{ℕ, Option, Some, None, ℤ}
use Rattle.exact_run.specs.Programs.{Program}
use Rattle.exact_run.specs.States.{State}
use Rattle.exact_run.specs.declared.ends.End.{End}
use Rattle.pool_model.specs.Network.{Net}
use Rattle.pool_model.specs.Plan.{Written, IsWritten, Obeys, plan_of}
use Rattle.row_model.specs.Boxes.{Box}
use Rattle.box_space.specs.Views.{shown_proof}
use Rattle.box_space.specs.declared.coordinates.Form.{Form}
use Rattle.relaxation_points.specs.Points.{IsWitness}
use Rattle.relaxation_points.specs.Views.{shown_point}
use Rattle.relaxation_points.specs.declared.point.RelaxPoint.{RelaxPoint}
use Rattle.tight_leaf.specs.Causes.{EndsSolved, EndsEmpty, Gives}
use Rattle.leaf_marks.specs.Marks.{IsReason}
use Rattle.tight_leaf.specs.PlanPoints.{Decides, IsPlanPoint}
use Rattle.tight_leaf.specs.Points.{IsPointOf}
use Rattle.tight_leaf.specs.Programs.{IsBoxProgram}
use Rattle.tight_leaf.specs.Proofs.{IsMultiplier, IsMultiplierPast, IsScaledProof, IsBareProof}
use Rattle.tight_leaf.specs.Stops.{StopsBy}
use Rattle.leaf_marks.specs.Views.{IsHeld}
use Rattle.tight_leaf.specs.declared.stop.Stop.{Stop}
use Rattle.leaf_marks.specs.declared.mark.Mark.{Mark}
use Rattle.leaf_marks.specs.declared.mark.Mark.TheVariants.{Tight, Raised, Empty, Loose}

-- the mark is the point of a run that ends with one, its proof with its point, or its proof that there is none; or it is loose for a reason
-- that the run gives
abbrev pub IsRunMark : Net → Form → Program → ℕ → Mark → Type 0
IsRunMark n form p pivots (Tight q) = (s : State) × EndsSolved p pivots s × IsPointOf p s (shown_point q)
IsRunMark n form p pivots (Raised proof q) =
    (s : State) × EndsSolved p pivots s × IsPointOf p s (shown_point q) × IsScaledProof n form (IsMultiplier p s) (shown_proof proof)
IsRunMark n form p pivots (Empty proof) =
    (s : State) × (place : ℕ) × (side : End) × EndsEmpty p pivots s place side × IsBareProof n form (IsMultiplierPast p s place side) (shown_proof proof)
IsRunMark n form p pivots (Loose reason) = Gives n form p pivots reason

-- the same of the program of a box
abbrev pub IsBoxMark : Net → Form → Box → ℕ → Mark → Type 0
IsBoxMark n form b pivots mark = (p : Program) × IsBoxProgram n form b p × IsRunMark n form p pivots mark

-- the plan's point, as a mark
abbrev pub IsPlanMark : Net → Written → Mark → Type 0
IsPlanMark n w (Tight q) = IsPlanPoint n (plan_of n w) (shown_point q)
IsPlanMark n w _ = ⊥

-- The mark is the plan's point where the plan decides, and else comes from the run of the box.
pub record IsMarkBy (n : Net) (form : Form) (b : Box) (low : ℤ) (w : Written) (pivots : ℕ) (mark : Mark) : Type 0 where
  pub decided : Decides n b low (plan_of n w) → IsPlanMark n w mark
  pub else_run : ¬ Decides n b low (plan_of n w) → IsBoxMark n form b pivots mark

abbrev pub ComesOf : Net → Form → Box → ℤ → Option Written → ℕ → Mark → Type 0
ComesOf n form b low None pivots mark = IsBoxMark n form b pivots mark
ComesOf n form b low (Some w) pivots mark = IsMarkBy n form b low w pivots mark

-- a plan, where there is one, is well written and obeys
abbrev pub IsPlanGiven : Net → Option Written → Type 0
IsPlanGiven n None = Unit {0}
IsPlanGiven n (Some w) = IsWritten n w × Obeys n (plan_of n w)

-- ---- on the way

-- a run that stops early: for a reason that it gives, or want of memory
abbrev pub IsRunStop : Net → Form → Box → Program → ℕ → Stop → Type 0
IsRunStop n form b p pivots = StopsBy (λ reason. IsReason n form b pivots reason × Gives n form p pivots reason)

-- the same of the run of a box
abbrev pub IsBoxStop : Net → Form → Box → ℕ → Stop → Type 0
IsBoxStop n form b pivots = StopsBy (λ reason. IsReason n form b pivots reason × IsBoxMark n form b pivots (Loose reason))

-- a plan's point, which is a witness, where the plan decides; nothing, where it doesn't
abbrev pub IsPlanAnswer : Net → Form → Box → ℤ → Written → Option RelaxPoint → Type 0
IsPlanAnswer n form b low w None = ¬ Decides n b low (plan_of n w)
IsPlanAnswer n form b low w (Some q) = Decides n b low (plan_of n w) × IsPlanPoint n (plan_of n w) (shown_point q) × IsHeld n (IsWitness n form b low) q

-- the same of what stops the way to a leaf's mark
abbrev pub IsStop : Net → Form → Box → ℤ → Option Written → ℕ → Stop → Type 0
IsStop n form b low w pivots = StopsBy (λ reason. IsReason n form b pivots reason × ComesOf n form b low w pivots (Loose reason))
