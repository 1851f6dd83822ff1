-- What each mark says of a box, whatever run it comes from.
use Rattle.std.specs.Prelude.{◌≡◌, ℕ, ℤ, ◌<ℤ◌}
use Rattle.exact_num.specs.Views.{shown_frac}
use Rattle.exact_run.specs.Operations.{IsWide}
use Rattle.pool_model.specs.Network.{Net}
use Rattle.row_model.specs.Boxes.{Box}
use Rattle.row_model.specs.Multipliers.{Proof, IsInOrder, bound, no_plan, shown_by}
use Rattle.box_space.specs.Views.{shown_proof}
use Rattle.box_space.specs.declared.coordinates.Form.{Form}
use Rattle.row_book.specs.Faults.{IsFirstFault}
use Rattle.row_book.specs.declared.fault.ProofFault.TheVariants as faults
use Rattle.relaxation_points.specs.Points.{Point, IsLight, IsWitness, NamesRowsOf}
use Rattle.common_denominators.specs.Multiples.{IsCoarse}
use Rattle.leaf_marks.specs.Views.{IsHeld}
use Rattle.leaf_marks.specs.declared.mark.Mark.{Mark}
use Rattle.leaf_marks.specs.declared.mark.Mark.TheVariants.{Tight, Raised, Empty, Loose}
use Rattle.leaf_marks.specs.declared.mark.Reason.{Reason}
use Rattle.leaf_marks.specs.declared.mark.Reason.TheVariants.{Pivots, Wide, Coarse, HeavyProof, HeavyPoint}

-- the proof is on rows of the form, is in order, and shows a bound above this one that no multipliers on those rows raise, since the point
-- is a witness for it
pub record IsRaised (n : Net) (form : Form) (b : Box) (low : ℤ) (proof : Proof) (q : Point) : Type 0 where
  pub named : NamesRowsOf n form proof
  pub ordered : IsInOrder n b proof
  pub shown : ℤ
  pub shows : shown_by n b proof ≡ bound shown
  pub above : low <ℤ shown
  pub best : IsWitness n form b shown q

-- the proof is on rows of the form, is in order, and shows that the box holds no plan
pub record IsEmptied (n : Net) (form : Form) (b : Box) (proof : Proof) : Type 0 where
  pub named : NamesRowsOf n form proof
  pub ordered : IsInOrder n b proof
  pub shows : shown_by n b proof ≡ no_plan

-- what a reason says by itself
abbrev pub IsReason : Net → Form → Box → ℕ → Reason → Type 0
IsReason n form b pivots (Pivots count) = count ≡ pivots
IsReason n form b pivots (Wide w) = IsWide w.operation (shown_frac w.left) (shown_frac w.right)
IsReason n form b pivots (Coarse times f) = IsCoarse times (shown_frac f)
IsReason n form b pivots (HeavyProof proof) = IsFirstFault n b (shown_proof proof) faults.Wide
IsReason n form b pivots (HeavyPoint q) = IsHeld n (λ point. ¬ IsLight n form b point) q

-- what a mark says of a form's rows in a box for a bound, in picos, asked with so many pivots
abbrev pub IsMark : Net → Form → Box → ℤ → ℕ → Mark → Type 0
IsMark n form b low pivots (Tight q) = IsHeld n (IsWitness n form b low) q
IsMark n form b low pivots (Raised proof q) = IsHeld n (IsRaised n form b low (shown_proof proof)) q
IsMark n form b low pivots (Empty proof) = IsEmptied n form b (shown_proof proof)
IsMark n form b low pivots (Loose reason) = IsReason n form b pivots reason
