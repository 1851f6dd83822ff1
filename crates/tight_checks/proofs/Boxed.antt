-- A mark in the box whose ends are looked at.
use Rattle.std.proofs.Common.{◌≡◌, ℕ, get_or, Bool, true, false, ◌↔◌, IsTrue, Option, Some, ℤ, pos, refl, sym, ap, subst, ◌∙◌}
use Rattle.pool_model.specs.Network.{Net, IsLimited}
use Rattle.row_model.specs.Boxes.{Box, Agree}
use Rattle.row_model.specs.Multipliers.{Shown}
use Rattle.row_model.specs.Trees.{raised}
use Rattle.row_model.proofs.Agreement.{agree-back, shown-same}
use Rattle.box_space.specs.Views.{shown_box, shown_box_ends, shown_proof, AreEndsOf}
use Rattle.box_space.specs.declared.boxes.BoxEnds.{BoxEnds}
use Rattle.box_space.specs.declared.boxes.BoxView.{BoxView}
use Rattle.box_space.specs.declared.coordinates.Form.{Form}
use Rattle.leaf_marks.specs.Marks.{IsMark}
use Rattle.leaf_marks.specs.declared.mark.Mark.{Mark}
use Rattle.leaf_marks.specs.declared.mark.Mark.TheVariants.{Tight, Raised, Empty, Loose}
use Rattle.tight_checks.specs.Holding.{bound_with}
use Rattle.tight_checks.proofs.MarksSame.{mark-same}

-- what a mark leaves rests on the ends of the box alone
pub left-same : (n : Net) (b c : Box) → IsLimited n → Agree n b c → (low : Option ℤ) (mark : Mark) → bound_with n b low mark ≡ bound_with n c low mark
left-same n b c limited agree low (Tight q) = refl
left-same n b c limited agree low (Raised proof q) = ap (λ (s : Shown). raised low (Some s)) (shown-same n b c (shown_proof proof) limited agree)
left-same n b c limited agree low (Empty proof) = ap (λ (s : Shown). raised low (Some s)) (shown-same n b c (shown_proof proof) limited agree)
left-same n b c limited agree low (Loose reason) = refl

false_not : (t : Bool) → t ≡ false → IsTrue t → ⊥
false_not true e h = cc
false_not false e h = cc

module _ (n : Net) (v : BoxView) (ends : BoxEnds) (low : v.low.now ≡ ends.low.items) (high : v.high.now ≡ ends.high.items) (b : Box) (are : AreEndsOf n b ends) where
  agreed : Agree n (shown_box v) b
  agreed =
      let same : shown_box_ends ends ≡ shown_box v = λ i. record { low = λ c. get_or (sym low i) c (pos 0); high = λ c. get_or (sym high i) c (pos 0) } in
      subst (λ (z : Box). Agree n z b) same are.agree

  module _ (limited : IsLimited n) (form : Form) (bound : ℤ) (pivots : ℕ) (mark : Mark) where
    pub mark-in : IsMark n form (shown_box v) bound pivots mark → IsMark n form b bound pivots mark
    mark-in h = mark-same n (shown_box v) b limited agreed form bound pivots mark h

    pub mark-out : (t : Bool) → (IsTrue t ↔ IsMark n form (shown_box v) bound pivots mark) → t ≡ false → ¬ IsMark n form b bound pivots mark
    mark-out t h e m = false_not t e (h.1 (mark-same n b (shown_box v) limited (agree-back n (shown_box v) b agreed) form bound pivots mark m))

    pub left-in : (left : Option ℤ) → left ≡ bound_with n (shown_box v) (Some bound) mark → left ≡ bound_with n b (Some bound) mark
    left-in left e = e ∙ left-same n (shown_box v) b limited agreed (Some bound) mark
