-- A leaf that is marked in the box whose ends are looked at.
use Rattle.std.proofs.Common.{◌≡◌, ℕ, List, [], ◌∷◌, ◌++◌, get_or, Option, Some, ℤ, pos, refl, sym, ap, subst, ◌∙◌}
use Rattle.pool_model.specs.Network.{Net, IsLimited}
use Rattle.pool_model.specs.Plan.{Written}
use Rattle.pool_model.specs.Starting.{lesser}
use Rattle.row_model.specs.Boxes.{Box, Agree}
use Rattle.row_model.specs.Multipliers.{Shown}
use Rattle.row_model.specs.Trees.{raised}
use Rattle.row_model.proofs.Agreement.{shown-same}
use Rattle.box_space.specs.Views.{shown_box, shown_box_ends, shown_proof, AreEndsOf}
use Rattle.box_space.specs.declared.boxes.BoxEnds.{BoxEnds}
use Rattle.box_space.specs.declared.boxes.BoxView.{BoxView}
use Rattle.leaf_order.specs.declared.leaf.OpenLeaf.{OpenLeaf}
use Rattle.leaf_marks.specs.Marks.{IsMark}
use Rattle.leaf_marks.specs.declared.mark.Mark.{Mark}
use Rattle.leaf_marks.specs.declared.mark.Mark.TheVariants.{Tight, Raised, Empty, Loose}
use Rattle.tight_leaf.specs.Ends.{ComesOf}
use Rattle.tight_texts.specs.declared.marks.LeafMark.{LeafMark}
use Rattle.tight_texts.specs.declared.marks.TightText.{TightText}
use Rattle.tight_checks.specs.Holding.{bound_with}
use Rattle.tight_checks.proofs.MarksSame.{mark-same}
use Rattle.tight_commands.specs.Marked.{AddsMark}
use Rattle.tight_commands.proofs.ComesSame.{comes-same}

-- what a mark leaves rests on the ends of the box alone
left-same : (n : Net) (b c : Box) → IsLimited n → Agree n b c → (low : Option ℤ) (mark : Mark) → bound_with n b low mark ≡ bound_with n c low mark
left-same n b c limited agree low (Tight q) = refl
left-same n b c limited agree low (Raised proof q) = ap (λ (s : Shown). raised low (Some s)) (shown-same n b c (shown_proof proof) limited agree)
left-same n b c limited agree low (Empty proof) = ap (λ (s : Shown). raised low (Some s)) (shown-same n b c (shown_proof proof) limited agree)
left-same n b c limited agree low (Loose reason) = refl

module _ (n : Net) (v : BoxView) (ends : BoxEnds) (low : v.low.now ≡ ends.low.items) (high : v.high.now ≡ ends.high.items) (b : Box) (are : AreEndsOf n b ends) (limited : IsLimited n) where
  agreed : Agree n (shown_box v) b
  agreed =
      let same : shown_box_ends ends ≡ shown_box v = λ i. record { low = λ c. get_or (sym low i) c (pos 0); high = λ c. get_or (sym high i) c (pos 0) } in
      subst (λ (z : Box). Agree n z b) same are.agree

  -- the mark that was found stands behind the others, and the bound is lowered to what it leaves
  pub adds : (plan : Option Written) (leaf : OpenLeaf) (before after : TightText) (mark : Mark) (left : Option ℤ) → after.form ≡ before.form → after.pivots ≡ before.pivots
      → after.marks.items ≡ before.marks.items ++ (record { node = leaf.node; mark = mark } ∷ [])
      → IsMark n before.form (shown_box v) leaf.bound before.pivots mark → ComesOf n before.form (shown_box v) leaf.bound plan before.pivots mark
      → left ≡ bound_with n (shown_box v) (Some leaf.bound) mark → after.bound ≡ lesser before.bound left → AddsMark n b plan leaf before after
  adds plan leaf before after mark left form_is pivots_is marks_are holds comes left_is bound_is = record {
    form_is = form_is;
    pivots_is = pivots_is;
    mark = mark;
    marks_are = marks_are;
    holds = mark-same n (shown_box v) b limited agreed before.form leaf.bound before.pivots mark holds;
    comes = comes-same n (shown_box v) b limited agreed before.form leaf.bound plan before.pivots mark comes;
    bound_is = bound_is ∙ ap (λ (z : Option ℤ). lesser before.bound z) (left_is ∙ left-same n (shown_box v) b limited agreed (Some leaf.bound) mark);
  }
