-- What was told of a half whose ends are held.
use Rattle.std.proofs.Common.{◌≡◌, ℕ, get_or, Option, None, Some, option_map, ℤ, pos, ap, subst, sym, ◌∙◌}
use Rattle.pool_model.specs.Network.{Net}
use Rattle.row_model.specs.Boxes.{Box, Agree}
use Rattle.row_model.specs.Multipliers as multipliers
use Rattle.row_model.specs.Multipliers.{Proof, shown_by}
use Rattle.row_model.specs.Trees.{raised}
use Rattle.box_space.specs.Views.{shown_box, shown_box_ends, AreEndsOf}
use Rattle.box_space.specs.declared.boxes.BoxEnds.{BoxEnds}
use Rattle.box_space.specs.declared.boxes.BoxView.{BoxView}
use Rattle.box_space.specs.declared.coordinates.Form.{Form}
use Rattle.leaf_marks.specs.Marks.{IsMark}
use Rattle.leaf_marks.specs.declared.mark.Mark.{Mark}
use Rattle.tight_leaf.specs.Ends.{ComesOf}
use Rattle.raised_splits.specs.Raising.{half_bound, proof_by, IsMarked, IsRaisedHalf}

module _ (n : Net) (v : BoxView) (ends : BoxEnds) (low : v.low.now ≡ ends.low.items) (high : v.high.now ≡ ends.high.items) (b : Box) (are : AreEndsOf n b ends) where
  agreed : Agree n (shown_box v) b
  agreed =
      let same : shown_box_ends ends ≡ shown_box v = λ i. record { low = λ c. get_or (sym low i) c (pos 0); high = λ c. get_or (sym high i) c (pos 0) } in
      subst (λ (z : Box). Agree n z b) same are.agree

  -- a half whose mark was found has what it leaves
  pub raised-held : (form : Form) (above : Option ℤ) (pivots : ℕ) (old new : Option Proof) (least : ℤ) (mark : Mark) → half_bound n b above old ≡ Some least
      → IsMark n form (shown_box v) least pivots mark → ComesOf n form (shown_box v) least None pivots mark → new ≡ proof_by mark old → IsRaisedHalf n form b pivots above old new
  raised-held form above pivots old new least mark e is comes same =
      subst (λ (k : Option ℤ). IsMarked n form b pivots k old new) (sym e) (mark, record { seen = shown_box v; agree = agreed; says = is; comes = comes }, same)

-- the bound of a half, by what was told of its proof
pub bound-told : (n : Net) (b : Box) (above known : Option ℤ) (told : Option multipliers.Shown) (proof : Option Proof) → known ≡ raised above told → told ≡ option_map (shown_by n b) proof
    → half_bound n b above proof ≡ known
bound-told n b above known told proof e f = sym (e ∙ ap (λ (s : Option multipliers.Shown). raised above s) f)
