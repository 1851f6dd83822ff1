-- What is proved of both halves of ends that are held, said of the halves of the box whose ends they are.
use Rattle.std.proofs.Common.{◌≡◌, ℕ, ◌<◌, Option, option_map, get_or, ℤ, pos, ◌+ℤ◌, ◌-ℤ◌, ◌≤ℤ◌, ◌<ℤ◌, sym, ap, subst, ◌∙◌}
use Rattle.std.specs.Int.RustNames.{int_div}
use Rattle.pool_model.specs.Network.{Net}
use Rattle.row_model.specs.Boxes.{Box, coords, left_of, right_of}
use Rattle.row_model.specs.Multipliers.{bound}
use Rattle.box_space.specs.Views.{shown_proof, shown_box_ends, AreEndsOf, AreHalves}
use Rattle.box_space.specs.declared.boxes.BoxEnds.{BoxEnds}
use Rattle.box_space.specs.declared.coordinates.Form.{Form}
use Rattle.linear_program.specs.declared.multipliers.Proof as held
use Rattle.box_space.proofs.Halving.{left-half, right-half}
use Rattle.leaf_cuts.specs.Given.{IsGiven}
use Rattle.leaf_cuts.specs.declared.halving.Halving.{Halving}
use Rattle.leaf_cuts.specs.Halvings.{middle_at, IsHalvingOf}
use Rattle.leaf_cuts.proofs.Middles.{middle-above, middle-below}

-- the middle rests on the ends at the coordinate alone
middle-same : (n : Net) (b : Box) (e : BoxEnds) (c : ℕ) → AreEndsOf n b e → c < coords n → middle_at (shown_box_ends e) c ≡ middle_at b c
middle-same n b e c is lt =
    ap (λ (z : ℤ). z +ℤ int_div ((shown_box_ends e).high c -ℤ (shown_box_ends e).low c) (pos 2)) (is.agree.low c lt)
    ∙ ap (λ (z : ℤ). b.low c +ℤ int_div ((shown_box_ends e).high c -ℤ z) (pos 2)) (is.agree.low c lt)
    ∙ ap (λ (z : ℤ). b.low c +ℤ int_div (z -ℤ b.low c) (pos 2)) (is.agree.high c lt)

-- a cut is a halving of a box where what is proved of both halves is what it holds
halving-of : (n : Net) (form : Form) (b : Box) (least : ℤ) (h : Halving) (coord : ℕ) (left right : Option held.Proof)
    → h.coord ≡ coord → h.left ≡ left → h.right ≡ right
    → IsGiven n form (left_of b coord (middle_at b coord)) (bound least) (option_map shown_proof left)
    → IsGiven n form (right_of b coord (middle_at b coord)) (bound least) (option_map shown_proof right)
    → IsHalvingOf n form b least h
halving-of n form b least h coord left right at is_left is_right on_left on_right = record {
  left = subst (λ (c : ℕ). IsGiven n form (left_of b c (middle_at b c)) (bound least) (option_map shown_proof h.left)) (sym at)
      (subst (λ (o : Option held.Proof). IsGiven n form (left_of b coord (middle_at b coord)) (bound least) (option_map shown_proof o)) (sym is_left) on_left);
  right = subst (λ (c : ℕ). IsGiven n form (right_of b c (middle_at b c)) (bound least) (option_map shown_proof h.right)) (sym at)
      (subst (λ (o : Option held.Proof). IsGiven n form (right_of b coord (middle_at b coord)) (bound least) (option_map shown_proof o)) (sym is_right) on_right);
}

module _ (n : Net) (form : Form) (b : Box) (e left right : BoxEnds) (coord : ℕ) (cut least : ℤ) (is : AreEndsOf n b e) (known : coord < coords n)
    (wide : (get_or e.low.items coord (pos 0) +ℤ pos 2) ≤ℤ get_or e.high.items coord (pos 0)) (middle : cut ≡ middle_at (shown_box_ends e) coord) (halves : AreHalves e left right coord cut) where
  middle_is : cut ≡ middle_at b coord
  middle_is = middle ∙ middle-same n b e coord is known

  wide_is : (b.low coord +ℤ pos 2) ≤ℤ b.high coord
  wide_is = subst (λ (z : ℤ). (b.low coord +ℤ pos 2) ≤ℤ z) (is.agree.high coord known) (subst (λ (z : ℤ). (z +ℤ pos 2) ≤ℤ get_or e.high.items coord (pos 0)) (is.agree.low coord known) wide)

  above : b.low coord <ℤ cut
  above = subst (λ (z : ℤ). b.low coord <ℤ z) (sym middle_is) (middle-above b coord wide_is)

  below : cut <ℤ b.high coord
  below = subst (λ (z : ℤ). z <ℤ b.high coord) (sym middle_is) (middle-below b coord wide_is)

  pub left-given : (o : Option held.Proof) → ((x : Box) → AreEndsOf n x left → IsGiven n form x (bound least) (option_map shown_proof o))
      → IsGiven n form (left_of b coord (middle_at b coord)) (bound least) (option_map shown_proof o)
  left-given o h = subst (λ (z : ℤ). IsGiven n form (left_of b coord z) (bound least) (option_map shown_proof o)) middle_is
      (h (left_of b coord cut) (left-half n b e left coord cut is halves.left_low halves.left_high known above below))

  pub right-given : (o : Option held.Proof) → ((x : Box) → AreEndsOf n x right → IsGiven n form x (bound least) (option_map shown_proof o))
      → IsGiven n form (right_of b coord (middle_at b coord)) (bound least) (option_map shown_proof o)
  right-given o h = subst (λ (z : ℤ). IsGiven n form (right_of b coord z) (bound least) (option_map shown_proof o)) middle_is
      (h (right_of b coord cut) (right-half n b e right coord cut is halves.right_low halves.right_high known above below))

  pub halving-given : (h : Halving) (o p : Option held.Proof) → h.coord ≡ coord → h.left ≡ o → h.right ≡ p
      → ((x : Box) → AreEndsOf n x left → IsGiven n form x (bound least) (option_map shown_proof o))
      → ((x : Box) → AreEndsOf n x right → IsGiven n form x (bound least) (option_map shown_proof p))
      → IsHalvingOf n form b least h
  halving-given h o p at is_left is_right on_left on_right = halving-of n form b least h coord o p at is_left is_right (left-given o on_left) (right-given p on_right)
