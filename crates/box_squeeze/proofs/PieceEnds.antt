-- Pieces of ends that are held, and those of the box whose ends they are.
use Rattle.std.proofs.Common.{◌≡◌, ℕ, ◌<◌, ℤ, pos, ◌+ℤ◌, ◌-ℤ◌, ◌≤ℤ◌, ◌<ℤ◌, arith, refl, sym, ap, subst, ◌∙◌}
use Rattle.std.specs.Int.RustNames.{int_div}
use Rattle.std.proofs.lemmas.Int.{ints}
use lib.IntN.{negsuc}
use Rattle.pool_model.specs.Network.{Net}
use Rattle.row_model.specs.Boxes.{Box, coords, left_of, right_of}
use Rattle.box_space.specs.Views.{shown_box_ends, AreEnds, AreEndsOf, AreHalves}
use Rattle.box_space.specs.declared.boxes.BoxEnds.{BoxEnds}
use Rattle.box_space.specs.declared.coordinates.Form.{Form}
use Rattle.box_space.proofs.Halving.{left-half, right-half}
use Rattle.box_squeeze.specs.Pieces.{quarter, cut_at, part_of, other, piece_of, kept_of, HasPieces}
use Rattle.box_squeeze.specs.declared.piece.Side.{Side}
use Rattle.box_squeeze.specs.declared.piece.Side.TheVariants.{Left, Right}

-- ---- a cut lies strictly inside

quarter-inside : (w : ℤ) → pos 4 ≤ℤ w → (pos 0 <ℤ int_div w (pos 4)) × (int_div w (pos 4) <ℤ w)
quarter-inside (pos a) h = (omega (arith, ints), omega (arith, ints))
quarter-inside (negsuc a) h = absurd (omega (arith, ints))

apart : (low high : ℤ) → (low +ℤ pos 4) ≤ℤ high → pos 4 ≤ℤ (high -ℤ low)
apart low high h = omega (arith, ints)

up : (low part : ℤ) → pos 0 <ℤ part → low <ℤ (low +ℤ part)
up low part h = omega (arith, ints)

up_short : (low high part : ℤ) → part <ℤ (high -ℤ low) → (low +ℤ part) <ℤ high
up_short low high part h = omega (arith, ints)

down : (high part : ℤ) → pos 0 <ℤ part → (high -ℤ part) <ℤ high
down high part h = omega (arith, ints)

down_short : (low high part : ℤ) → part <ℤ (high -ℤ low) → low <ℤ (high -ℤ part)
down_short low high part h = omega (arith, ints)

pub cut-above : (b : Box) (side : Side) (c : ℕ) → (b.low c +ℤ pos 4) ≤ℤ b.high c → b.low c <ℤ cut_at b side c
cut-above b Left c h = up (b.low c) (quarter b c) (quarter-inside (b.high c -ℤ b.low c) (apart (b.low c) (b.high c) h)).0
cut-above b Right c h = down_short (b.low c) (b.high c) (quarter b c) (quarter-inside (b.high c -ℤ b.low c) (apart (b.low c) (b.high c) h)).1

pub cut-below : (b : Box) (side : Side) (c : ℕ) → (b.low c +ℤ pos 4) ≤ℤ b.high c → cut_at b side c <ℤ b.high c
cut-below b Left c h = up_short (b.low c) (b.high c) (quarter b c) (quarter-inside (b.high c -ℤ b.low c) (apart (b.low c) (b.high c) h)).1
cut-below b Right c h = down (b.high c) (quarter b c) (quarter-inside (b.high c -ℤ b.low c) (apart (b.low c) (b.high c) h)).0

-- ---- by ends that are held

module _ (n : Net) (b : Box) (e : BoxEnds) (is : AreEndsOf n b e) (c : ℕ) where
  pub cut-same : (side : Side) → c < coords n → cut_at (shown_box_ends e) side c ≡ cut_at b side c
  cut-same Left lt =
      let at = λ (low high : ℤ). low +ℤ int_div (high -ℤ low) (pos 4) in
      ap (λ (z : ℤ). at z ((shown_box_ends e).high c)) (is.agree.low c lt) ∙ ap (λ (z : ℤ). at (b.low c) z) (is.agree.high c lt)
  cut-same Right lt =
      let at = λ (low high : ℤ). high -ℤ int_div (high -ℤ low) (pos 4) in
      ap (λ (z : ℤ). at z ((shown_box_ends e).high c)) (is.agree.low c lt) ∙ ap (λ (z : ℤ). at (b.low c) z) (is.agree.high c lt)

  pub pieces-of : (form : Form) → HasPieces n form (shown_box_ends e) c → HasPieces n form b c
  pieces-of form has = record {
    known = has.known;
    of_form = has.of_form;
    wide = subst (λ (z : ℤ). (b.low c +ℤ pos 4) ≤ℤ z) (is.agree.high c has.known)
        (subst (λ (z : ℤ). (z +ℤ pos 4) ≤ℤ (shown_box_ends e).high c) (is.agree.low c has.known) has.wide);
  }

  pub pieces-held : (form : Form) → HasPieces n form b c → HasPieces n form (shown_box_ends e) c
  pieces-held form has = record {
    known = has.known;
    of_form = has.of_form;
    wide = subst (λ (z : ℤ). ((shown_box_ends e).low c +ℤ pos 4) ≤ℤ z) (sym (is.agree.high c has.known))
        (subst (λ (z : ℤ). (z +ℤ pos 4) ≤ℤ b.high c) (sym (is.agree.low c has.known)) has.wide);
  }

module _ (n : Net) (form : Form) (e left right : BoxEnds) (side : Side) (c : ℕ) (cut : ℤ) (has : HasPieces n form (shown_box_ends e) c)
    (at : cut ≡ cut_at (shown_box_ends e) side c) (halves : AreHalves e left right c cut) (b : Box) (is : AreEndsOf n b e) where
  cut_is : cut ≡ cut_at b side c
  cut_is = at ∙ cut-same n b e is c side has.known

  wide_is : (b.low c +ℤ pos 4) ≤ℤ b.high c
  wide_is = (pieces-of n b e is c form has).wide

  above : b.low c <ℤ cut
  above = subst (λ (z : ℤ). b.low c <ℤ z) (sym cut_is) (cut-above b side c wide_is)

  below : cut <ℤ b.high c
  below = subst (λ (z : ℤ). z <ℤ b.high c) (sym cut_is) (cut-below b side c wide_is)

  pub left-part : AreEndsOf n (left_of b c (cut_at b side c)) left
  left-part = subst (λ (z : ℤ). AreEndsOf n (left_of b c z) left) cut_is (left-half n b e left c cut is halves.left_low halves.left_high has.known above below)

  pub right-part : AreEndsOf n (right_of b c (cut_at b side c)) right
  right-part = subst (λ (z : ℤ). AreEndsOf n (right_of b c z) right) cut_is (right-half n b e right c cut is halves.right_low halves.right_high has.known above below)

  pub left-piece : side ≡ Left → AreEndsOf n (piece_of b side c) left
  left-piece same = subst (λ (z : Side). AreEndsOf n (part_of b z c (cut_at b side c)) left) (sym same) left-part

  pub left-kept : side ≡ Right → AreEndsOf n (kept_of b side c) left
  left-kept same = subst (λ (z : Side). AreEndsOf n (part_of b (other z) c (cut_at b side c)) left) (sym same) left-part

  pub right-piece : side ≡ Right → AreEndsOf n (piece_of b side c) right
  right-piece same = subst (λ (z : Side). AreEndsOf n (part_of b z c (cut_at b side c)) right) (sym same) right-part

  pub right-kept : side ≡ Left → AreEndsOf n (kept_of b side c) right
  right-kept same = subst (λ (z : Side). AreEndsOf n (part_of b (other z) c (cut_at b side c)) right) (sym same) right-part

-- ends that are held are those of the box that they show
pub ends-own : (n : Net) (e : BoxEnds) → AreEnds n e → AreEndsOf n (shown_box_ends e) e
ends-own n e is = record { proper = is; agree = record { low = λ c lt. refl; high = λ c lt. refl } }
