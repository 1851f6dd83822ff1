-- Ends that are held stand for a box, and their halves for its halves.
use Rattle.std.proofs.Common.{◌≡◌, ℕ, ◌<◌, ◌⊎◌, inl, inr, ◌==◌, if◌then◌else◌, List, length, get_or, set, ℤ, pos}
use Rattle.std.proofs.Common.{◌*ℤ◌, ◌<ℤ◌, ◌≤ℤ◌, Result, Ok, Err, IfOk, arith, refl, sym, ap, subst, ◌∙◌, get_or-set_same, get_or-set_other}
use Rattle.std.proofs.lemmas.List.{length-set}
use Rattle.integers.proofs.AtKey.{same_or_other, chosen, passed}
use Rattle.pool_model.specs.Network.{Net}
use Rattle.pool_model.specs.Plan.{Plan}
use Rattle.row_model.specs.Boxes.{Box, Agree, coords, coord_at, IsProper, left_of, right_of, LiesIn, place, place_base}
use Rattle.row_model.proofs.Halves.{left-proper, right-proper, lies-half}
use Rattle.row_model.proofs.Agreement.{agree-back, proper-same}
use Rattle.box_space.specs.Views.{shown_box_ends, AreEnds, AreEndsOf, AreHalves}
use Rattle.edge_io.specs.declared.Memory.{Memory}
use Rattle.box_space.specs.declared.boxes.BoxEnds.{BoxEnds}

pub agree-ends : (n : Net) (b : Box) (e : BoxEnds) → IsProper n b → length e.low.items ≡ coords n → length e.high.items ≡ coords n → Agree n (shown_box_ends e) b → AreEndsOf n b e
agree-ends n b e proper lows highs agree = record {
  proper = record { lows = lows; highs = highs; proper = proper-same n b (shown_box_ends e) (agree-back n (shown_box_ends e) b agree) proper };
  agree = agree;
}

-- a box is proper that proper ends stand for
box-proper : (n : Net) (b : Box) (e : BoxEnds) → AreEndsOf n b e → IsProper n b
box-proper n b e ends = proper-same n (shown_box_ends e) b ends.agree ends.proper.proper

-- a list with one number set is the function that is changed there
set_is : (xs : List ℤ) (coord c : ℕ) (cut : ℤ) (f : ℕ → ℤ) → coord < length xs → get_or xs c (pos 0) ≡ f c → get_or (set xs coord cut) c (pos 0) ≡ (if c == coord then cut else f c)
set_is xs coord c cut f lt same = elim (same_or_other c coord) [
  | inl e ↦ ap (λ (i : ℕ). get_or (set xs coord cut) i (pos 0)) e ∙ get_or-set_same xs coord cut (pos 0) lt ∙ sym (chosen c coord cut (f c) e)
  | inr d ↦ get_or-set_other xs coord c cut (pos 0) d ∙ same ∙ sym (passed c coord cut (f c) d)
]

pub left-half : (n : Net) (b : Box) (e left : BoxEnds) (coord : ℕ) (cut : ℤ) → AreEndsOf n b e → left.low.items ≡ e.low.items
    → left.high.items ≡ set e.high.items coord cut → coord < coords n → b.low coord <ℤ cut → cut <ℤ b.high coord
    → AreEndsOf n (left_of b coord cut) left
left-half n b e left coord cut ends lows highs lt above below =
    agree-ends n (left_of b coord cut) left (left-proper n b coord cut (box-proper n b e ends) above below)
    (ap (λ (xs : List ℤ). length xs) lows ∙ ends.proper.lows)
    (ap (λ (xs : List ℤ). length xs) highs ∙ length-set e.high.items coord cut ∙ ends.proper.highs)
    record {
      low = λ c h. ap (λ (xs : List ℤ). get_or xs c (pos 0)) lows ∙ ends.agree.low c h;
      high = λ c h. ap (λ (xs : List ℤ). get_or xs c (pos 0)) highs ∙ set_is e.high.items coord c cut b.high (omega (arith, lt, ends.proper.highs)) (ends.agree.high c h);
    }

pub right-half : (n : Net) (b : Box) (e right : BoxEnds) (coord : ℕ) (cut : ℤ) → AreEndsOf n b e → right.low.items ≡ set e.low.items coord cut
    → right.high.items ≡ e.high.items → coord < coords n → b.low coord <ℤ cut → cut <ℤ b.high coord
    → AreEndsOf n (right_of b coord cut) right
right-half n b e right coord cut ends lows highs lt above below =
    agree-ends n (right_of b coord cut) right (right-proper n b coord cut (box-proper n b e ends) above below)
    (ap (λ (xs : List ℤ). length xs) lows ∙ length-set e.low.items coord cut ∙ ends.proper.lows)
    (ap (λ (xs : List ℤ). length xs) highs ∙ ends.proper.highs)
    record {
      low = λ c h. ap (λ (xs : List ℤ). get_or xs c (pos 0)) lows ∙ set_is e.low.items coord c cut b.low (omega (arith, lt, ends.proper.lows)) (ends.agree.low c h);
      high = λ c h. ap (λ (xs : List ℤ). get_or xs c (pos 0)) highs ∙ ends.agree.high c h;
    }

-- ---- halves of ends that are held

-- a cut of a box that is held
pub record IsCut (b left right : BoxEnds) (coord : ℕ) (cut : ℤ) : Type 0 where
  pub halves : AreHalves b left right coord cut
  pub low : coord < length b.low.items
  pub high : coord < length b.high.items
  pub above : get_or b.low.items coord (pos 0) <ℤ cut
  pub below : cut <ℤ get_or b.high.items coord (pos 0)

pub halves-proper : (n : Net) (b left right : BoxEnds) (coord : ℕ) (cut : ℤ) → IsCut b left right coord cut → AreEnds n b → AreEnds n left × AreEnds n right
halves-proper n b left right coord cut h ends =
    let whole : AreEndsOf n (shown_box_ends b) b = record { proper = ends; agree = record { low = λ c lt. refl; high = λ c lt. refl } } in
    let among : coord < coords n = omega (arith, h.low, ends.lows) in (
      (left-half n (shown_box_ends b) b left coord cut whole h.halves.left_low h.halves.left_high among h.above h.below).proper,
      (right-half n (shown_box_ends b) b right coord cut whole h.halves.right_low h.halves.right_high among h.above h.below).proper,
    )

-- a plan lies in boxes with the same ends
lies-same : (n : Net) (p : Plan) (a b : Box) → ((c : ℕ) → a.low c ≡ b.low c) → ((c : ℕ) → a.high c ≡ b.high c) → LiesIn n p a → LiesIn n p b
lies-same n p a b low high h = record {
  low = λ c lt. subst (λ (z : ℤ). (z *ℤ pos (place_base n p (coord_at n c))) ≤ℤ place n p (coord_at n c)) (low c) (h.low c lt);
  high = λ c lt. subst (λ (z : ℤ). place n p (coord_at n c) ≤ℤ (z *ℤ pos (place_base n p (coord_at n c)))) (high c) (h.high c lt);
}

pub halves-cover : (n : Net) (p : Plan) (b left right : BoxEnds) (coord : ℕ) (cut : ℤ) → IsCut b left right coord cut → LiesIn n p (shown_box_ends b)
    → LiesIn n p (shown_box_ends left) ⊎ LiesIn n p (shown_box_ends right)
halves-cover n p b left right coord cut h lies =
    let box = shown_box_ends b in
    let at = λ (xs : List ℤ) (c : ℕ). get_or xs c (pos 0) in
    elim (lies-half n p box coord cut lies) [
      | inl l ↦ inl (lies-same n p (left_of box coord cut) (shown_box_ends left) (λ c. ap (λ (xs : List ℤ). at xs c) (sym h.halves.left_low))
          (λ c. sym (ap (λ (xs : List ℤ). at xs c) h.halves.left_high ∙ set_is b.high.items coord c cut box.high h.high refl)) l)
      | inr r ↦ inr (lies-same n p (right_of box coord cut) (shown_box_ends right) (λ c. sym (ap (λ (xs : List ℤ). at xs c) h.halves.right_low ∙ set_is b.low.items coord c cut box.low h.low refl))
          (λ c. ap (λ (xs : List ℤ). at xs c) (sym h.halves.right_high)) r)
    ]

-- what a cut returns
module _ (b : BoxEnds) (coord : ℕ) (cut : ℤ) where
  pub cut-proper : (r : Result (BoxEnds × BoxEnds) Memory) → coord < length b.low.items → coord < length b.high.items
      → get_or b.low.items coord (pos 0) <ℤ cut → cut <ℤ get_or b.high.items coord (pos 0)
      → IfOk r (λ h. AreHalves b h.0 h.1 coord cut) → IfOk r (λ h. (n : Net) → AreEnds n b → AreEnds n h.0 × AreEnds n h.1)
  cut-proper (Ok h) low high above below halves = λ n ends. halves-proper n b h.0 h.1 coord cut record { halves = halves; low = low; high = high; above = above; below = below } ends
  cut-proper (Err e) low high above below halves = tt

  pub cut-covers : (r : Result (BoxEnds × BoxEnds) Memory) → coord < length b.low.items → coord < length b.high.items
      → get_or b.low.items coord (pos 0) <ℤ cut → cut <ℤ get_or b.high.items coord (pos 0)
      → IfOk r (λ h. AreHalves b h.0 h.1 coord cut)
      → IfOk r (λ h. (n : Net) (p : Plan) → LiesIn n p (shown_box_ends b) → LiesIn n p (shown_box_ends h.0) ⊎ LiesIn n p (shown_box_ends h.1))
  cut-covers (Ok h) low high above below halves = λ n p lies. halves-cover n p b h.0 h.1 coord cut record { halves = halves; low = low; high = high; above = above; below = below } lies
  cut-covers (Err e) low high above below halves = tt
