-- The halves of a box: a plan in a box lies in one of them, and they are proper where the cut lies strictly inside.
use Rattle.std.proofs.Common.{◌≡◌, ℕ, ◌⊎◌, inl, inr, ◌==◌, if◌then◌else◌, ℤ, pos, ◌*ℤ◌, ◌≤ℤ◌, ◌<ℤ◌, arith, sym, ap, subst}
use Rattle.std.proofs.lemmas.Int.{by_lt_z}
use Rattle.integers.proofs.Ring.{additive}
use Rattle.integers.proofs.AtKey.{same_or_other, chosen, passed}
use Rattle.pool_model.specs.Network.{Net}
use Rattle.pool_model.specs.Plan.{Plan}
use Rattle.row_model.specs.Boxes.{coord_at, Box, IsProper, left_of, right_of, root_low, root_high, place, place_base, LiesIn}

-- an end that is changed at one number
at_cut : (P : ℤ → Type 0) (c coord : ℕ) (cut : ℤ) (old : ℤ) → (c ≡ coord → P cut) → P old → P (if c == coord then cut else old)
at_cut P c coord cut old here there = elim (same_or_other c coord) [
  | inl e ↦ subst P (sym (chosen c coord cut old e)) (here e)
  | inr d ↦ subst P (sym (passed c coord cut old d)) there
]

lies-left : (n : Net) (p : Plan) (b : Box) (coord : ℕ) (cut : ℤ) → LiesIn n p b
    → place n p (coord_at n coord) ≤ℤ (cut *ℤ pos (place_base n p (coord_at n coord))) → LiesIn n p (left_of b coord cut)
lies-left n p b coord cut h under = record {
  low = h.low;
  high = λ c lt. at_cut (λ z. place n p (coord_at n c) ≤ℤ (z *ℤ pos (place_base n p (coord_at n c)))) c coord cut (b.high c)
      (λ e. subst (λ (i : ℕ). place n p (coord_at n i) ≤ℤ (cut *ℤ pos (place_base n p (coord_at n i)))) (sym e) under) (h.high c lt);
}

lies-right : (n : Net) (p : Plan) (b : Box) (coord : ℕ) (cut : ℤ) → LiesIn n p b
    → (cut *ℤ pos (place_base n p (coord_at n coord))) ≤ℤ place n p (coord_at n coord) → LiesIn n p (right_of b coord cut)
lies-right n p b coord cut h over = record {
  low = λ c lt. at_cut (λ z. (z *ℤ pos (place_base n p (coord_at n c))) ≤ℤ place n p (coord_at n c)) c coord cut (b.low c)
      (λ e. subst (λ (i : ℕ). (cut *ℤ pos (place_base n p (coord_at n i))) ≤ℤ place n p (coord_at n i)) (sym e) over) (h.low c lt);
  high = h.high;
}

pub lies-half : (n : Net) (p : Plan) (b : Box) (coord : ℕ) (cut : ℤ) → LiesIn n p b → LiesIn n p (left_of b coord cut) ⊎ LiesIn n p (right_of b coord cut)
lies-half n p b coord cut h =
    by_lt_z (cut *ℤ pos (place_base n p (coord_at n coord))) (place n p (coord_at n coord))
    (λ over. inr (lies-right n p b coord cut h (omega (arith, additive))))
    (λ under. inl (lies-left n p b coord cut h under))

pub left-proper : (n : Net) (b : Box) (coord : ℕ) (cut : ℤ) → IsProper n b → b.low coord <ℤ cut → cut <ℤ b.high coord → IsProper n (left_of b coord cut)
left-proper n b coord cut h above below = record {
  in_order = λ c lt. at_cut (λ z. b.low c ≤ℤ z) c coord cut (b.high c) (λ e. subst (λ (i : ℕ). b.low i ≤ℤ cut) (sym e) (omega (arith, additive))) (h.in_order c lt);
  low = h.low;
  high = λ c lt. at_cut (λ z. z ≤ℤ root_high n (coord_at n c)) c coord cut (b.high c) (λ e. omega (arith, additive, ap b.high e, h.high c lt)) (h.high c lt);
}

pub right-proper : (n : Net) (b : Box) (coord : ℕ) (cut : ℤ) → IsProper n b → b.low coord <ℤ cut → cut <ℤ b.high coord → IsProper n (right_of b coord cut)
right-proper n b coord cut h above below = record {
  in_order = λ c lt. at_cut (λ z. z ≤ℤ b.high c) c coord cut (b.low c) (λ e. subst (λ (i : ℕ). cut ≤ℤ b.high i) (sym e) (omega (arith, additive))) (h.in_order c lt);
  low = λ c lt. at_cut (λ z. root_low n (coord_at n c) ≤ℤ z) c coord cut (b.low c) (λ e. omega (arith, additive, ap b.low e, h.low c lt)) (h.low c lt);
  high = h.high;
}
