-- A box whose ends at a coordinate are moved inwards.
use Rattle.std.proofs.Common.{◌≡◌, ℕ, ◌<◌, inl, inr, List, length, get_or, set, ℤ, pos, ◌≤ℤ◌, arith, sym, ap, subst, ◌∙◌, get_or-set_same, get_or-set_other}
use Rattle.std.proofs.lemmas.List.{length-set}
use Rattle.integers.proofs.Ring.{additive}
use Rattle.integers.proofs.AtKey.{same_or_other}
use Rattle.pool_model.specs.Network.{Net}
use Rattle.row_model.specs.Boxes.{root_low, root_high, coord_at}
use Rattle.box_space.specs.Views.{AreEnds}
use Rattle.box_space.specs.declared.boxes.BoxEnds.{BoxEnds}

-- what holds of a number that is set and of the others holds of each
set_holds : (P : ℤ → Type 0) (xs : List ℤ) (k j : ℕ) (v : ℤ) → k < length xs → (j ≡ k → P v) → P (get_or xs j (pos 0)) → P (get_or (set xs k v) j (pos 0))
set_holds P xs k j v lt here there = elim (same_or_other j k) [
  | inl e ↦ subst P (sym (ap (λ (i : ℕ). get_or (set xs k v) i (pos 0)) e ∙ get_or-set_same xs k v (pos 0) lt)) (here e)
  | inr d ↦ subst P (sym (get_or-set_other xs k j v (pos 0) d)) there
]

-- the same of the low and the high end together
both_hold : (lows highs : List ℤ) (k j : ℕ) (low high : ℤ) → k < length lows → k < length highs → low ≤ℤ high → get_or lows j (pos 0) ≤ℤ get_or highs j (pos 0)
    → get_or (set lows k low) j (pos 0) ≤ℤ get_or (set highs k high) j (pos 0)
both_hold lows highs k j low high a b new old = elim (same_or_other j k) [
  | inl e ↦ subst (λ (x : ℤ). x ≤ℤ get_or (set highs k high) j (pos 0)) (sym (ap (λ (i : ℕ). get_or (set lows k low) i (pos 0)) e ∙ get_or-set_same lows k low (pos 0) a))
      (subst (λ (y : ℤ). low ≤ℤ y) (sym (ap (λ (i : ℕ). get_or (set highs k high) i (pos 0)) e ∙ get_or-set_same highs k high (pos 0) b)) new)
  | inr d ↦ subst (λ (x : ℤ). x ≤ℤ get_or (set highs k high) j (pos 0)) (sym (get_or-set_other lows k j low (pos 0) d))
      (subst (λ (y : ℤ). get_or lows j (pos 0) ≤ℤ y) (sym (get_or-set_other highs k j high (pos 0) d)) old)
]

past : (a b c : ℤ) → a ≤ℤ b → b ≤ℤ c → a ≤ℤ c
past a b c h k = omega (arith, additive)

pub narrowed : (n : Net) (b c : BoxEnds) (k : ℕ) (low high : ℤ) → k < length b.low.items → k < length b.high.items
    → get_or b.low.items k (pos 0) ≤ℤ low → low ≤ℤ high → high ≤ℤ get_or b.high.items k (pos 0)
    → c.low.items ≡ set b.low.items k low → c.high.items ≡ set b.high.items k high → AreEnds n b → AreEnds n c
narrowed n b c k low high a d up order down lows highs h = record {
  lows = ap (λ (xs : List ℤ). length xs) lows ∙ length-set b.low.items k low ∙ h.lows;
  highs = ap (λ (xs : List ℤ). length xs) highs ∙ length-set b.high.items k high ∙ h.highs;
  proper = record {
    in_order = λ j lt. subst (λ (xs : List ℤ). get_or xs j (pos 0) ≤ℤ get_or c.high.items j (pos 0)) (sym lows)
        (subst (λ (ys : List ℤ). get_or (set b.low.items k low) j (pos 0) ≤ℤ get_or ys j (pos 0)) (sym highs) (both_hold b.low.items b.high.items k j low high a d order (h.proper.in_order j lt)));
    low = λ j lt. subst (λ (xs : List ℤ). root_low n (coord_at n j) ≤ℤ get_or xs j (pos 0)) (sym lows)
        (set_holds (λ x. root_low n (coord_at n j) ≤ℤ x) b.low.items k j low a
        (λ e. past (root_low n (coord_at n j)) (get_or b.low.items k (pos 0)) low
        (subst (λ (i : ℕ). root_low n (coord_at n j) ≤ℤ get_or b.low.items i (pos 0)) e (h.proper.low j lt)) up) (h.proper.low j lt));
    high = λ j lt. subst (λ (xs : List ℤ). get_or xs j (pos 0) ≤ℤ root_high n (coord_at n j)) (sym highs)
        (set_holds (λ x. x ≤ℤ root_high n (coord_at n j)) b.high.items k j high d
        (λ e. past high (get_or b.high.items k (pos 0)) (root_high n (coord_at n j)) down
        (subst (λ (i : ℕ). get_or b.high.items i (pos 0) ≤ℤ root_high n (coord_at n j)) e (h.proper.high j lt))) (h.proper.high j lt));
  };
}
