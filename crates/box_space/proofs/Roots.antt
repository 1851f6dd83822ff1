-- The ends of the root box, one after another, and that they are proper.
use Rattle.std.proofs.Common.{◌≡◌, ℕ, ◌+◌, ◌<◌, List, [], ◌∷◌, ◌++◌, length, get_or, ℤ, pos, ◌≤ℤ◌, arith, sym, ap, ◌∙◌, subst, below_more}
use Rattle.std.proofs.lemmas.List.{get_or_append_left, get_or_push}
use Rattle.pool_model.specs.Network.{Net, IsLimited}
use Rattle.row_model.specs.Boxes.{root}
use Rattle.row_model.proofs.RootBox.{root-proper}
use Rattle.box_space.specs.declared.boxes.BoxEnds.{BoxEnds}
use Rattle.box_space.specs.Views.{AreEnds, AreRoot}

pub one_end_more : (old new : List ℤ) (f : ℕ → ℤ) (n : ℕ) (x : ℤ) → length old ≡ n → new ≡ old ++ x ∷ [] → x ≡ f n
    → ((c : ℕ) → c < n → get_or old c (pos 0) ≡ f c) → (c : ℕ) → c < n + 1 → get_or new c (pos 0) ≡ f c
one_end_more old new f n x len e at h =
    below_more (λ (c : ℕ). get_or new c (pos 0) ≡ f c) n
    (λ c lt. ap (λ (xs : List ℤ). get_or xs c (pos 0)) e ∙ get_or_append_left old (x ∷ []) (pos 0) c (omega (arith, len)) ∙ h c lt)
    (ap (λ (xs : List ℤ). get_or xs n (pos 0)) e ∙ get_or_push old x (pos 0) n len ∙ at)

-- ends that are those of the root are proper
pub ends-proper : (n : Net) (b : BoxEnds) → IsLimited n → AreRoot n b → AreEnds n b
ends-proper n b limited r =
    let p = root-proper n limited in
    record {
      lows = r.lows;
      highs = r.highs;
      proper = record {
        in_order = λ c lt. subst (λ (z : ℤ). z ≤ℤ get_or b.high.items c (pos 0)) (sym (r.low c lt)) (subst (λ (z : ℤ). (root n).low c ≤ℤ z) (sym (r.high c lt)) (p.in_order c lt));
        low = λ c lt. subst (λ (z : ℤ). (root n).low c ≤ℤ z) (sym (r.low c lt)) (p.low c lt);
        high = λ c lt. subst (λ (z : ℤ). z ≤ℤ (root n).high c) (sym (r.high c lt)) (p.high c lt);
      };
    }
