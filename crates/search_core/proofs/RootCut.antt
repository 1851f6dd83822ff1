-- The root is cut by the first split, where there is one.
use Rattle.std.proofs.Common.{◌≡◌, ℕ, zero, suc, ◌<◌, ◌==◌, ◌||◌, List, [], ◌∷◌, length, map, Bool, true, false, arith, refl, ap, ◌∙◌}
use Rattle.std.specs.List.{list_any}
use Rattle.pool_model.specs.Network.{Net}
use Rattle.row_model.specs.Trees.{Split, is_cut, IsSplitInOrder}
use Rattle.box_space.specs.Views.{shown_split}
use Rattle.box_space.specs.declared.coordinates.Split as held

none_before : (leaf : ℕ) (x : Bool) → leaf < 1 → ((leaf == 0) || x) ≡ false → ⊥
none_before zero x h e = cc
none_before (suc l) x h e = absurd (omega arith)

-- where no split cuts the root, there is none
pub uncut-none : (n : Net) (splits : List Split) → ((t : ℕ) → t < length splits → IsSplitInOrder n splits t) → is_cut splits 0 ≡ false → splits ≡ []
uncut-none n [] order e = refl
uncut-none n (s ∷ rest) order e = absurd (none_before s.leaf (list_any (λ z. z.leaf == 0) rest) (order 0 (omega arith)).leaf.there e)

none-shown : (splits : List held.Split) → map shown_split splits ≡ [] → splits ≡ []
none-shown [] e = refl
none-shown (s ∷ rest) e = cc

-- where there is a split, the root is cut
pub some-cut : (n : Net) (splits : List Split) (shown : List held.Split) → map shown_split shown ≡ splits → ((t : ℕ) → t < length splits → IsSplitInOrder n splits t)
    → (length shown == 0) ≡ false → ¬ (is_cut splits 0 ≡ false)
some-cut n splits shown shows order some uncut =
    let none : shown ≡ [] = none-shown shown (shows ∙ uncut-none n splits order uncut) in
    clash (length shown == 0) some (ap (λ (xs : List held.Split). length xs == 0) none)
  where
    clash : (b : Bool) → b ≡ false → b ≡ true → ⊥
    clash b e t = cc
