-- The numbers of splits on the coordinates, when one more is made.
use Rattle.std.proofs.Common.{◌≡◌, ◌≢◌, ℕ, ◌+◌, ◌<◌, ◌≤◌, ◌==◌, if◌then◌else◌, inl, inr, List, [], ◌∷◌, ◌++◌, length, get_or, replicate, Bool, true, false, arith, sym, ap, ◌∙◌, length-append}
use Rattle.std.proofs.Common.{get_or-set_same, get_or-set_other}
use Rattle.std.proofs.lemmas.List.{length-set, length-replicate, get_or-replicate}
use Rattle.std.proofs.lemmas.List.Elements.{filter-append}
use Rattle.std.specs.Prelude.{filter}
use Rattle.integers.proofs.AtKey.{same_or_other}
use Rattle.pool_model.specs.Network.{Net}
use Rattle.row_model.specs.Boxes.{coords}
use Rattle.row_model.specs.Trees.{Split, most_splits}
use Rattle.row_model.proofs.TreeLaw.{same_node, other_leaf}
use Rattle.box_tree.specs.Counts.{cuts_on, AreCounts}
use Rattle.box_tree.specs.Taken.{counted}

-- no split yet
pub none-counted : (n : Net) → AreCounts n [] (replicate (coords n) 0)
none-counted n = record { long = length-replicate (coords n) 0; is = λ c h. get_or-replicate (coords n) c 0 0 h }

-- no more splits are on a coordinate than there are
pub cuts_on-few : (splits : List Split) (c : ℕ) → cuts_on splits c ≤ length splits
cuts_on-few [] c = omega arith
cuts_on-few (s ∷ splits) c = elim (s.coord == c) as (λ b. length (if b then s ∷ filter (λ z. z.coord == c) splits else filter (λ z. z.coord == c) splits) ≤ length (s ∷ splits)) [
  | true ↦ omega (arith, cuts_on-few splits c)
  | false ↦ omega (arith, cuts_on-few splits c)
]

on_it : (s : Split) (c : ℕ) → c ≡ s.coord → cuts_on (s ∷ []) c ≡ 1
on_it s c e = ap (λ (b : Bool). length (if b then s ∷ [] else [])) (ap (λ (i : ℕ). s.coord == i) e ∙ same_node s.coord)

off_it : (s : Split) (c : ℕ) → c ≢ s.coord → cuts_on (s ∷ []) c ≡ 0
off_it s c d = ap (λ (b : Bool). length (if b then s ∷ [] else [])) (other_leaf s.coord c (λ e. d (sym e)))

cuts_on-more : (splits : List Split) (s : Split) (c : ℕ) → cuts_on (splits ++ s ∷ []) c ≡ cuts_on splits c + cuts_on (s ∷ []) c
cuts_on-more splits s c = ap (λ (xs : List Split). length xs) (filter-append (λ z. z.coord == c) splits (s ∷ []))
    ∙ length-append (filter (λ z. z.coord == c) splits) (filter (λ z. z.coord == c) (s ∷ []))

-- one split more
pub more-counted : (n : Net) (splits : List Split) (s : Split) (counts : List ℕ) → s.coord < coords n → AreCounts n splits counts → AreCounts n (splits ++ s ∷ []) (counted counts s.coord)
more-counted n splits s counts here are =
    let more = get_or counts s.coord 0 + 1 in
    record {
      long = length-set counts s.coord more ∙ are.long;
      is = λ c h. elim (same_or_other c s.coord) [
        | inl e ↦ ap (λ (i : ℕ). get_or (counted counts s.coord) i 0) e ∙ get_or-set_same counts s.coord more 0 (omega (arith, here, are.long))
            ∙ omega (arith, are.is c h, ap (λ (i : ℕ). get_or counts i 0) e, cuts_on-more splits s c, on_it s c e)
        | inr d ↦ get_or-set_other counts s.coord c more 0 d ∙ omega (arith, are.is c h, cuts_on-more splits s c, off_it s c d)
      ];
    }

-- while there are fewer splits than there may be, there are fewer on each coordinate
pub few-counted : (n : Net) (splits : List Split) (counts : List ℕ) (c : ℕ) → c < coords n → length splits < most_splits → AreCounts n splits counts → get_or counts c 0 < most_splits
few-counted n splits counts c here few are = omega (arith, are.is c here, cuts_on-few splits c, few)
