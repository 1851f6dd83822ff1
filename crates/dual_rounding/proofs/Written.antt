-- Lists that are written over element by element.
use Rattle.std.proofs.Common.{◌≡◌, ◌≢◌, ℤ, pos, get_or-set_other, get_or-set_same, below_more, ℕ, zero, suc, ◌+◌, ◌<◌, List, [], ◌∷◌, ◌++◌, map, length, take}
use Rattle.std.proofs.Common.{set, get_or, All, arith, add-one, sym, ap, subst, ◌∙◌}
use Rattle.std.proofs.Math.Seq.{take-suc-set, take-append_seam}
use Rattle.std.proofs.lemmas.List.Elements.{All-push}

-- numbers that are written one after another
pub numbers-more : (xs : List ℤ) (f : ℕ → ℤ) (k : ℕ) (z : ℤ) → k < length xs → ((i : ℕ) → i < k → get_or xs i (pos 0) ≡ f i) → z ≡ f k
    → (i : ℕ) → i < k + 1 → get_or (set xs k z) i (pos 0) ≡ f i
numbers-more xs f k z lt h e = below_more _ _ (λ i l. let ne : i ≢ k = omega arith in rw get_or-set_other (h i l)) (rw get_or-set_same e)

-- what an element is mapped to stays where it is written over by one that is mapped to the same
pub map-set_same : {X Y : Type 0} (f : X → Y) (xs : List X) (k : ℕ) (x d : X) → k < length xs → f x ≡ f (get_or xs k d) → map f (set xs k x) ≡ map f xs
map-set_same f [] k x d lt e = absurd (omega arith)
map-set_same f (y ∷ xs) zero x d lt e = ap (λ z. z ∷ map f xs) e
map-set_same f (y ∷ xs) (suc k) x d lt e = ap (λ zs. f y ∷ zs) (map-set_same f xs k x d (omega arith) e)

-- what holds of the elements before one, and of the one that is written there
pub All-written : {X : Type 0} (P : X → Type 0) (xs : List X) (k : ℕ) (x : X) → k < length xs → All P (take k xs) → P x → All P (take (k + 1) (set xs k x))
All-written P xs k x lt h p =
    subst (λ (zs : List _). All P zs) (sym (ap (λ m. take m (set xs k x)) (add-one k) ∙ take-suc-set xs k x lt)) (All-push P (take k xs) x h p)

-- a list that was written over as a whole
pub All-whole : {X : Type 0} (P : X → Type 0) (len : ℕ) (ws rest : List X) → length ws ≡ len → All P ws → All P (take len (ws ++ rest))
All-whole P len ws rest e h = subst (λ (xs : List _). All P xs) (sym (ap (λ k. take k (ws ++ rest)) (sym e) ∙ take-append_seam ws rest)) h
