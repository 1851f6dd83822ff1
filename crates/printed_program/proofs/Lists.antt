-- Lists of the first so many numbers: their texts, their sums, and what holds of each element.
use Rattle.std.proofs.Common.{All, ◌≡◌, ℕ, zero, suc, ◌<◌, ◌⊎◌, inl, inr, Bool, true, false, if◌then◌else◌, List, [], ◌∷◌, ◌++◌, ℤ, pos, ◌+ℤ◌, arith, refl, sym, ap, subst, ◌∙◌}
use Rattle.std.specs.List.{flat_map}
use Rattle.std.proofs.lemmas.List.{append-nil}
use Rattle.std.proofs.lemmas.List.Concat.{flat_map-append}
use Rattle.std.proofs.lemmas.List.Elements.{All-nil, All-cons, All-head, All-tail, All-append}
use Rattle.integers.specs.Numbers.{tabulate}
use Rattle.integers.specs.Sums.{int_sum_by, int_sum_below}
use Rattle.integers.proofs.Ring.{additive}
use Rattle.integers.proofs.ByList.{int_sum_by-append}
use Rattle.integers.proofs.Tabulate.{length-tabulate, get_or-tabulate}
use Rattle.text_pieces.specs.Pieces.{each_below}
use Rattle.printed_program.specs.Printed.{lists_below}

-- ---- what holds of each element

pub All-front : {X : Type 0} (P : X → Type 0) (xs ys : List X) → All P (xs ++ ys) → All P xs
All-front P [] ys h = All-nil P
All-front P (x ∷ xs) ys h = All-cons P x xs (All-head P x (xs ++ ys) h) (All-front P xs ys (All-tail P x (xs ++ ys) h))

pub All-behind : {X : Type 0} (P : X → Type 0) (xs ys : List X) → All P (xs ++ ys) → All P ys
All-behind P [] ys h = h
All-behind P (x ∷ xs) ys h = All-behind P xs ys (All-tail P x (xs ++ ys) h)

pub at-tabulate : {X : Type 0} (P : X → Type 0) (f : ℕ → X) (n i : ℕ) → All P (tabulate f n) → i < n → P (f i)
at-tabulate P f n i h lt = subst P (get_or-tabulate f n i (f i) lt) (h i (f i) (omega (arith, length-tabulate f n)))

pub All-lists_below : {X : Type 0} (P : X → Type 0) (f : ℕ → List X) (n : ℕ) → ((i : ℕ) → i < n → All P (f i)) → All P (lists_below f n)
All-lists_below P f zero h = All-nil P
All-lists_below P f (suc n) h = All-append P (lists_below f n) (f n) (All-lists_below P f n (λ i lt. h i (omega arith))) (h n (omega arith))

pub at-lists_below : {X : Type 0} (P : X → Type 0) (f : ℕ → List X) (n i : ℕ) → All P (lists_below f n) → i < n → All P (f i)
at-lists_below P f zero i h lt = absurd (omega arith)
at-lists_below P f (suc n) i h lt = elim (last_or_below i n lt) [
  | inl e ↦ subst (λ (j : ℕ). All P (f j)) (sym e) (All-behind P (lists_below f n) (f n) h)
  | inr l ↦ at-lists_below P f n i (All-front P (lists_below f n) (f n) h) l
]
  where
    last_or_below : (k n : ℕ) → k < suc n → (k ≡ n) ⊎ (k < n)
    last_or_below k n h = grind arith

-- an element that may be there
pub All-optional : {X : Type 0} (P : X → Type 0) (test : Bool) (x : X) → (test ≡ true → P x) → All P (if test then x ∷ [] else [])
All-optional P true x h = All-cons P x [] (h refl) (All-nil P)
All-optional P false x h = All-nil P

pub at-optional : {X : Type 0} (P : X → Type 0) (test : Bool) (x : X) → test ≡ true → All P (if test then x ∷ [] else []) → P x
at-optional P test x e h = All-head P x [] (subst (λ (t : Bool). All P (if t then x ∷ [] else [])) e h)

-- ---- texts

pub flat_map-lists_below : {X : Type 0} (g : X → List ℕ) (f : ℕ → List X) (n : ℕ) → flat_map g (lists_below f n) ≡ each_below (λ i. flat_map g (f i)) n
flat_map-lists_below g f zero = refl
flat_map-lists_below g f (suc n) = flat_map-append g (lists_below f n) (f n) ∙ ap (λ (w : List ℕ). w ++ flat_map g (f n)) (flat_map-lists_below g f n)

pub flat_map-tabulate : {X : Type 0} (g : X → List ℕ) (f : ℕ → X) (n : ℕ) → flat_map g (tabulate f n) ≡ each_below (λ i. g (f i)) n
flat_map-tabulate g f zero = refl
flat_map-tabulate g f (suc n) =
    flat_map-append g (tabulate f n) (f n ∷ [])
    ∙ ap (λ (w : List ℕ). w ++ flat_map g (f n ∷ [])) (flat_map-tabulate g f n)
    ∙ ap (λ (w : List ℕ). each_below (λ i. g (f i)) n ++ w) (append-nil (g (f n)))

-- ---- sums

pub int_sum_by-lists_below : {X : Type 0} (g : X → ℤ) (f : ℕ → List X) (n : ℕ) → int_sum_by g (lists_below f n) ≡ int_sum_below (λ i. int_sum_by g (f i)) n
int_sum_by-lists_below g f zero = refl
int_sum_by-lists_below g f (suc n) = int_sum_by-append g (lists_below f n) (f n) ∙ ap (λ z. z +ℤ int_sum_by g (f n)) (int_sum_by-lists_below g f n)

pub int_sum_by-nothing : {X : Type 0} (g : X → ℤ) (xs : List X) → All (λ x. g x ≡ pos 0) xs → int_sum_by g xs ≡ pos 0
int_sum_by-nothing g [] h = refl
int_sum_by-nothing {X} g (x ∷ xs) h =
    omega (arith, additive, All-head (λ (y : X). g y ≡ pos 0) x xs h, int_sum_by-nothing g xs (All-tail (λ (y : X). g y ≡ pos 0) x xs h))
