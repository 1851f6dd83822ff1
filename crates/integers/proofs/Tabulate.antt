-- Laws of `tabulate`.
use Rattle.std.proofs.Common.{All, ◌≡◌, ℕ, zero, suc, ◌<◌, ◌≤◌, ◌⊎◌, inl, inr, List, [], ◌∷◌, ◌++◌, length, get_or, arith, refl, sym, ap, ◌∙◌, length-append}
use Rattle.std.proofs.lemmas.List.{ext_get_or, get_or_past}
use Rattle.std.proofs.lemmas.List.Elements.{All-nil, All-push}
use Rattle.integers.specs.Numbers.{tabulate}

pub length-tabulate : {X : Type 0} (f : ℕ → X) (n : ℕ) → length (tabulate f n) ≡ n
length-tabulate f zero = refl
length-tabulate f (suc n) = omega (arith, length-tabulate f n, length-append (tabulate f n) (f n ∷ []))

-- what stands in a list and one element more
before_last : {X : Type 0} (xs : List X) (x : X) (i : ℕ) (d : X) → i < length xs → get_or (xs ++ x ∷ []) i d ≡ get_or xs i d
before_last [] x i d h = absurd (omega arith)
before_last (y ∷ xs) x zero d h = refl
before_last (y ∷ xs) x (suc i) d h = before_last xs x i d (omega arith)

at_last : {X : Type 0} (xs : List X) (x d : X) → get_or (xs ++ x ∷ []) (length xs) d ≡ x
at_last [] x d = refl
at_last (y ∷ xs) x d = at_last xs x d

pub get_or-tabulate : {X : Type 0} (f : ℕ → X) (n i : ℕ) (d : X) → i < n → get_or (tabulate f n) i d ≡ f i
get_or-tabulate f zero i d h = absurd (omega arith)
get_or-tabulate f (suc n) i d h = elim (same_or_less i n h) [
  | inl e ↦ ap (λ j. get_or (tabulate f n ++ f n ∷ []) j d) (e ∙ sym (length-tabulate f n)) ∙ at_last (tabulate f n) (f n) d ∙ ap f (sym e)
  | inr l ↦ before_last (tabulate f n) (f n) i d (omega (arith, length-tabulate f n)) ∙ get_or-tabulate f n i d l
]
  where
    same_or_less : (i n : ℕ) → i < suc n → (i ≡ n) ⊎ (i < n)
    same_or_less i n h = grind arith

pub tabulate-same : {X : Type 0} (f g : ℕ → X) (n : ℕ) → ((i : ℕ) → i < n → f i ≡ g i) → tabulate f n ≡ tabulate g n
tabulate-same f g zero h = refl
tabulate-same f g (suc n) h = ap (λ xs. xs ++ f n ∷ []) (tabulate-same f g n (λ i lt. h i (omega arith))) ∙ ap (λ x. tabulate g n ++ x ∷ []) (h n (omega arith))

-- a list that has the same elements is the table
pub same-tabulate : {X : Type 0} (xs : List X) (f : ℕ → X) (n : ℕ) (d : X) → length xs ≡ n → ((i : ℕ) → i < n → get_or xs i d ≡ f i) → xs ≡ tabulate f n
same-tabulate xs f n d e h = ext_get_or d xs (tabulate f n) (omega (arith, length-tabulate f n)) (λ i lt. h i (omega arith) ∙ sym (get_or-tabulate f n i d (omega arith)))

pub get_or-nothing : (n i : ℕ) → let f : ℕ → ℕ = λ _. 0 in get_or (tabulate f n) i 0 ≡ f i
get_or-nothing n i = let f : ℕ → ℕ = λ _. 0 in elim (below_or_not i n) [
  | inl l ↦ get_or-tabulate f n i 0 l
  | inr g ↦ get_or_past (tabulate f n) i 0 (omega (arith, length-tabulate f n))
]
  where
    below_or_not : (i n : ℕ) → (i < n) ⊎ (n ≤ i)
    below_or_not i n = grind arith

pub All-tabulate : {X : Type 0} (P : X → Type 0) (f : ℕ → X) (n : ℕ) → ((i : ℕ) → i < n → P (f i)) → All P (tabulate f n)
All-tabulate P f zero h = All-nil P
All-tabulate P f (suc n) h = All-push P (tabulate f n) (f n) (All-tabulate P f n (λ i lt. h i (omega arith))) (h n (omega arith))
