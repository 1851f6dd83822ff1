-- The rows of a form, by rising number.
use Rattle.std.proofs.Common.{◌≡◌, ℕ, ◌+◌, ◌<◌, List, [], ◌∷◌, ◌++◌, map, All, Bool, true, false, IsTrue, if◌then◌else◌, add-one, refl, sym, ap, subst, ◌∙◌}
use Rattle.std.proofs.lemmas.List.{append-nil}
use Rattle.std.specs.Prelude.{filter}
use Rattle.std.proofs.lemmas.List.Elements.{filter-append, All-filter, All-map, All-head, All-tail, All-cons, All-nil}
use Rattle.integers.specs.Numbers.{tabulate}
use Rattle.integers.proofs.Tabulate.{All-tabulate}
use Rattle.pool_model.specs.Network.{Net}
use Rattle.box_space.specs.declared.coordinates.Form.{Form}
use Rattle.row_book.specs.Groups.{takes, group_of}
use Rattle.dual_rounding.specs.Programs.{has_row}

-- ---- tests over the first numbers

filter_one : (p : ℕ → Bool) (k : ℕ) (b : Bool) → p k ≡ b → filter p (k ∷ []) ≡ (if b then k ∷ [] else [])
filter_one p k b e = ap (λ (t : Bool). if t then k ∷ [] else []) e

pub passes_more : (p : ℕ → Bool) (k : ℕ) → p k ≡ true → filter p (tabulate (λ i. i) (k + 1)) ≡ filter p (tabulate (λ i. i) k) ++ k ∷ []
passes_more p k e = ap (λ m. filter p (tabulate (λ i. i) m)) (add-one k) ∙ filter-append p (tabulate (λ i. i) k) (k ∷ []) ∙ ap (λ xs. filter p (tabulate (λ i. i) k) ++ xs) (filter_one p k true e)

pub fails_more : (p : ℕ → Bool) (k : ℕ) → p k ≡ false → filter p (tabulate (λ i. i) (k + 1)) ≡ filter p (tabulate (λ i. i) k)
fails_more p k e = ap (λ m. filter p (tabulate (λ i. i) m)) (add-one k) ∙ filter-append p (tabulate (λ i. i) k) (k ∷ []) ∙ ap
    (λ xs. filter p (tabulate (λ i. i) k) ++ xs) (filter_one p k false e) ∙ append-nil (filter p (tabulate (λ i. i) k))

pub All-numbers : (p : ℕ → Bool) (n : ℕ) → All (λ i. i < n) (filter p (tabulate (λ i. i) n))
All-numbers p n = All-filter p (λ i. i < n) (tabulate (λ i. i) n) (All-tabulate (λ i. i < n) (λ i. i) n (λ i lt. lt))

-- ---- a form's rows

pub has_row-yes : (n : Net) (form : Form) (id : ℕ) → IsTrue (takes form (group_of n id)) → has_row n form id ≡ true
unfolding has_row
has_row-yes n form id h = h

off : (b : Bool) → ¬ IsTrue b → b ≡ false
off true h = absurd (h refl)
off false h = refl

pub has_row-no : (n : Net) (form : Form) (id : ℕ) → ¬ IsTrue (takes form (group_of n id)) → has_row n form id ≡ false
unfolding has_row
has_row-no n form id h = off (takes form (group_of n id)) h

-- ---- elements by what they are mapped to

pub All-unmap : {X Y : Type 0} (P : Y → Type 0) (f : X → Y) (xs : List X) → All P (map f xs) → All (λ x. P (f x)) xs
All-unmap P f [] h = All-nil (λ x. P (f x))
All-unmap P f (x ∷ xs) h = All-cons (λ x. P (f x)) x xs (All-head P (f x) (map f xs) h) (All-unmap P f xs (All-tail P (f x) (map f xs) h))

pub All-along : {X Y : Type 0} (P : Y → Type 0) (f : X → Y) (xs ys : List X) → map f xs ≡ map f ys → All (λ y. P (f y)) ys → All (λ x. P (f x)) xs
All-along P f xs ys e h = All-unmap P f xs (subst (λ (zs : List _). All P zs) (sym e) (All-map P f ys h))
