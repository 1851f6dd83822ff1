-- The terms of so many variables: the same, none, one alone, one kind behind another, those of a key, and a column of a grid.
use Rattle.std.proofs.Common.{◌≡◌, ℕ, zero, suc, ◌+◌, ◌-◌, ◌*◌, ◌/◌, ◌%◌, ◌<◌, ◌≤◌, inl, inr, nat_lt, Bool, true, false}
use Rattle.std.proofs.Common.{◌==◌, if◌then◌else◌, List, [], ◌∷◌, ◌++◌, length, ℤ, pos, unsigned_abs, add-zero, add-suc, arith, refl, sym, ap, ◌∙◌, append_assoc}
use Rattle.std.proofs.lemmas.List.{append-nil}
use Rattle.std.proofs.lemmas.Nat.{div-mul-add, mod-mul-add}
use Rattle.std.proofs.lemmas.Bool.Decides.{nat_tests}
use Rattle.std.proofs.lemmas.Grind.{flat_map-append}
use Rattle.integers.specs.Numbers.{numbers_at}
use Rattle.integers.specs.Sums.{piece}
use Rattle.integers.proofs.AtKey.{same_or_other, chosen, passed}
use Rattle.row_model.specs.Catalogue.{when}
use Rattle.linear_program.specs.declared.terms.Term.{Term}
use Rattle.box_space.specs.Lines.{term_of, terms_by, terms_from, terms_at}

-- a term or none
pub length-term_of : (v : ℕ) (c : ℤ) → length (term_of v c) ≤ 1
length-term_of v c = cases (unsigned_abs c == 0)
  where
    cases : (test : Bool) → length {A = Term} (if test then [] else record { var = v; coef = c } ∷ []) ≤ 1
    cases true = omega arith
    cases false = omega arith

-- the same variables and coefficients
pub terms_by-same : (u v : ℕ → ℕ) (f g : ℕ → ℤ) (n : ℕ) → ((i : ℕ) → i < n → u i ≡ v i) → ((i : ℕ) → i < n → f i ≡ g i) → terms_by u f n ≡ terms_by v g n
terms_by-same u v f g zero e h = refl
terms_by-same u v f g (suc n) e h =
    ap (λ (ts : List Term). ts ++ term_of (u n) (f n)) (terms_by-same u v f g n (λ i lt. e i (omega arith)) (λ i lt. h i (omega arith)))
    ∙ ap (λ (w : ℕ). terms_by v g n ++ term_of w (f n)) (e n (omega arith)) ∙ ap (λ (z : ℤ). terms_by v g n ++ term_of (v n) z) (h n (omega arith))

pub terms_from-same : (first : ℕ) (f g : ℕ → ℤ) (n : ℕ) → ((i : ℕ) → i < n → f i ≡ g i) → terms_from first f n ≡ terms_from first g n
terms_from-same first f g n h = terms_by-same (λ i. first + i) (λ i. first + i) f g n (λ i lt. refl) h

-- no coefficient but 0
pub terms_by-zero : (var : ℕ → ℕ) (f : ℕ → ℤ) (n : ℕ) → ((i : ℕ) → i < n → f i ≡ pos 0) → terms_by var f n ≡ []
terms_by-zero var f zero h = refl
terms_by-zero var f (suc n) h =
    ap (λ (ts : List Term). ts ++ term_of (var n) (f n)) (terms_by-zero var f n (λ i lt. h i (omega arith))) ∙ ap (λ (z : ℤ). term_of (var n) z) (h n (omega arith))

-- one variable alone
pub terms_by-one : (var : ℕ → ℕ) (k : ℕ) (c : ℤ) (n : ℕ) → k < n → terms_by var (λ i. when i k c) n ≡ term_of (var k) c
terms_by-one var k c zero h = absurd (omega arith)
terms_by-one var k c (suc n) h = elim (same_or_other n k) [
  | inl e ↦
      ap (λ (ts : List Term). ts ++ term_of (var n) (when n k c)) (terms_by-zero var (λ i. when i k c) n (λ i lt. passed {X = ℤ} i k c (pos 0) (omega arith)))
      ∙ ap (λ (z : ℤ). term_of (var n) z) (chosen {X = ℤ} n k c (pos 0) e) ∙ ap (λ (i : ℕ). term_of (var i) c) e
  | inr d ↦
      ap (λ (ts : List Term). ts ++ term_of (var n) (when n k c)) (terms_by-one var k c n (omega arith))
      ∙ ap (λ (z : ℤ). term_of (var k) c ++ term_of (var n) z) (passed {X = ℤ} n k c (pos 0) d) ∙ append-nil (term_of (var k) c)
]

-- so many variables, and as many more
terms_by-append : (var : ℕ → ℕ) (f : ℕ → ℤ) (m k : ℕ) → terms_by var f (m + k) ≡ terms_by var f m ++ terms_by (λ i. var (m + i)) (λ i. f (m + i)) k
terms_by-append var f m zero = rw add-zero (sym (append-nil (terms_by var f m)))
terms_by-append var f m (suc k) =
    rw add-suc (
    ap (λ (ts : List Term). ts ++ term_of (var (m + k)) (f (m + k))) (terms_by-append var f m k)
    ∙ append_assoc (terms_by var f m) (terms_by (λ i. var (m + i)) (λ i. f (m + i)) k) (term_of (var (m + k)) (f (m + k)))
    )

-- one kind behind another
pub terms_from-split : (first m : ℕ) (f g : ℕ → ℤ) (k : ℕ) → terms_from first (piece m f g) (m + k) ≡ terms_from first f m ++ terms_from (first + m) g k
terms_from-split first m f g k =
    terms_by-append (λ i. first + i) (piece m f g) m k
    ∙ ap (λ (ts : List Term). ts ++ terms_by (λ i. first + (m + i)) (λ i. piece m f g (m + i)) k) (terms_from-same first (piece m f g) f m front)
    ∙ ap (λ (ts : List Term). terms_from first f m ++ ts)
    (terms_by-same (λ i. first + (m + i)) (λ i. first + m + i) (λ i. piece m f g (m + i)) g k (λ i lt. omega arith) (λ i lt. back i (m + i - m) (omega arith)))
  where
    front : (i : ℕ) → i < m → piece m f g i ≡ f i
    front i lt = grind (arith, nat_tests)

    back : (i j : ℕ) → j ≡ i → (if nat_lt (m + i) m then f (m + i) else g j) ≡ g i
    back i j e = grind (arith, nat_tests)

-- where only the variables of a key have a coefficient, their terms are all
pub terms_by-key : (var key : ℕ → ℕ) (k : ℕ) (c : ℕ → ℤ) (n : ℕ) → terms_by var (λ i. when (key i) k (c i)) n ≡ terms_at var c (numbers_at key k n)
terms_by-key var key k c zero = refl
terms_by-key var key k c (suc n) = elim (same_or_other (key n) k) [
  | inl e ↦
      ap (λ (z : ℤ). terms_by var (λ i. when (key i) k (c i)) n ++ term_of (var n) z) (chosen {X = ℤ} (key n) k (c n) (pos 0) e)
      ∙ ap (λ (ts : List Term). ts ++ term_of (var n) (c n)) (terms_by-key var key k c n)
      ∙ ap (λ (ts : List Term). terms_at var c (numbers_at key k n) ++ ts) (sym (append-nil (term_of (var n) (c n))))
      ∙ sym (flat_map-append (λ i. term_of (var i) (c i)) (numbers_at key k n) (n ∷ []))
      ∙ ap (λ (is : List ℕ). terms_at var c (numbers_at key k n ++ is)) (sym (chosen {X = List ℕ} (key n) k (n ∷ []) [] e))
  | inr d ↦
      ap (λ (z : ℤ). terms_by var (λ i. when (key i) k (c i)) n ++ term_of (var n) z) (passed {X = ℤ} (key n) k (c n) (pos 0) d)
      ∙ append-nil (terms_by var (λ i. when (key i) k (c i)) n)
      ∙ terms_by-key var key k c n
      ∙ ap (λ (is : List ℕ). terms_at var c is) (sym (append-nil (numbers_at key k n)))
      ∙ ap (λ (is : List ℕ). terms_at var c (numbers_at key k n ++ is)) (sym (passed {X = List ℕ} (key n) k (n ∷ []) [] d))
]

-- one column of a grid, row by row
abbrev pub column : (width k : ℕ) → (ℕ → ℤ) → ℕ → ℤ
column width k f i = when (i % width) k (f (i / width))

pub terms_from-column : (first width k : ℕ) (f : ℕ → ℤ) (m : ℕ) → k < width → terms_from first (column width k f) (m * width) ≡ terms_by (λ o. first + (o * width + k)) f m
terms_from-column first width k f zero lt = ap (λ (n : ℕ). terms_from first (column width k f) n) none
  where
    none : 0 * width ≡ 0
    none = omega arith
terms_from-column first width k f (suc m) lt =
    ap (λ (z : ℕ). terms_from first (column width k f) z) next
    ∙ terms_by-append (λ i. first + i) (column width k f) (m * width) width
    ∙ ap (λ (ts : List Term). ts ++ terms_by (λ i. first + (m * width + i)) (λ i. column width k f (m * width + i)) width) (terms_from-column first width k f m lt)
    ∙ ap (λ (ts : List Term). terms_by (λ o. first + (o * width + k)) f m ++ ts)
    (terms_by-same (λ i. first + (m * width + i)) (λ i. first + (m * width + i)) (λ i. column width k f (m * width + i)) (λ i. when i k (f m)) width (λ i h. refl) here
    ∙ terms_by-one (λ i. first + (m * width + i)) k (f m) width lt)
  where
    next : suc m * width ≡ m * width + width
    next = omega arith

    here : (i : ℕ) → i < width → column width k f (m * width + i) ≡ when i k (f m)
    here i h = ap (λ (r : ℕ). when r k (f ((m * width + i) / width))) (mod-mul-add m width i h) ∙ ap (λ (q : ℕ). when i k (f q)) (div-mul-add m width i h)
