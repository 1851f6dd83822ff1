-- Rows that are written by rising number: their terms name each variable once.
use Rattle.std.proofs.Common.{◌≡◌, ℕ, zero, suc, ◌+◌, ◌*◌, ◌<◌, ◌≤◌, [], ◌∷◌, inl, inr, All, ℤ, pos, unsigned_abs, ◌==◌, if◌then◌else◌, zero-add, arith, refl, sym, ap, subst, ◌∙◌}
use Rattle.std.specs.List.{sum_by}
use Rattle.std.proofs.lemmas.Int.{ints}
use Rattle.std.proofs.lemmas.List.Elements.{All-append}
use Rattle.std.proofs.lemmas.List.Sums.{sum_by-append}
use Rattle.integers.specs.Sums.{int_sum_by, sum_below}
use Rattle.integers.proofs.Ring.{additive}
use Rattle.integers.proofs.AtKey.{same_or_other, chosen, passed}
use Rattle.integers.proofs.ByList.{int_sum_by-append}
use Rattle.box_space.specs.Lines.{term_of, terms_from}
use Rattle.linear_program.specs.declared.terms.Term.{Term}
use Rattle.row_book.specs.Sizes.{coef_in, size_in}

-- ---- one variable

no_size : (c : ℤ) → unsigned_abs c ≡ 0 → c ≡ pos 0
no_size c e = omega (arith, ints)

term_of-all : (P : Term → Type 0) (v : ℕ) (c : ℤ) → P record { var = v; coef = c } → All P (term_of v c)
term_of-all P v c p = elim (same_or_other (unsigned_abs c) 0) [
  | inl e ↦ subst (λ ts. All P ts) (sym (chosen (unsigned_abs c) 0 [] (record { var = v; coef = c } ∷ []) e)) (none P)
  | inr d ↦ subst (λ ts. All P ts) (sym (passed (unsigned_abs c) 0 [] (record { var = v; coef = c } ∷ []) d)) (one P record { var = v; coef = c } p)
]
  where
    none : (P : Term → Type 0) → All P []
    none P i d lt = absurd (omega arith)

    one : (P : Term → Type 0) (t : Term) → P t → All P (t ∷ [])
    one P t p zero d lt = p
    one P t p (suc i) d lt = absurd (omega arith)

term_of-int_sum : (g : Term → ℤ) (v : ℕ) (c : ℤ) → g record { var = v; coef = pos 0 } ≡ pos 0 → int_sum_by g (term_of v c) ≡ g record { var = v; coef = c }
term_of-int_sum g v c zero_is = elim (same_or_other (unsigned_abs c) 0) [
  | inl e ↦ ap (int_sum_by g) (chosen (unsigned_abs c) 0 [] (record { var = v; coef = c } ∷ []) e) ∙ sym (ap (λ z. g record { var = v; coef = z }) (no_size c e) ∙ zero_is)
  | inr d ↦ ap (int_sum_by g) (passed (unsigned_abs c) 0 [] (record { var = v; coef = c } ∷ []) d) ∙ omega (arith, additive)
]

term_of-sum : (g : Term → ℕ) (v : ℕ) (c : ℤ) → g record { var = v; coef = pos 0 } ≡ 0 → sum_by g (term_of v c) ≡ g record { var = v; coef = c }
term_of-sum g v c zero_is = elim (same_or_other (unsigned_abs c) 0) [
  | inl e ↦ ap (sum_by g) (chosen (unsigned_abs c) 0 [] (record { var = v; coef = c } ∷ []) e) ∙ sym (ap (λ z. g record { var = v; coef = z }) (no_size c e) ∙ zero_is)
  | inr d ↦ ap (sum_by g) (passed (unsigned_abs c) 0 [] (record { var = v; coef = c } ∷ []) d) ∙ omega arith
]

-- ---- all variables

all_terms : (P : Term → Type 0) (first : ℕ) (f : ℕ → ℤ) (n : ℕ) → ((i : ℕ) → i < n → P record { var = first + i; coef = f i }) → All P (terms_from first f n)
all_terms P first f zero h = λ i d lt. absurd (omega arith)
all_terms P first f (suc n) h =
    All-append P (terms_from first f n) (term_of (first + n) (f n)) (all_terms P first f n (λ i lt. h i (omega arith))) (term_of-all P (first + n) (f n) (h n (omega arith)))

pub terms-known : (f : ℕ → ℤ) (n : ℕ) → All (λ t. t.var < n) (terms_from 0 f n)
terms-known f n = all_terms (λ t. t.var < n) 0 f n (λ i lt. omega (arith, zero-add i))

pub terms-small : (f : ℕ → ℤ) (n size : ℕ) → ((i : ℕ) → i < n → unsigned_abs (f i) < size) → All (λ t. unsigned_abs t.coef < size) (terms_from 0 f n)
terms-small f n size h = all_terms (λ t. unsigned_abs t.coef < size) 0 f n h

-- the coefficient of a variable, and that of one behind the last
coef_in-past : (first : ℕ) (f : ℕ → ℤ) (n v : ℕ) → n ≤ v → coef_in (terms_from first f n) (first + v) ≡ pos 0
coef_in-past first f zero v h = refl
coef_in-past first f (suc n) v h =
    let g = λ (t : Term). if t.var == first + v then t.coef else pos 0 in
    omega (
      arith,
      additive,
      int_sum_by-append g (terms_from first f n) (term_of (first + n) (f n)),
      coef_in-past first f n v (omega arith),
      term_of-int_sum g (first + n) (f n) (passed (first + n) (first + v) (pos 0) (pos 0) (omega arith)),
      passed (first + n) (first + v) (f n) (pos 0) (omega arith),
    )

coef_in-at : (first : ℕ) (f : ℕ → ℤ) (n v : ℕ) → v < n → coef_in (terms_from first f n) (first + v) ≡ f v
coef_in-at first f zero v h = absurd (omega arith)
coef_in-at first f (suc n) v h =
    let g = λ (t : Term). if t.var == first + v then t.coef else pos 0 in
    elim (same_or_other n v) [
      | inl e ↦ omega (
        arith,
        additive,
        int_sum_by-append g (terms_from first f n) (term_of (first + n) (f n)),
        coef_in-past first f n v (omega arith),
        term_of-int_sum g (first + n) (f n) (chosen (first + n) (first + v) (pos 0) (pos 0) (omega arith)),
        chosen (first + n) (first + v) (f n) (pos 0) (omega arith),
        ap f e,
      )
      | inr d ↦ omega (
        arith,
        additive,
        int_sum_by-append g (terms_from first f n) (term_of (first + n) (f n)),
        coef_in-at first f n v (omega arith),
        term_of-int_sum g (first + n) (f n) (passed (first + n) (first + v) (pos 0) (pos 0) (omega arith)),
        passed (first + n) (first + v) (f n) (pos 0) (omega arith),
      )
    ]

size_in-past : (first : ℕ) (f : ℕ → ℤ) (n v : ℕ) → n ≤ v → size_in (terms_from first f n) (first + v) ≡ 0
size_in-past first f zero v h = refl
size_in-past first f (suc n) v h =
    let g = λ (t : Term). if t.var == first + v then unsigned_abs t.coef else 0 in
    omega (
      arith,
      sum_by-append g (terms_from first f n) (term_of (first + n) (f n)),
      size_in-past first f n v (omega arith),
      term_of-sum g (first + n) (f n) (passed (first + n) (first + v) 0 0 (omega arith)),
      passed (first + n) (first + v) (unsigned_abs (f n)) 0 (omega arith),
    )

size_in-at : (first : ℕ) (f : ℕ → ℤ) (n v : ℕ) → v < n → size_in (terms_from first f n) (first + v) ≡ unsigned_abs (f v)
size_in-at first f zero v h = absurd (omega arith)
size_in-at first f (suc n) v h =
    let g = λ (t : Term). if t.var == first + v then unsigned_abs t.coef else 0 in
    elim (same_or_other n v) [
      | inl e ↦ omega (
        arith,
        sum_by-append g (terms_from first f n) (term_of (first + n) (f n)),
        size_in-past first f n v (omega arith),
        term_of-sum g (first + n) (f n) (chosen (first + n) (first + v) 0 0 (omega arith)),
        chosen (first + n) (first + v) (unsigned_abs (f n)) 0 (omega arith),
        ap (λ i. unsigned_abs (f i)) e,
      )
      | inr d ↦ omega (
        arith,
        sum_by-append g (terms_from first f n) (term_of (first + n) (f n)),
        size_in-at first f n v (omega arith),
        term_of-sum g (first + n) (f n) (passed (first + n) (first + v) 0 0 (omega arith)),
        passed (first + n) (first + v) (unsigned_abs (f n)) 0 (omega arith),
      )
    ]

pub coef_in-terms : (f : ℕ → ℤ) (n v : ℕ) → v < n → coef_in (terms_from 0 f n) v ≡ f v
coef_in-terms f n v h = ap (coef_in (terms_from 0 f n)) (sym (zero-add v)) ∙ coef_in-at 0 f n v h

pub size_in-terms : (f : ℕ → ℤ) (n v : ℕ) → v < n → size_in (terms_from 0 f n) v ≡ unsigned_abs (f v)
size_in-terms f n v h = ap (size_in (terms_from 0 f n)) (sym (zero-add v)) ∙ size_in-at 0 f n v h

-- what terms weigh
weight_from : (first m : ℕ) (f : ℕ → ℤ) (e : ℕ → ℕ) (n : ℕ) → sum_by (λ t. m * unsigned_abs t.coef * e t.var) (terms_from first f n) ≡ sum_below (λ i. m * unsigned_abs (f i) * e (first + i)) n
weight_from first m f e zero = refl
weight_from first m f e (suc n) =
    let g = λ (t : Term). m * unsigned_abs t.coef * e t.var in
    omega (
      arith,
      sum_by-append g (terms_from first f n) (term_of (first + n) (f n)),
      weight_from first m f e n,
      term_of-sum g (first + n) (f n) (omega arith),
    )

pub weight-terms : (m : ℕ) (f : ℕ → ℤ) (e : ℕ → ℕ) (n : ℕ) → sum_by (λ t. m * unsigned_abs t.coef * e t.var) (terms_from 0 f n) ≡ sum_below (λ i. m * unsigned_abs (f i) * e i) n
weight-terms m f e n = weight_from 0 m f e n ∙ same (λ i. m * unsigned_abs (f i) * e (0 + i)) (λ i. m * unsigned_abs (f i) * e i) n (λ i. ap (λ k. m * unsigned_abs (f i) * e k) (zero-add i))
  where
    same : (f g : ℕ → ℕ) (n : ℕ) → ((i : ℕ) → f i ≡ g i) → sum_below f n ≡ sum_below g n
    same f g zero h = refl
    same f g (suc n) h = omega (arith, h n, same f g n h)
