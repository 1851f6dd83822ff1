-- Three rising terms are those of a vector that is 0 elsewhere.
use Rattle.std.proofs.Common.{◌≡◌, ◌≢◌, ℕ, zero, suc, ◌+◌, ◌-◌, ◌<◌, ◌≤◌, List, [], ◌++◌, ℤ, pos, ◌+ℤ◌, arith, refl, sym, ap, ◌∙◌, zero-add, add-zero, add-suc}
use Rattle.std.proofs.lemmas.List.{append-nil}
use Rattle.integers.proofs.Ring.{additive}
use Rattle.integers.proofs.AtKey.{chosen, passed}
use Rattle.row_model.specs.Catalogue.{when}
use Rattle.linear_program.specs.declared.terms.Term.{Term}
use Rattle.box_space.specs.Lines.{term_of, terms_from}
use Rattle.box_space.proofs.TermLists.{terms_from-same}
use Rattle.mccormick.specs.Coefs.{three_coefs}

-- nothing more behind a number
gap : (f : ℕ → ℤ) (m k : ℕ) → ((v : ℕ) → m ≤ v → v < m + k → f v ≡ pos 0) → terms_from 0 f (m + k) ≡ terms_from 0 f m
gap f m zero h = rw add-zero refl
gap f m (suc k) h = rw add-suc (
    ap (λ (ts : List Term). ts ++ term_of (0 + (m + k)) (f (m + k))) (gap f m k (λ v a b. h v a (omega arith)))
    ∙ ap (λ (z : ℤ). terms_from 0 f m ++ term_of (0 + (m + k)) z) (h (m + k) (omega arith) (omega arith)) ∙ append-nil (terms_from 0 f m)
    )

-- one term, and nothing up to it from another number on
step : (f : ℕ → ℤ) (m x : ℕ) → m ≤ x → ((v : ℕ) → m ≤ v → v < x → f v ≡ pos 0) → terms_from 0 f (suc x) ≡ terms_from 0 f m ++ term_of x (f x)
step f m x le h =
    let whole : m + (x - m) ≡ x = omega arith in
    ap (λ (ts : List Term). ts ++ term_of (0 + x) (f x)) (ap (λ (k : ℕ). terms_from 0 f k) (sym whole) ∙ gap f m (x - m) (λ v a b. h v a (omega arith)))
    ∙ ap (λ (u : ℕ). terms_from 0 f m ++ term_of u (f x)) (zero-add x)

three_terms : (f : ℕ → ℤ) (x y z n : ℕ) → x < y → y < z → z < n → ((v : ℕ) → v ≢ x → v ≢ y → v ≢ z → f v ≡ pos 0)
    → terms_from 0 f n ≡ term_of x (f x) ++ term_of y (f y) ++ term_of z (f z)
three_terms f x y z n xy yz zn h =
    let whole : suc z + (n - suc z) ≡ n = omega arith in
    let last : (v : ℕ) → suc z ≤ v → v < suc z + (n - suc z) → f v ≡ pos 0 = λ v a b. h v (omega arith) (omega arith) (omega arith) in
    ap (λ (k : ℕ). terms_from 0 f k) (sym whole) ∙ gap f (suc z) (n - suc z) last
    ∙ step f (suc y) z (omega arith) (λ v a b. h v (omega arith) (omega arith) (omega arith))
    ∙ ap (λ (ts : List Term). ts ++ term_of z (f z)) (step f (suc x) y (omega arith) (λ v a b. h v (omega arith) (omega arith) (omega arith))
    ∙ ap (λ (ts : List Term). ts ++ term_of y (f y)) (step f 0 x (omega arith) (λ v a b. h v (omega arith) (omega arith) (omega arith))))

-- the coefficients at the three variables and elsewhere
at_first : (x y z : Term) → x.var ≢ y.var → x.var ≢ z.var → three_coefs x y z x.var ≡ x.coef
at_first x y z a b = omega (arith, additive, chosen {X = ℤ} x.var x.var x.coef (pos 0) refl, passed {X = ℤ} x.var y.var y.coef (pos 0) a, passed {X = ℤ} x.var z.var z.coef (pos 0) b)

at_second : (x y z : Term) → y.var ≢ x.var → y.var ≢ z.var → three_coefs x y z y.var ≡ y.coef
at_second x y z a b = omega (arith, additive, passed {X = ℤ} y.var x.var x.coef (pos 0) a, chosen {X = ℤ} y.var y.var y.coef (pos 0) refl, passed {X = ℤ} y.var z.var z.coef (pos 0) b)

at_third : (x y z : Term) → z.var ≢ x.var → z.var ≢ y.var → three_coefs x y z z.var ≡ z.coef
at_third x y z a b = omega (arith, additive, passed {X = ℤ} z.var x.var x.coef (pos 0) a, passed {X = ℤ} z.var y.var y.coef (pos 0) b, chosen {X = ℤ} z.var z.var z.coef (pos 0) refl)

elsewhere : (x y z : Term) (v : ℕ) → v ≢ x.var → v ≢ y.var → v ≢ z.var → three_coefs x y z v ≡ pos 0
elsewhere x y z v a b c = omega (arith, additive, passed {X = ℤ} v x.var x.coef (pos 0) a, passed {X = ℤ} v y.var y.coef (pos 0) b, passed {X = ℤ} v z.var z.coef (pos 0) c)

pub rising : (x y z : Term) (n : ℕ) → x.var < y.var → y.var < z.var → z.var < n
    → [] ++ term_of x.var x.coef ++ term_of y.var y.coef ++ term_of z.var z.coef ≡ terms_from 0 (three_coefs x y z) n
rising x y z n xy yz zn =
    let f = three_coefs x y z in
    ap (λ (c : ℤ). term_of x.var c ++ term_of y.var y.coef ++ term_of z.var z.coef) (sym (at_first x y z (omega arith) (omega arith)))
    ∙ ap (λ (c : ℤ). term_of x.var (f x.var) ++ term_of y.var c ++ term_of z.var z.coef) (sym (at_second x y z (omega arith) (omega arith)))
    ∙ ap (λ (c : ℤ). term_of x.var (f x.var) ++ term_of y.var (f y.var) ++ term_of z.var c) (sym (at_third x y z (omega arith) (omega arith)))
    ∙ sym (three_terms f x.var y.var z.var n xy yz zn (elsewhere x y z))

-- the same terms in another order
pub turned : (x y z : Term) (n : ℕ) → terms_from 0 (three_coefs z x y) n ≡ terms_from 0 (three_coefs x y z) n
turned x y z n = terms_from-same 0 (three_coefs z x y) (three_coefs x y z) n (λ v lt. shuffled (when v z.var z.coef) (when v x.var x.coef) (when v y.var y.coef))
  where
    shuffled : (a b c : ℤ) → a +ℤ b +ℤ c ≡ b +ℤ c +ℤ a
    shuffled a b c = omega (arith, additive)

pub inner : (x y z : Term) (n : ℕ) → terms_from 0 (three_coefs x z y) n ≡ terms_from 0 (three_coefs x y z) n
inner x y z n = terms_from-same 0 (three_coefs x z y) (three_coefs x y z) n (λ v lt. shuffled (when v x.var x.coef) (when v z.var z.coef) (when v y.var y.coef))
  where
    shuffled : (a b c : ℤ) → a +ℤ b +ℤ c ≡ a +ℤ c +ℤ b
    shuffled a b c = omega (arith, additive)

pub swapped : (x y z : Term) (n : ℕ) → terms_from 0 (three_coefs y x z) n ≡ terms_from 0 (three_coefs x y z) n
swapped x y z n = terms_from-same 0 (three_coefs y x z) (three_coefs x y z) n (λ v lt. shuffled (when v y.var y.coef) (when v x.var x.coef) (when v z.var z.coef))
  where
    shuffled : (a b c : ℤ) → a +ℤ b +ℤ c ≡ b +ℤ a +ℤ c
    shuffled a b c = omega (arith, additive)
