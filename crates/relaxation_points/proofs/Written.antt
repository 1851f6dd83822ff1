-- Rows that are written by rising number: their sums at a point are the catalogue's.
use Rattle.std.proofs.Common.{◌≡◌, ℕ, zero, suc, ◌+◌, ◌*◌, [], ◌∷◌, inl, inr, ℤ, pos, ◌+ℤ◌, ◌*ℤ◌, unsigned_abs, zero-add, arith, refl, sym, ap, ◌∙◌}
use Rattle.std.specs.List.{sum_by}
use Rattle.std.proofs.Math.IntN.{zero-*ℤ}
use Rattle.std.proofs.lemmas.Int.{ints}
use Rattle.std.proofs.lemmas.List.Sums.{sum_by-append}
use Rattle.integers.specs.Sums.{int_sum_by, int_sum_below, sum_below}
use Rattle.integers.proofs.Ring.{additive}
use Rattle.integers.proofs.AtKey.{same_or_other, chosen, passed, sum_below-same}
use Rattle.integers.proofs.ByIndex.{int_sum_below-same}
use Rattle.integers.proofs.ByList.{int_sum_by-append}
use Rattle.box_space.specs.Lines.{Line, term_of, terms_from}
use Rattle.pool_model.specs.Network.{Net}
use Rattle.row_model.specs.Boxes.{Box}
use Rattle.row_model.specs.Variables.{variables}
use Rattle.row_book.specs.PartRows.{coef_at, IsRow}
use Rattle.linear_program.specs.declared.terms.Term.{Term}
use Rattle.relaxation_points.specs.Points.{Point, row_value, row_weight}
use Rattle.relaxation_points.specs.Lines.{line_value, line_weight}

no_size : (c : ℤ) → unsigned_abs c ≡ 0 → c ≡ pos 0
no_size c e = omega (arith, ints)

term-value : (g : Term → ℤ) (v : ℕ) (c : ℤ) → g record { var = v; coef = pos 0 } ≡ pos 0 → int_sum_by g (term_of v c) ≡ g record { var = v; coef = c }
term-value g v c zero_is = elim (same_or_other (unsigned_abs c) 0) [
  | inl e ↦ ap (int_sum_by g) (chosen (unsigned_abs c) 0 [] (record { var = v; coef = c } ∷ []) e) ∙ sym (ap (λ z. g record { var = v; coef = z }) (no_size c e) ∙ zero_is)
  | inr d ↦ ap (int_sum_by g) (passed (unsigned_abs c) 0 [] (record { var = v; coef = c } ∷ []) d) ∙ omega (arith, additive)
]

values-from : (first : ℕ) (f e : ℕ → ℤ) (n : ℕ) → int_sum_by (λ t. t.coef *ℤ e t.var) (terms_from first f n) ≡ int_sum_below (λ i. f i *ℤ e (first + i)) n
values-from first f e zero = refl
values-from first f e (suc n) =
    let g = λ (t : Term). t.coef *ℤ e t.var in
    omega (
      arith,
      additive,
      int_sum_by-append g (terms_from first f n) (term_of (first + n) (f n)),
      values-from first f e n,
      term-value g (first + n) (f n) (zero-*ℤ (e (first + n))),
    )

-- the sum of a row's terms at values
terms-sum : (f e : ℕ → ℤ) (n : ℕ) → int_sum_by (λ t. t.coef *ℤ e t.var) (terms_from 0 f n) ≡ int_sum_below (λ i. f i *ℤ e i) n
terms-sum f e n = values-from 0 f e n ∙ int_sum_below-same (λ i. f i *ℤ e (0 + i)) (λ i. f i *ℤ e i) n (λ i lt. ap (λ k. f i *ℤ e k) (zero-add i))

term-size : (g : Term → ℕ) (v : ℕ) (c : ℤ) → g record { var = v; coef = pos 0 } ≡ 0 → sum_by g (term_of v c) ≡ g record { var = v; coef = c }
term-size g v c zero_is = elim (same_or_other (unsigned_abs c) 0) [
  | inl e ↦ ap (sum_by g) (chosen (unsigned_abs c) 0 [] (record { var = v; coef = c } ∷ []) e) ∙ sym (ap (λ z. g record { var = v; coef = z }) (no_size c e) ∙ zero_is)
  | inr d ↦ ap (sum_by g) (passed (unsigned_abs c) 0 [] (record { var = v; coef = c } ∷ []) d) ∙ omega arith
]

sizes-from : (first : ℕ) (f : ℕ → ℤ) (e : ℕ → ℕ) (n : ℕ) → sum_by (λ t. unsigned_abs t.coef * e t.var) (terms_from first f n) ≡ sum_below (λ i. unsigned_abs (f i) * e (first + i)) n
sizes-from first f e zero = refl
sizes-from first f e (suc n) =
    let g = λ (t : Term). unsigned_abs t.coef * e t.var in
    omega (
      arith,
      sum_by-append g (terms_from first f n) (term_of (first + n) (f n)),
      sizes-from first f e n,
      term-size g (first + n) (f n) (omega arith),
    )

terms-size : (f : ℕ → ℤ) (e : ℕ → ℕ) (n : ℕ) → sum_by (λ t. unsigned_abs t.coef * e t.var) (terms_from 0 f n) ≡ sum_below (λ i. unsigned_abs (f i) * e i) n
terms-size f e n = sizes-from 0 f e n ∙ sum_below-same (λ i. unsigned_abs (f i) * e (0 + i)) (λ i. unsigned_abs (f i) * e i) n (λ i lt. ap (λ k. unsigned_abs (f i) * e k) (zero-add i))

-- a written row's sums are the row's
pub value-written : (n : Net) (b : Box) (id : ℕ) (line : Line) (p : Point) → IsRow n b id line → line_value line p ≡ row_value n b p id
value-written n b id line p r =
    ap (λ ts. int_sum_by (λ t. t.coef *ℤ p.value t.var) ts +ℤ line.constant *ℤ pos p.base) r.terms
    ∙ ap (λ z. z +ℤ line.constant *ℤ pos p.base) (terms-sum (coef_at n b id) p.value (variables n))
    ∙ ap (λ z. int_sum_below (λ i. coef_at n b id i *ℤ p.value i) (variables n) +ℤ z *ℤ pos p.base) r.constant

pub weight-written : (n : Net) (b : Box) (id : ℕ) (line : Line) (p : Point) → IsRow n b id line → line_weight line p ≡ row_weight n b p id
weight-written n b id line p r =
    ap (λ ts. sum_by (λ t. unsigned_abs t.coef * unsigned_abs (p.value t.var)) ts + unsigned_abs line.constant * p.base) r.terms
    ∙ ap (λ z. z + unsigned_abs line.constant * p.base) (terms-size (coef_at n b id) (λ i. unsigned_abs (p.value i)) (variables n))
    ∙ ap (λ z. sum_below (λ i. unsigned_abs (coef_at n b id i) * unsigned_abs (p.value i)) (variables n) + unsigned_abs z * p.base) r.constant
