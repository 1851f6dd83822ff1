-- Points of the program of a box, in the words of the catalogue.
use Rattle.std.proofs.Common.{◌≡◌, ℕ, zero, suc, ◌<◌, ◌∙◌, Bool, true, false, cond, if◌then◌else◌, List, [], ◌∷◌, length, ℤ, pos, ◌+ℤ◌, ◌*ℤ◌, ◌≤ℤ◌, sym, ap, subst, refl, arith}
use Rattle.std.specs.Prelude.{filter}
use Rattle.std.specs.List.{Contains}
use Rattle.std.proofs.lemmas.List.{get_or_default}
use Rattle.integers.specs.Numbers.{tabulate}
use Rattle.integers.specs.Sums.{int_sum_below}
use Rattle.integers.proofs.ByIndex.{int_sum_below-same}
use Rattle.integers.proofs.Tabulate.{get_or-tabulate, length-tabulate}
use Rattle.pool_model.specs.Network.{Net}
use Rattle.row_model.specs.Boxes.{Box}
use Rattle.row_model.specs.Catalogue.{Kind, at_least, equal, rows}
use Rattle.row_model.specs.Lift.{IsMet}
use Rattle.row_model.specs.Variables.{variables, by_number, costs}
use Rattle.box_space.specs.declared.coordinates.Form.{Form}
use Rattle.row_book.specs.PartRows.{coef_at, kind_at}
use Rattle.dual_rounding.specs.Programs.{form_rows, has_row}
use Rattle.dual_rounding.proofs.FormRows.{has_row-yes}
use Rattle.exact_run.specs.Programs.{Program}
use Rattle.relaxation_points.specs.Points.{IsRowOf, Meets, Point, cost_value, row_value}
use Rattle.tight_leaf.specs.Programs.{IsBoxProgram, row_number}

-- ---- a row of the form stands at a place

Contains-filter : (p : ℕ → Bool) (xs : List ℕ) (x : ℕ) → p x ≡ true → Contains xs x → Contains (filter p xs) x
Contains-filter p [] x passes (k, lt, is) = absurd (omega arith)
Contains-filter p (y ∷ ys) x passes (zero, lt, is) =
    subst (λ (b : Bool). Contains (cond b (y ∷ filter p ys) (filter p ys)) x) (sym (ap p is ∙ passes)) (0, omega arith, is)
Contains-filter p (y ∷ ys) x passes (suc k, lt, is) = later (p y) (Contains-filter p ys x passes (k, omega arith, is))
  where
    later : (b : Bool) → Contains (filter p ys) x → Contains (cond b (y ∷ filter p ys) (filter p ys)) x
    later true h = (suc h.0, omega (arith, h.1), h.2)
    later false h = h

pub row-place : (n : Net) (form : Form) (id : ℕ) → IsRowOf n form id → (r : ℕ) × (r < length (form_rows n form)) × (row_number n form r ≡ id)
row-place n form id h =
    let c = Contains-filter (has_row n form) (tabulate (λ i. i) (rows n)) id (has_row-yes n form id h.1)
    (id, omega (arith, h.0, length-tabulate (λ i. i) (rows n)), get_or-tabulate (λ i. i) (rows n) id id h.0) in
    (c.0, c.1, get_or_default (form_rows n form) c.0 0 id c.1 ∙ c.2)

-- ---- a point of the program meets the box

module _ (n : Net) (form : Form) (b : Box) (p : Program) (is : IsBoxProgram n form b p) (q : Point) where
  pub row-value : (r : ℕ) → r < p.rows → int_sum_below (λ v. p.coef r v *ℤ q.value v) p.variables +ℤ p.constant r *ℤ pos q.base ≡ row_value n b q (row_number n form r)
  row-value r lt =
      let id = row_number n form r in
      ap (λ (z : ℤ). z +ℤ p.constant r *ℤ pos q.base)
      (int_sum_below-same (λ v. p.coef r v *ℤ q.value v) (λ v. coef_at n b id v *ℤ q.value v) p.variables (λ v hv. ap (λ (z : ℤ). z *ℤ q.value v) (is.coef r v lt hv))
      ∙ ap (λ (m : ℕ). int_sum_below (λ v. coef_at n b id v *ℤ q.value v) m) is.variables)
      ∙ ap (λ (z : ℤ). int_sum_below (λ v. coef_at n b id v *ℤ q.value v) (variables n) +ℤ z *ℤ pos q.base) (is.constant r lt)

  pub cost-value : int_sum_below (λ v. p.cost v *ℤ q.value v) p.variables ≡ cost_value n q
  cost-value =
      int_sum_below-same (λ v. p.cost v *ℤ q.value v) (λ v. by_number n (costs n) v *ℤ q.value v) p.variables (λ v hv. ap (λ (z : ℤ). z *ℤ q.value v) (is.cost v hv))
      ∙ ap (λ (m : ℕ). int_sum_below (λ v. by_number n (costs n) v *ℤ q.value v) m) is.variables

  met-by : (e : Bool) (kind : Kind) (z : ℤ) → (if e then equal else at_least) ≡ kind → (e ≡ false → pos 0 ≤ℤ z) → (e ≡ true → z ≡ pos 0) → IsMet kind z
  met-by true kind z h low same = subst (λ (k : Kind). IsMet k z) h (same refl)
  met-by false kind z h low same = subst (λ (k : Kind). IsMet k z) h (low refl)

  -- where each value lies between its variable's ends, and each of the program's rows holds
  pub meets-box : 0 < q.base → ((v : ℕ) → v < p.variables → (p.low v *ℤ pos q.base) ≤ℤ q.value v) → ((v : ℕ) → v < p.variables → q.value v ≤ℤ (p.high v *ℤ pos q.base))
      → ((r : ℕ) → r < p.rows → p.equal r ≡ false → pos 0 ≤ℤ (int_sum_below (λ v. p.coef r v *ℤ q.value v) p.variables +ℤ p.constant r *ℤ pos q.base))
      → ((r : ℕ) → r < p.rows → p.equal r ≡ true → int_sum_below (λ v. p.coef r v *ℤ q.value v) p.variables +ℤ p.constant r *ℤ pos q.base ≡ pos 0)
      → Meets n form b q
  meets-box positive low high above same = record {
    base = positive;
    ends = λ v lt.
        let hv : v < p.variables = omega (arith, lt, is.variables) in
        record {
          low = subst (λ (z : ℤ). (z *ℤ pos q.base) ≤ℤ q.value v) (is.low v hv) (low v hv);
          high = subst (λ (z : ℤ). q.value v ≤ℤ (z *ℤ pos q.base)) (is.high v hv) (high v hv);
        };
    rows = λ id h.
        let w = row-place n form id h in
        let lt : w.0 < p.rows = omega (arith, w.1, is.rows) in
        subst (λ (i : ℕ). IsMet (kind_at n b i) (row_value n b q i)) w.2
        (met-by (p.equal w.0) (kind_at n b (row_number n form w.0)) (row_value n b q (row_number n form w.0)) (is.kind w.0 lt)
        (λ e. subst (λ (z : ℤ). pos 0 ≤ℤ z) (row-value w.0 lt) (above w.0 lt e))
        (λ e. sym (row-value w.0 lt) ∙ same w.0 lt e));
  }
