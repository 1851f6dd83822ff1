-- The parts of a proof at an end of a run: they are in order, on the form's rows, and are added up as the run's multipliers are.
use Rattle.std.proofs.Common.{◌≡◌, ◌≢◌, ◌∙◌, ℕ, ◌<◌, ◌⊎◌, inl, inr, Bool, true, false, IsTrue, if◌then◌else◌, length, get_or, All, ℤ, pos, ◌-ℤ◌, ◌*ℤ◌, ◌≤ℤ◌, ap, sym, subst, refl, arith}
use Rattle.std.specs.Int.{int_min}
use Rattle.std.proofs.Math.IntN.{*ℤ-zero, zero-*ℤ}
use Rattle.std.proofs.lemmas.Int.{ints}
use Rattle.std.proofs.lemmas.List.Elements.{All-from_get_or, All-get_or, All-weaker, filter_passes}
use Rattle.integers.specs.Numbers.{tabulate}
use Rattle.integers.specs.Sums.{int_sum_below, int_sum_by}
use Rattle.integers.proofs.ByIndex.{int_sum_below-same}
use Rattle.integers.proofs.AtKey.{same_or_other}
use Rattle.integers.proofs.Order.{same-cancel}
use Rattle.pool_model.specs.Network.{Net}
use Rattle.row_model.specs.Boxes.{Box}
use Rattle.row_model.specs.Catalogue.{Kind, at_least, equal, rows}
use Rattle.row_model.specs.Multipliers as multipliers
use Rattle.row_model.specs.Multipliers.{IsSigned, Part, Proof}
use Rattle.row_model.specs.Variables.{by_number, costs, highs, lows, variables}
use Rattle.row_book.specs.Groups.{group_of, takes}
use Rattle.row_book.specs.PartRows.{coef_at, constant_at, kind_at}
use Rattle.row_book.specs.PartSums.{AreInOrder, constants_of, rest_of}
use Rattle.row_book.proofs.FirstFaults.{number-same}
use Rattle.box_space.specs.declared.coordinates.Form.{Form}
use Rattle.dual_rounding.specs.Programs.{form_rows, has_row}
use Rattle.dual_rounding.proofs.FormRows.{All-numbers}
use Rattle.exact_num.specs.Fraction.{Fraction}
use Rattle.exact_run.specs.Programs.{Program}
use Rattle.relaxation_points.specs.Points.{IsRowOf, NamesRowsOf}
use Rattle.run_laws.specs.Multipliers as runs
use Rattle.run_laws.specs.Parts.{IsPartAt, amount_at}
use Rattle.run_laws.specs.Points as points
use Rattle.run_laws.proofs.Parts.{IsNamed, amount-one, amount-times, parts-sum}
use Rattle.tight_leaf.specs.Programs.{IsBoxProgram, row_number}
use Rattle.tight_leaf.specs.Proofs.{AreParts, IsPartOf}
use Rattle.tight_leaf.proofs.Parts.{rows-rise}

-- ---- rows of a form

row-taken : (n : Net) (form : Form) (id : ℕ) → has_row n form id ≡ true → IsTrue (takes form (group_of n id))
unfolding has_row
row-taken n form id h = h

pub row-of_form : (n : Net) (form : Form) (r : ℕ) → r < length (form_rows n form) → IsRowOf n form (row_number n form r)
row-of_form n form r lt = (
  All-get_or (λ i. i < rows n) (form_rows n form) r 0 lt (All-numbers (has_row n form) (rows n)),
  row-taken n form (row_number n form r)
      (All-get_or (λ i. has_row n form i ≡ true) (form_rows n form) r 0 lt (filter_passes (has_row n form) (tabulate (λ i. i) (rows n)))),
)

signed-by : (e : Bool) (kind : Kind) (z : ℤ) → (if e then equal else at_least) ≡ kind → (e ≡ false → pos 0 ≤ℤ z) → IsSigned kind z
signed-by true kind z h low = subst (λ (k : Kind). IsSigned k z) h tt
signed-by false kind z h low = subst (λ (k : Kind). IsSigned k z) h (low refl)

before_or_behind : (i j : ℕ) → i ≢ j → (i < j) ⊎ (j < i)
before_or_behind i j ne = grind arith

module _ (n : Net) (form : Form) (b : Box) (p : Program) (is : IsBoxProgram n form b p) (fractions : ℕ → Fraction → Type 0) (below : (r : ℕ) (x : Fraction) → fractions r x → r < p.rows)
    (one : (r : ℕ) (x y : Fraction) → fractions r x → fractions r y → x ≡ y) (times : ℕ) (some : 0 < times) (proof : Proof) (parts : AreParts n form fractions times proof) where
  -- what the parts have for each row
  abbrev pub mult : ℕ → ℤ
  mult r = amount_at (λ (q : Part). q.row) (λ (q : Part). q.mult) proof.parts (row_number n form r)

  within : (r : ℕ) → r < p.rows → r < length (form_rows n form)
  within r lt = omega (arith, lt, is.rows)

  rows-apart : (i j : ℕ) → i < p.rows → j < p.rows → row_number n form i ≡ row_number n form j → i ≡ j
  rows-apart i j hi hj e = elim (same_or_other i j) [
    | inl same ↦ same
    | inr ne ↦ elim (before_or_behind i j ne) [
      | inl lt ↦ absurd (omega (arith, e, rows-rise n form i j lt (within j hj)))
      | inr lt ↦ absurd (omega (arith, e, rows-rise n form j i lt (within i hi)))
    ]
  ]

  pub over : (r : ℕ) (x : Fraction) → fractions r x → points.IsTimes (pos times) x (mult r)
  over =
      amount-times (λ (q : Part). q.row) (λ (q : Part). q.mult) fractions (row_number n form) (pos times) (λ i j x y hi hj e. rows-apart i j (below i x hi) (below j y hj) e) one
      proof.parts record { row = 0; mult = pos 0 } parts.rising
      (All-weaker (IsPartOf n form fractions times) (IsPartAt (λ (q : Part). q.row) (λ (q : Part). q.mult) fractions (row_number n form) (pos times))
      (λ q h. record { number = h.place; fraction = h.multiplier; listed = h.listed; nonzero = h.nonzero; key_is = h.row; amount_is = h.mult }) proof.parts parts.parts)
      (λ r x h nz. let found = parts.each r x h nz in (record { row = row_number n form r; mult = found.0 }, found.2, refl))

  -- ---- sums

  named : All (λ (q : Part). IsNamed (row_number n form) p.rows q.row) proof.parts
  named = All-weaker (IsPartOf n form fractions times) (λ (q : Part). IsNamed (row_number n form) p.rows q.row) (λ q h. (h.place, below h.place h.multiplier h.listed, h.row)) proof.parts parts.parts

  by-rows : (h : ℕ → ℤ) → int_sum_by (λ (q : Part). q.mult *ℤ h q.row) proof.parts ≡ int_sum_below (λ r. mult r *ℤ h (row_number n form r)) p.rows
  by-rows h = parts-sum (λ (q : Part). q.row) (λ (q : Part). q.mult) h (row_number n form) p.rows proof.parts rows-apart named

  rest-is : (scale v : ℕ) → v < p.variables → rest_of n b scale proof.parts v ≡ runs.rest p scale mult v
  rest-is scale v lt =
      less (pos scale *ℤ by_number n (costs n) v) (pos scale *ℤ p.cost v) (int_sum_by (λ (q : Part). q.mult *ℤ coef_at n b q.row v) proof.parts)
      (int_sum_below (λ r. mult r *ℤ p.coef r v) p.rows) (ap (λ (z : ℤ). pos scale *ℤ z) (sym (is.cost v lt)))
      (by-rows (λ (id : ℕ). coef_at n b id v)
      ∙ int_sum_below-same (λ r. mult r *ℤ coef_at n b (row_number n form r) v) (λ r. mult r *ℤ p.coef r v) p.rows (λ r hr. ap (λ (z : ℤ). mult r *ℤ z) (sym (is.coef r v hr lt))))
    where
      less : (a c d e : ℤ) → a ≡ c → d ≡ e → a -ℤ d ≡ c -ℤ e
      less a c d e h k = ap (λ (z : ℤ). z -ℤ d) h ∙ ap (λ (z : ℤ). c -ℤ z) k

  pub number-is : multipliers.number n b proof ≡ runs.number p proof.scale mult
  number-is =
      number-same n b proof
      ∙ less (int_sum_below at-box (variables n)) (int_sum_below at-run p.variables) (constants_of n b proof.parts) (int_sum_below (λ r. mult r *ℤ p.constant r) p.rows)
      (ap (λ (m : ℕ). int_sum_below at-box m) (sym is.variables) ∙ int_sum_below-same at-box at-run p.variables least)
      (by-rows (constant_at n b)
      ∙ int_sum_below-same (λ r. mult r *ℤ constant_at n b (row_number n form r)) (λ r. mult r *ℤ p.constant r) p.rows (λ r hr. ap (λ (z : ℤ). mult r *ℤ z) (sym (is.constant r hr))))
    where
      less : (a c d e : ℤ) → a ≡ c → d ≡ e → a -ℤ d ≡ c -ℤ e
      less a c d e h k = ap (λ (z : ℤ). z -ℤ d) h ∙ ap (λ (z : ℤ). c -ℤ z) k

      at-box : ℕ → ℤ
      at-box v = int_min (rest_of n b proof.scale proof.parts v *ℤ by_number n (lows n b) v) (rest_of n b proof.scale proof.parts v *ℤ by_number n (highs n b) v)

      at-run : ℕ → ℤ
      at-run v = int_min (runs.rest p proof.scale mult v *ℤ p.low v) (runs.rest p proof.scale mult v *ℤ p.high v)

      ends : (a c l k h g : ℤ) → a ≡ c → l ≡ k → h ≡ g → int_min (a *ℤ l) (a *ℤ h) ≡ int_min (c *ℤ k) (c *ℤ g)
      ends a c l k h g e f i =
          ap (λ (z : ℤ). int_min (z *ℤ l) (z *ℤ h)) e ∙ ap (λ (z : ℤ). int_min (c *ℤ z) (c *ℤ h)) f ∙ ap (λ (z : ℤ). int_min (c *ℤ k) (c *ℤ z)) i

      least : (v : ℕ) → v < p.variables → at-box v ≡ at-run v
      least v lt =
          ends (rest_of n b proof.scale proof.parts v) (runs.rest p proof.scale mult v) (by_number n (lows n b) v) (p.low v) (by_number n (highs n b) v) (p.high v) (rest-is proof.scale v lt)
          (sym (is.low v lt)) (sym (is.high v lt))

  -- ---- in order

  own-amount : All (λ (q : Part). amount_at (λ (q : Part). q.row) (λ (q : Part). q.mult) proof.parts q.row ≡ q.mult) proof.parts
  own-amount =
      All-from_get_or (λ (q : Part). amount_at (λ (q : Part). q.row) (λ (q : Part). q.mult) proof.parts q.row ≡ q.mult) proof.parts record { row = 0; mult = pos 0 }
      (λ i lt. amount-one (λ (q : Part). q.row) (λ (q : Part). q.mult) proof.parts record { row = 0; mult = pos 0 } i parts.rising lt)

  pub parts-named : NamesRowsOf n form proof
  parts-named =
      All-weaker (IsPartOf n form fractions times) (λ (q : Part). IsRowOf n form q.row)
      (λ q h. subst (λ (id : ℕ). IsRowOf n form id) (sym h.row) (row-of_form n form h.place (within h.place (below h.place h.multiplier h.listed)))) proof.parts parts.parts

  pub parts-order : runs.AreSigned p mult → AreInOrder n b proof
  parts-order signs = record {
    rising = parts.rising;
    known = All-weaker (λ (q : Part). IsRowOf n form q.row) (λ (q : Part). q.row < rows n) (λ q h. h.0) proof.parts parts-named;
    nonzero = All-weaker (IsPartOf n form fractions times) (λ (q : Part). q.mult ≢ pos 0)
        (λ q h e. h.nonzero (same-cancel (pos times) h.multiplier.num (pos 0) (omega (arith, ints, some))
        (sym h.mult ∙ ap (λ (z : ℤ). z *ℤ pos h.multiplier.den) e ∙ zero-*ℤ (pos h.multiplier.den) ∙ sym (*ℤ-zero (pos times))))) proof.parts parts.parts;
    signed = λ k d lt.
        let h = parts.parts k d lt in
        let q : Part = get_or proof.parts k d in
        let there : h.place < p.rows = below h.place h.multiplier h.listed in
        let amount : mult h.place ≡ q.mult = ap (amount_at (λ (q : Part). q.row) (λ (q : Part). q.mult) proof.parts) (sym h.row) ∙ own-amount k d lt in
        signed-by (p.equal h.place) (kind_at n b q.row) q.mult (is.kind h.place there ∙ ap (kind_at n b) (sym h.row)) (λ e. subst (λ (z : ℤ). pos 0 ≤ℤ z) amount (signs h.place there e));
  }
