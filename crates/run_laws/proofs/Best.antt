-- Weak duality: what multipliers are added up to is at most what a point costs that meets the program.
use Rattle.std.proofs.Common.{◌≡◌, ◌∙◌, sym, ap, subst, ℕ, ◌<◌, inl, inr, Bool, true, false, ℤ, pos, negsuc, neg_ℤ, ◌+ℤ◌, ◌-ℤ◌, ◌*ℤ◌, ◌≤ℤ◌, ◌<ℤ◌, unsigned_abs, arith, refl}
use Rattle.std.specs.Int.{int_min}
use Rattle.std.proofs.Math.IntN.{neg_ℤ-neg_ℤ, *ℤ-zero, zero-*ℤ}
use Rattle.integers.specs.Sums.{int_sum_below}
use Rattle.integers.proofs.Ring.{additive, sorted, linear}
use Rattle.integers.proofs.Order.{le_trans_ℤ, nonneg-mul, pos-mul, le-cancel, le-mul, min-le-mul_over}
use Rattle.integers.proofs.ByIndex.{int_sum_below-add, int_sum_below-mul_right, int_sum_below-le, int_sum_below-zero}
use Rattle.integers.proofs.AtKey.{same_or_other}
use Rattle.exact_num.specs.Fraction.{Fraction, negative_of}
use Rattle.exact_num.proofs.Signs.{positive_is}
use Rattle.exact_run.specs.Operations.{whole}
use Rattle.exact_run.specs.Programs.{Program, row_column}
use Rattle.exact_run.specs.States.{State}
use Rattle.exact_run.specs.Runs.{Reaches, IsEmpty, turned_for}
use Rattle.exact_run.specs.declared.ends.End.{End}
use Rattle.exact_run.specs.declared.ends.End.TheVariants.{Low, High}
use Rattle.run_laws.specs.Points.{IsProper, IsTimes, AreValuesOver, Meets, row_value, cost_value}
use Rattle.run_laws.specs.Multipliers.{AreSolvedOver, AreEmptyOver, AreSigned, rest, number}
use Rattle.run_laws.proofs.Times.{positive}
use Rattle.run_laws.proofs.Sums.{dot}
use Rattle.run_laws.proofs.Reached.{IsKept, reached, placed}
use Rattle.run_laws.proofs.Points.{le-right}
use Rattle.run_laws.proofs.Weighing.{rests-sum}
use Rattle.run_laws.proofs.Solved.{mult-signed, number-is}
use Rattle.run_laws.proofs.Empty.{against, against-times, against-nothing, empty-signed, empty-number}

-- ---- one point

part-met : (b : Bool) (m z : ℤ) → (b ≡ false → pos 0 ≤ℤ m) → (b ≡ false → pos 0 ≤ℤ z) → (b ≡ true → z ≡ pos 0) → pos 0 ≤ℤ (m *ℤ z)
part-met true m z sign above none = omega (arith, additive, ap (λ (y : ℤ). m *ℤ y) (none refl), *ℤ-zero m)
part-met false m z sign above none = nonneg-mul m z (sign refl) (above refl)

pub number-at_most : (p : Program) (scale : ℕ) (mult : ℕ → ℤ) (base : ℕ) (values : ℕ → ℤ) → AreSigned p mult → Meets p base values
    → (number p scale mult *ℤ pos base) ≤ℤ (pos scale *ℤ cost_value p values)
number-at_most p scale mult base values signed meets =
    let least = λ (v : ℕ). int_min (rest p scale mult v *ℤ p.low v) (rest p scale mult v *ℤ p.high v) in
    let dots = λ (r : ℕ). mult r *ℤ dot p.variables (p.coef r) values in
    let constants = λ (r : ℕ). mult r *ℤ p.constant r in
    omega (
      arith,
      additive,
      difference (int_sum_below least p.variables) (int_sum_below constants p.rows) (pos base),
      int_sum_below-mul_right least (pos base) p.variables,
      int_sum_below-le (λ v. least v *ℤ pos base) (λ v. rest p scale mult v *ℤ values v) p.variables
          (λ v lt. min-le-mul_over (pos base) (rest p scale mult v) (p.low v) (values v) (p.high v) (omega (arith, additive)) (meets.low v lt) (meets.high v lt)),
      rests-sum p.variables (pos scale) p.cost p.coef mult values p.rows,
      int_sum_below-mul_right constants (pos base) p.rows,
      int_sum_below-add dots (λ r. constants r *ℤ pos base) p.rows,
      int_sum_below-zero p.rows,
      int_sum_below-le (λ r. pos 0) (λ r. dots r +ℤ constants r *ℤ pos base) p.rows
          (λ r lt. subst (λ (z : ℤ). pos 0 ≤ℤ z) (split (mult r) (dot p.variables (p.coef r) values) (p.constant r) (pos base))
          (part-met (p.equal r) (mult r) (row_value p base values r) (signed r lt) (meets.at_least r lt) (meets.equal r lt))),
    )
  where
    difference : (a b d : ℤ) → (a -ℤ b) *ℤ d ≡ a *ℤ d -ℤ b *ℤ d
    difference a b d = simp sorted (omega (arith, additive))

    split : (m t c b : ℤ) → m *ℤ (t +ℤ c *ℤ b) ≡ m *ℤ t +ℤ (m *ℤ c) *ℤ b
    split m t c b = simp sorted (omega (arith, additive))

-- ---- whole multipliers there are

module _ (p : Program) (s : State) (k : IsKept p s) where
  abbrev d : ℤ
  d = k.table.scale

  abbrev times : ℕ
  times = unsigned_abs d

  times_is : pos times ≡ d
  times_is = positive_is d k.shown.positive

  times_some : 0 < times
  times_some = some (unsigned_abs d) (subst (λ (z : ℤ). pos 0 <ℤ z) (sym times_is) k.shown.positive)
    where
      some : (n : ℕ) → pos 0 <ℤ pos n → 0 < n
      some n h = omega (arith, additive, h)

  over : (x : Fraction) (z : ℤ) → IsTimes d x z → IsTimes (pos times) x z
  over x z h = subst (λ (n : ℤ). IsTimes n x z) (sym times_is) h

  nothing-times : (n z : ℤ) → z ≡ pos 0 → IsTimes n (whole (pos 0)) z
  nothing-times n z e = ap (λ (y : ℤ). y *ℤ pos 1) e ∙ zero-*ℤ (pos 1) ∙ sym (*ℤ-zero n)

  solved-over : AreSolvedOver p s times (λ r. k.table.cost (row_column p r))
  solved-over r x lr is = elim (placed p s (row_column p r) (omega arith)) [
    | inl f ↦ subst (λ (y : Fraction). IsTimes (pos times) y (k.table.cost (row_column p r))) (sym (is.free f))
        (over (s.cost (row_column p r)) (k.table.cost (row_column p r)) (k.shown.cost (row_column p r) f))
    | inr at ↦ subst (λ (y : Fraction). IsTimes (pos times) y (k.table.cost (row_column p r))) (sym (is.basic at.0 at.1 at.2))
        (nothing-times (pos times) (k.table.cost (row_column p r)) (ap k.table.cost (sym at.2) ∙ k.shown.cost_basic at.0 at.1))
  ]

  -- the state's point costs no more than another that meets the program
  pub cost-least : IsProper p → (base other : ℕ) (values point : ℕ → ℤ) → 0 < base → AreValuesOver p s base values → Meets p other point
      → (cost_value p values *ℤ pos other) ≤ℤ (cost_value p point *ℤ pos base)
  cost-least proper base other values point some are meets =
      let mult : ℕ → ℤ = λ r. k.table.cost (row_column p r) in
      compared (number p times mult) (cost_value p values) (cost_value p point) (pos times) (pos base) (pos other) (positive times_some) (omega (arith, additive))
      (number-is p s k times mult times_some solved-over proper base values some are)
      (number-at_most p times mult other point (mult-signed p s k times mult times_some solved-over) meets)
    where
      compared : (n c e t b o : ℤ) → pos 0 <ℤ t → pos 0 ≤ℤ b → n *ℤ b ≡ t *ℤ c → (n *ℤ o) ≤ℤ (t *ℤ e) → (c *ℤ o) ≤ℤ (e *ℤ b)
      compared n c e t b o pt pb is le =
          le-cancel t (c *ℤ o) (e *ℤ b) pt
          (omega (arith, additive, first t c o, ap (λ (z : ℤ). z *ℤ o) is, second n b o, le-mul b (n *ℤ o) (t *ℤ e) pb le, third b t e))
        where
          first : (t c o : ℤ) → t *ℤ (c *ℤ o) ≡ (t *ℤ c) *ℤ o
          first t c o = simp sorted refl

          second : (n b o : ℤ) → (n *ℤ b) *ℤ o ≡ b *ℤ (n *ℤ o)
          second n b o = simp sorted refl

          third : (b t e : ℤ) → b *ℤ (t *ℤ e) ≡ t *ℤ (e *ℤ b)
          third b t e = simp sorted refl

  turned-one : (e : End) (n : ℤ) → IsTimes n (turned_for e (whole (pos 1))) (against e (neg_ℤ n))
  turned-one Low n = ap (λ (z : ℤ). z *ℤ pos 1) (neg_ℤ-neg_ℤ n)
  turned-one High n = one n
    where
      one : (n : ℤ) → neg_ℤ (neg_ℤ (neg_ℤ n)) *ℤ pos 1 ≡ n *ℤ negsuc 0
      one n = omega (arith, linear)

  module _ (place : ℕ) (side : End) (end : ℤ) (empty : IsEmpty p s place side end) where
    empty-over : AreEmptyOver p s place side times (λ r. against side (k.table.line place (row_column p r)))
    empty-over r x lr is =
        let z = against side (k.table.line place (row_column p r)) in elim (placed p s (row_column p r) (omega arith)) [
          | inl f ↦ subst (λ (y : Fraction). IsTimes (pos times) y z) (sym (is.free f))
              (over (turned_for side (negative_of (s.factor place (row_column p r)))) z
              (against-times side d (s.factor place (row_column p r)) (k.table.line place (row_column p r)) (k.shown.factor place (row_column p r) empty.leaves.place f)))
          | inr at ↦ elim (same_or_other at.0 place) [
            | inl e ↦ let own : s.basic place ≡ row_column p r = ap s.basic (sym e) ∙ at.2 in
                subst (λ (y : Fraction). IsTimes (pos times) y z) (sym (is.own own))
                (over (turned_for side (whole (pos 1))) z
                (subst (λ (w : ℤ). IsTimes d (turned_for side (whole (pos 1))) (against side w)) (sym (ap (k.table.line place) (sym own) ∙ k.shown.own place empty.leaves.place))
                (turned-one side d)))
            | inr ne ↦ subst (λ (y : Fraction). IsTimes (pos times) y z) (sym (is.basic at.0 at.1 ne at.2))
                (nothing-times (pos times) z (against-nothing side (k.table.line place (row_column p r))
                (ap (k.table.line place) (sym at.2) ∙ k.shown.basic place at.0 empty.leaves.place at.1 (λ e. ne (sym e)))))
          ]
        ]

-- ---- the law

pub best-duality : (p : Program) (scale base : ℕ) (mult values : ℕ → ℤ) → AreSigned p mult → Meets p base values
    → (number p scale mult *ℤ pos base) ≤ℤ (pos scale *ℤ cost_value p values)
best-duality p scale base mult values signed meets = number-at_most p scale mult base values signed meets

-- ends between which there is a point are in order
meets-proper : (p : Program) (base : ℕ) (values : ℕ → ℤ) → 0 < base → Meets p base values → IsProper p
meets-proper p base values some meets v lt =
    le-right (pos base) (p.low v) (p.high v) (positive some) (le_trans_ℤ (p.low v *ℤ pos base) (values v) (p.high v *ℤ pos base) (meets.low v lt) (meets.high v lt))

pub best-cost : (p : Program) (steps : ℕ) (s : State) (base other : ℕ) (values point : ℕ → ℤ) → Reaches p steps s → 0 < base → AreValuesOver p s base values
    → 0 < other → Meets p other point → (cost_value p values *ℤ pos other) ≤ℤ (cost_value p point *ℤ pos base)
best-cost p steps s base other values point h some are there meets =
    cost-least p s (reached p steps s h) (meets-proper p other point there meets) base other values point some are meets

pub best-none : (p : Program) (steps : ℕ) (s : State) (place : ℕ) (side : End) (end : ℤ) (base : ℕ) (values : ℕ → ℤ) → Reaches p steps s
    → IsEmpty p s place side end → 0 < base → ¬ Meets p base values
best-none p steps s place side end base values h empty some meets =
    let k = reached p steps s h in
    let mult : ℕ → ℤ = λ r. against side (k.table.line place (row_column p r)) in
    let over = empty-over p s k place side end empty in
    never (number p 0 mult) (pos base) (cost_value p values) (positive some)
    (empty-number p steps s place side end (times p s k) mult (meets-proper p base values some meets) h empty (times_some p s k) over)
    (number-at_most p 0 mult base values (empty-signed p steps s place side end (times p s k) mult h empty (times_some p s k) over) meets)
  where
    never : (n b c : ℤ) → pos 0 <ℤ b → pos 0 <ℤ n → (n *ℤ b) ≤ℤ (pos 0 *ℤ c) → ⊥
    never n b c pb pn le = omega (arith, additive, pos-mul n b pn pb, le, zero-*ℤ c)
