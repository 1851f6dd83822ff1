-- The point of a state: what its values over a base are, and that they meet the program where no column is past an end.
use Rattle.std.proofs.Common.{◌≡◌, ◌∙◌, sym, ap, subst, ℕ, ◌<◌, inl, inr, true, ℤ, pos, ◌+ℤ◌, ◌*ℤ◌, ◌≤ℤ◌, ◌<ℤ◌, arith, refl}
use Rattle.std.proofs.Math.IntN.{zero-*ℤ}
use Rattle.integers.proofs.Ring.{additive, sorted, mul_comm_ℤ}
use Rattle.integers.proofs.Order.{le-mul, le-cancel}
use Rattle.integers.proofs.ByIndex.{int_sum_below-mul_right, int_sum_below-same}
use Rattle.exact_num.specs.Fraction.{Fraction}
use Rattle.exact_run.specs.Operations.{whole}
use Rattle.exact_run.specs.Programs.{Program, row_column, end_value}
use Rattle.exact_run.specs.States.{State, IsFree}
use Rattle.exact_run.specs.Runs.{Reaches, IsSolved, IsValueOf}
use Rattle.run_laws.specs.Points.{IsProper, IsTimes, AreValuesOver, row_value, cost_value, Meets}
use Rattle.run_laws.proofs.Times.{times-of_whole, times-cross, times-from_cross, times-whole}
use Rattle.run_laws.proofs.Sums.{dot}
use Rattle.run_laws.proofs.Reached.{IsKept, reached, placed}
use Rattle.run_laws.proofs.Ends.{variable-low, variable-high, row-low, row-high_equal, within-low, within-high}

order_last : (e d b : ℤ) → (e *ℤ d) *ℤ b ≡ (e *ℤ b) *ℤ d
order_last e d b = simp sorted refl

-- two points whose values stand as two numbers
pub dots-cross : (n : ℕ) (f x y : ℕ → ℤ) (a b : ℤ) → ((i : ℕ) → i < n → x i *ℤ a ≡ y i *ℤ b) → dot n f x *ℤ a ≡ dot n f y *ℤ b
dots-cross n f x y a b h =
    sym (int_sum_below-mul_right (λ i. f i *ℤ x i) a n)
    ∙ int_sum_below-same (λ i. (f i *ℤ x i) *ℤ a) (λ i. (f i *ℤ y i) *ℤ b) n (λ i lt. one (f i) (x i) (y i) a b (h i lt))
    ∙ int_sum_below-mul_right (λ i. f i *ℤ y i) b n
  where
    grouped : (f x a : ℤ) → (f *ℤ x) *ℤ a ≡ f *ℤ (x *ℤ a)
    grouped f x a = simp sorted refl

    one : (f x y a b : ℤ) → x *ℤ a ≡ y *ℤ b → (f *ℤ x) *ℤ a ≡ (f *ℤ y) *ℤ b
    one f x y a b e = grouped f x a ∙ ap (λ (z : ℤ). f *ℤ z) e ∙ sym (grouped f y b)

-- a positive factor on the right is dropped
pub le-right : (d a b : ℤ) → pos 0 <ℤ d → (a *ℤ d) ≤ℤ (b *ℤ d) → a ≤ℤ b
le-right d a b p h = le-cancel d a b p (omega (arith, additive, mul_comm_ℤ a d, mul_comm_ℤ b d, h))

mul-right : (d a b : ℤ) → pos 0 ≤ℤ d → a ≤ℤ b → (a *ℤ d) ≤ℤ (b *ℤ d)
mul-right d a b p h = omega (arith, additive, mul_comm_ℤ a d, mul_comm_ℤ b d, le-mul d a b p h)

module _ (p : Program) (s : State) (k : IsKept p s) (base : ℕ) (values : ℕ → ℤ) (some : 0 < base) (are : AreValuesOver p s base values) where
  abbrev d : ℤ
  d = k.table.scale

  abbrev x : ℕ → ℤ
  x j = k.table.point j

  -- ---- the values and the table's point are the same, each over its number

  value_of_basic : (v r : ℕ) → r < p.rows → s.basic r ≡ v → IsValueOf p s v (s.value r)
  value_of_basic v r lt e = record {
    basic = λ q lq g. ap s.value (k.sound.apart r q lt lq (e ∙ sym g));
    free = λ f. absurd (f.free r lt e);
  }

  value_of_free : (v : ℕ) → IsFree p s v → IsValueOf p s v (whole (end_value p v (s.stands v)))
  value_of_free v f = record { basic = λ q lq e. absurd (f.free q lq e); free = λ g. refl }

  basic_cross : (v r : ℕ) → v < p.variables → r < p.rows → s.basic r ≡ v → x v *ℤ pos base ≡ values v *ℤ d
  basic_cross v r lv lr e =
      times-cross d (pos base) (s.value r) (x v) (values v) (k.sound.value r lr)
      (subst (λ (j : ℕ). IsTimes d (s.value r) (x j)) e (k.shown.value r lr)) (are v (s.value r) lv (value_of_basic v r lr e))

  free_cross : (v : ℕ) → v < p.variables → IsFree p s v → x v *ℤ pos base ≡ values v *ℤ d
  free_cross v lv f =
      let e = end_value p v (s.stands v) in
      ap (λ (z : ℤ). z *ℤ pos base) (k.shown.stands v f) ∙ order_last e d (pos base)
      ∙ ap (λ (z : ℤ). z *ℤ d) (sym (times-of_whole (pos base) e (values v) (are v (whole e) lv (value_of_free v f))))

  pub crossed : (v : ℕ) → v < p.variables → x v *ℤ pos base ≡ values v *ℤ d
  crossed v lt = elim (placed p s v (omega arith)) [
    | inl free ↦ free_cross v lt free
    | inr at ↦ basic_cross v at.0 lt at.1 at.2
  ]

  -- a row's value is that of its column
  pub row-crossed : (r : ℕ) → r < p.rows → x (row_column p r) *ℤ pos base ≡ row_value p base values r *ℤ d
  row-crossed r lt =
      ap (λ (z : ℤ). z *ℤ pos base) (k.of.point r lt)
      ∙ rows (dot p.variables (p.coef r) x) (dot p.variables (p.coef r) values) (p.constant r) d (pos base) (dots-cross p.variables (p.coef r) x values (pos base) d crossed)
    where
      rows : (m n c e b : ℤ) → m *ℤ b ≡ n *ℤ e → (m +ℤ c *ℤ e) *ℤ b ≡ (n +ℤ c *ℤ b) *ℤ e
      rows m n c e b h = simp sorted (omega (arith, additive, h))

  pub cost-crossed : cost_value p x *ℤ pos base ≡ cost_value p values *ℤ d
  cost-crossed = dots-cross p.variables p.cost x values (pos base) d crossed

  -- the value of a row's column is the row's
  pub row-times : (r : ℕ) (y : Fraction) → r < p.rows → IsValueOf p s (row_column p r) y → IsTimes (pos base) y (row_value p base values r)
  row-times r y lt is =
      times-from_cross d (pos base) y (x (row_column p r)) (row_value p base values r) k.shown.positive
      (elim (placed p s (row_column p r) (omega arith)) [
        | inl free ↦ subst (λ (w : Fraction). IsTimes d w (x (row_column p r))) (sym (is.free free))
            (subst (λ (z : ℤ). IsTimes d (whole (end_value p (row_column p r) (s.stands (row_column p r)))) z) (sym (k.shown.stands (row_column p r) free))
            (times-whole d (end_value p (row_column p r) (s.stands (row_column p r)))))
        | inr at ↦ subst (λ (w : Fraction). IsTimes d w (x (row_column p r))) (sym (is.basic at.0 at.1 at.2))
            (subst (λ (j : ℕ). IsTimes d (s.value at.0) (x j)) at.2 (k.shown.value at.0 at.1))
      ]) (row-crossed r lt)

  -- ---- where no column is past an end

  module _ (proper : IsProper p) (solved : IsSolved p s) where
    base_above : pos 0 ≤ℤ pos base
    base_above = omega (arith, additive)

    low_met : (v : ℕ) → v < p.variables → (p.low v *ℤ pos base) ≤ℤ values v
    low_met v lt =
        le-right d (p.low v *ℤ pos base) (values v) k.shown.positive
        (omega (
          arith,
          additive,
          order_last (p.low v) d (pos base),
          crossed v lt,
          mul-right (pos base) (p.low v *ℤ d) (x v) base_above
              (subst (λ (z : ℤ). (z *ℤ d) ≤ℤ x v) (variable-low p v lt) (within-low p s k proper solved v (omega arith))),
        ))

    high_met : (v : ℕ) → v < p.variables → values v ≤ℤ (p.high v *ℤ pos base)
    high_met v lt =
        le-right d (values v) (p.high v *ℤ pos base) k.shown.positive
        (omega (
          arith,
          additive,
          order_last (p.high v) d (pos base),
          crossed v lt,
          mul-right (pos base) (x v) (p.high v *ℤ d) base_above (within-high p s k proper solved v (p.high v) (omega arith) (variable-high p v lt)),
        ))

    row_above : (r : ℕ) → r < p.rows → pos 0 ≤ℤ row_value p base values r
    row_above r lt =
        let column : pos 0 ≤ℤ x (row_column p r) =
        omega (arith, additive, zero-*ℤ d, subst (λ (z : ℤ). (z *ℤ d) ≤ℤ x (row_column p r)) (row-low p r) (within-low p s k proper solved (row_column p r) (omega arith))) in
        le-right d (pos 0) (row_value p base values r) k.shown.positive
        (omega (arith, additive, zero-*ℤ d, zero-*ℤ (pos base), row-crossed r lt, mul-right (pos base) (pos 0) (x (row_column p r)) base_above column))

    row_equal : (r : ℕ) → r < p.rows → p.equal r ≡ true → row_value p base values r ≡ pos 0
    row_equal r lt e =
        let column : x (row_column p r) ≤ℤ pos 0 =
        omega (arith, additive, zero-*ℤ d, within-high p s k proper solved (row_column p r) (pos 0) (omega arith) (row-high_equal p r e)) in
        let under : row_value p base values r ≤ℤ pos 0 =
        le-right d (row_value p base values r) (pos 0) k.shown.positive
        (omega (arith, additive, zero-*ℤ d, zero-*ℤ (pos base), row-crossed r lt, mul-right (pos base) (x (row_column p r)) (pos 0) base_above column)) in
        omega (arith, additive, under, row_above r lt)

    pub values-meet : Meets p base values
    values-meet = record { low = low_met; high = high_met; at_least = λ r lt e. row_above r lt; equal = row_equal }

-- ---- the law

pub point-meets : (p : Program) (steps : ℕ) (s : State) (base : ℕ) (values : ℕ → ℤ) → IsProper p → Reaches p steps s → IsSolved p s → 0 < base → AreValuesOver p s base values
    → Meets p base values
point-meets p steps s base values proper h solved some are = values-meet p s (reached p steps s h) base values some are proper solved

pub point-rows : (p : Program) (steps : ℕ) (s : State) (base : ℕ) (values : ℕ → ℤ) (r : ℕ) (x : Fraction) → Reaches p steps s → 0 < base → AreValuesOver p s base values
    → r < p.rows → IsValueOf p s (row_column p r) x → IsTimes (pos base) x (row_value p base values r)
point-rows p steps s base values r x h some are lt is = row-times p s (reached p steps s h) base values some are r x lt is
