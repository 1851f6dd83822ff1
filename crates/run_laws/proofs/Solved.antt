-- The multipliers of a state: their signs, the rests that they leave, and what they are added up to.
use Rattle.std.proofs.Common.{◌≡◌, ◌≢◌, ◌∙◌, sym, ap, subst, ℕ, ◌<◌, ◌⊎◌, inl, inr, false, ℤ, pos, ◌+ℤ◌, ◌*ℤ◌, ◌≤ℤ◌, ◌<ℤ◌, Some, arith, refl}
use Rattle.std.proofs.Math.IntN.{*ℤ-zero, zero-*ℤ}
use Rattle.std.specs.Int.{int_min}
use Rattle.std.proofs.lemmas.Int.{ints}
use Rattle.integers.proofs.Ring.{additive, sorted, mul_comm_ℤ}
use Rattle.integers.proofs.Order.{same-cancel}
use Rattle.integers.proofs.ByIndex.{int_sum_below-zero}
use Rattle.exact_num.specs.Fraction.{Fraction}
use Rattle.exact_run.specs.Operations.{whole}
use Rattle.exact_run.specs.Programs.{Program, columns, row_column, low_end, high_end, end_value}
use Rattle.exact_run.specs.States.{State, IsFree}
use Rattle.exact_run.specs.Runs.{Reaches, IsSolvedMultiplier}
use Rattle.exact_run.specs.declared.ends.End.{End}
use Rattle.exact_run.specs.declared.ends.End.TheVariants.{Low, High}
use Rattle.run_laws.specs.Points.{IsProper, IsTimes, AreValuesOver, cost_value}
use Rattle.run_laws.specs.Multipliers.{AreSolvedOver, AreSigned, rest, number}
use Rattle.run_laws.proofs.Times.{positive, times-cross, times-from_cross, times-of_whole, factor-dropped, same_sign}
use Rattle.run_laws.proofs.Pivots.{above_zero}
use Rattle.run_laws.proofs.Signs.{toward, toward-mul, sign-in_table}
use Rattle.run_laws.proofs.Reached.{IsKept, reached, placed}
use Rattle.run_laws.proofs.Ends.{end_is, end_of, inner, none_is_not_some, variable-low, variable-high, variable-end, row-end, row-high_at_least}
use Rattle.run_laws.proofs.Points.{cost-crossed}
use Rattle.run_laws.proofs.Weighing.{unit, unit-direction, cost-unit, rest-is, number-at, least-end, least-fixed, least-none}

-- ---- numbers that stand to each other as two above 0

-- a product that is nothing beside a factor that is not
pub none-crossed : (a n z d : ℤ) → pos 0 <ℤ d → a ≡ pos 0 → a *ℤ n ≡ z *ℤ d → z ≡ pos 0
none-crossed a n z d p e h =
    factor-dropped d z (above_zero d p) (omega (arith, additive, mul_comm_ℤ d z, sym h ∙ ap (λ (y : ℤ). y *ℤ n) e ∙ zero-*ℤ n))

-- the sign goes over
pub sign-crossed : (e : End) (a n z d : ℤ) → pos 0 <ℤ n → pos 0 <ℤ d → a *ℤ n ≡ z *ℤ d → pos 0 ≤ℤ toward e a → pos 0 ≤ℤ toward e z
sign-crossed e a n z d pn pd h k =
    same_sign n d (toward e z) (toward e a) pn pd (toward-mul e z d ∙ ap (toward e) (sym h) ∙ sym (toward-mul e a n) ∙ mul_comm_ℤ (toward e a) n) k

pub same_or_other_int : (a b : ℤ) → (a ≡ b) ⊎ (a ≢ b)
same_or_other_int a b = grind (arith, ints)

-- a variable whose ends are two can move
pub variable-moves : (p : Program) (v : ℕ) → v < p.variables → p.high v ≢ p.low v → high_end p v ≢ Some (low_end p v)
variable-moves p v lt ne h = ne (inner (p.high v) (p.low v) (sym (variable-high p v lt) ∙ h ∙ ap (λ (z : ℤ). Some z) (variable-low p v lt)))

-- a row's column that is at least 0 can, and stands at its low end
pub row-moves : (p : Program) (r : ℕ) → p.equal r ≡ false → high_end p (row_column p r) ≢ Some (low_end p (row_column p r))
row-moves p r e h = none_is_not_some (high_end p (row_column p r)) (low_end p (row_column p r)) (row-high_at_least p r e) h

pub row-stands_low : (p : Program) (s : State) (k : IsKept p s) (r : ℕ) → p.equal r ≡ false → IsFree p s (row_column p r) → s.stands (row_column p r) ≡ Low
row-stands_low p s k r e f = elim (end_is (s.stands (row_column p r))) [
  | inl low ↦ low
  | inr high ↦ absurd (none_is_not_some (high_end p (row_column p r)) (end_value p (row_column p r) High) (row-high_at_least p r e) (k.sound.ends (row_column p r) f high))
]

-- a rest that is least at the end where its variable stands
pub least-stands : (p : Program) (v : ℕ) (e : End) (r x d : ℤ) → v < p.variables → p.low v ≤ℤ p.high v → x ≡ end_value p v e *ℤ d
    → (p.high v ≢ p.low v → pos 0 ≤ℤ toward e r) → int_min (r *ℤ p.low v) (r *ℤ p.high v) *ℤ d ≡ r *ℤ x
least-stands p v e r x d lt le is sign =
    let there : x ≡ end_of (p.low v) (p.high v) e *ℤ d = is ∙ ap (λ (z : ℤ). z *ℤ d) (variable-end p v e lt) in
    let least : int_min (r *ℤ p.low v) (r *ℤ p.high v) ≡ r *ℤ end_of (p.low v) (p.high v) e =
    elim (same_or_other_int (p.high v) (p.low v)) [
      | inl same ↦ least-fixed e r (p.low v) (p.high v) same
      | inr ne ↦ least-end e r (p.low v) (p.high v) le (sign ne)
    ] in
    ap (λ (z : ℤ). z *ℤ d) least ∙ grouped r (end_of (p.low v) (p.high v) e) d ∙ ap (λ (z : ℤ). r *ℤ z) (sym there)
  where
    grouped : (r y d : ℤ) → (r *ℤ y) *ℤ d ≡ r *ℤ (y *ℤ d)
    grouped r y d = simp sorted refl

module _ (p : Program) (s : State) (k : IsKept p s) (scale : ℕ) (mult : ℕ → ℤ) (some : 0 < scale) (are : AreSolvedOver p s scale mult) where
  abbrev d : ℤ
  d = k.table.scale

  abbrev x : ℕ → ℤ
  x j = k.table.point j

  above : pos 0 <ℤ pos scale
  above = positive some

  -- ---- the multipliers are the cost's factors on the rows' columns

  mult_basic : (r q : ℕ) → r < p.rows → q < p.rows → s.basic q ≡ row_column p r → mult r ≡ pos 0
  mult_basic r q lr lq e = times-of_whole (pos scale) (pos 0) (mult r) (are r (whole (pos 0)) lr record { basic = λ i li g. refl; free = λ f. absurd (f.free q lq e) })
      ∙ zero-*ℤ (pos scale)

  mult_free : (r : ℕ) → r < p.rows → IsFree p s (row_column p r) → IsTimes (pos scale) (s.cost (row_column p r)) (mult r)
  mult_free r lr f = are r (s.cost (row_column p r)) lr record { basic = λ i li g. absurd (f.free i li g); free = λ g. refl }

  none_both : (a z n d : ℤ) → a ≡ pos 0 → z ≡ pos 0 → a *ℤ n ≡ z *ℤ d
  none_both a z n d e g = ap (λ (y : ℤ). y *ℤ n) e ∙ zero-*ℤ n ∙ sym (ap (λ (y : ℤ). y *ℤ d) g ∙ zero-*ℤ d)

  mult_crossed : (r : ℕ) → r < p.rows → k.table.cost (row_column p r) *ℤ pos scale ≡ mult r *ℤ d
  mult_crossed r lr = elim (placed p s (row_column p r) (omega arith)) [
    | inl f ↦ times-cross d (pos scale) (s.cost (row_column p r)) (k.table.cost (row_column p r)) (mult r) (k.sound.cost (row_column p r) f) (k.shown.cost (row_column p r) f)
        (mult_free r lr f)
    | inr at ↦ none_both (k.table.cost (row_column p r)) (mult r) (pos scale) d (ap k.table.cost (sym at.2) ∙ k.shown.cost_basic at.0 at.1) (mult_basic r at.0 lr at.1 at.2)
  ]

  -- ---- the rests are the cost's factors on the variables

  rest_crossed : (v : ℕ) → v < p.variables → k.table.cost v *ℤ pos scale ≡ rest p scale mult v *ℤ d
  rest_crossed v lt =
      rest-is p v lt scale mult k.table.cost (pos scale) d (p.cost v) mult_crossed
      (k.of.cost (unit p v lt) (unit-direction p v lt) ∙ ap (λ (z : ℤ). d *ℤ z) (cost-unit p v lt)) (mul_comm_ℤ (p.cost v) (pos scale))

  pub rest-basic : (v r : ℕ) → v < p.variables → r < p.rows → s.basic r ≡ v → rest p scale mult v ≡ pos 0
  rest-basic v r lv lr e =
      none-crossed (k.table.cost v) (pos scale) (rest p scale mult v) d k.shown.positive (ap k.table.cost (sym e) ∙ k.shown.cost_basic r lr) (rest_crossed v lv)

  pub rest-free : (v : ℕ) → v < p.variables → IsFree p s v → IsTimes (pos scale) (s.cost v) (rest p scale mult v)
  rest-free v lv f = times-from_cross d (pos scale) (s.cost v) (k.table.cost v) (rest p scale mult v) k.shown.positive (k.shown.cost v f) (rest_crossed v lv)

  -- ---- signs

  cost_sign : (j : ℕ) → IsFree p s j → high_end p j ≢ Some (low_end p j) → pos 0 ≤ℤ toward (s.stands j) (k.table.cost j)
  cost_sign j f moves = sign-in_table (s.stands j) d (s.cost j) (k.table.cost j) k.shown.positive (k.sound.cost j f) (k.shown.cost j f) (k.dual j f moves)

  pub mult-signed : AreSigned p mult
  mult-signed r lr e = elim (placed p s (row_column p r) (omega arith)) [
    | inl f ↦ sign-crossed Low (k.table.cost (row_column p r)) (pos scale) (mult r) d above k.shown.positive (mult_crossed r lr)
        (subst (λ (w : End). pos 0 ≤ℤ toward w (k.table.cost (row_column p r))) (row-stands_low p s k r e f) (cost_sign (row_column p r) f (row-moves p r e)))
    | inr at ↦ omega (arith, additive, mult_basic r at.0 lr at.1 at.2)
  ]

  -- ---- the number

  nothing : ℕ → ℤ
  nothing j = pos 0

  module _ (proper : IsProper p) where
    least_at : (v : ℕ) → v < p.variables → int_min (rest p scale mult v *ℤ p.low v) (rest p scale mult v *ℤ p.high v) *ℤ d ≡ rest p scale mult v *ℤ x v +ℤ pos 0
    least_at v lt = elim (placed p s v (omega arith)) [
      | inl f ↦
          least-stands p v (s.stands v) (rest p scale mult v) (x v) d lt (proper v lt) (k.shown.stands v f)
          (λ ne. sign-crossed (s.stands v) (k.table.cost v) (pos scale) (rest p scale mult v) d above k.shown.positive (rest_crossed v lt) (cost_sign v f (variable-moves p v lt ne)))
          ∙ plus_nothing (rest p scale mult v *ℤ x v)
      | inr at ↦ no_rest (rest p scale mult v) (p.low v) (p.high v) d (x v) (rest-basic v at.0 lt at.1 at.2)
    ]
      where
        plus_nothing : (z : ℤ) → z ≡ z +ℤ pos 0
        plus_nothing z = omega (arith, additive)

        no_rest : (r low high d x : ℤ) → r ≡ pos 0 → int_min (r *ℤ low) (r *ℤ high) *ℤ d ≡ r *ℤ x +ℤ pos 0
        no_rest r low high d x e = ap (λ (z : ℤ). z *ℤ d) (least-none r low high e) ∙ omega (arith, additive, zero-*ℤ d, zero-*ℤ x, ap (λ (z : ℤ). z *ℤ x) e)

    row_at : (r : ℕ) → r < p.rows → mult r *ℤ x (row_column p r) +ℤ pos 0 ≡ pos 0
    row_at r lt = elim (placed p s (row_column p r) (omega arith)) [
      | inl f ↦ second_none (mult r) (x (row_column p r))
          (k.shown.stands (row_column p r) f ∙ ap (λ (z : ℤ). z *ℤ d) (row-end p r (s.stands (row_column p r))) ∙ zero-*ℤ d)
      | inr at ↦ first_none (mult r) (x (row_column p r)) (mult_basic r at.0 lt at.1 at.2)
    ]
      where
        first_none : (m x : ℤ) → m ≡ pos 0 → m *ℤ x +ℤ pos 0 ≡ pos 0
        first_none m x e = omega (arith, additive, ap (λ (z : ℤ). z *ℤ x) e, zero-*ℤ x)

        second_none : (m x : ℤ) → x ≡ pos 0 → m *ℤ x +ℤ pos 0 ≡ pos 0
        second_none m x e = omega (arith, additive, ap (λ (z : ℤ). m *ℤ z) e, *ℤ-zero m)

    number_table : number p scale mult *ℤ d ≡ pos scale *ℤ cost_value p x
    number_table = number-at p scale mult x (λ j. pos 0) d k.of.point least_at row_at ∙ omega (arith, additive, int_sum_below-zero (columns p))

    -- what the multipliers are added up to is what the point costs
    pub number-is : (base : ℕ) (values : ℕ → ℤ) → 0 < base → AreValuesOver p s base values → number p scale mult *ℤ pos base ≡ pos scale *ℤ cost_value p values
    number-is base values there over =
        same-cancel d (number p scale mult *ℤ pos base) (pos scale *ℤ cost_value p values) k.shown.positive
        (first d (number p scale mult) (pos base) ∙ ap (λ (z : ℤ). z *ℤ pos base) number_table ∙ second (pos scale) (cost_value p x) (pos base)
        ∙ ap (λ (z : ℤ). pos scale *ℤ z) (cost-crossed p s k base values there over) ∙ third (pos scale) (cost_value p values) d)
      where
        first : (d n b : ℤ) → d *ℤ (n *ℤ b) ≡ (n *ℤ d) *ℤ b
        first d n b = simp sorted refl

        second : (n c b : ℤ) → (n *ℤ c) *ℤ b ≡ n *ℤ (c *ℤ b)
        second n c b = simp sorted refl

        third : (n c d : ℤ) → n *ℤ (c *ℤ d) ≡ d *ℤ (n *ℤ c)
        third n c d = simp sorted refl

-- ---- each row has one multiplier

pub solved-there : (p : Program) (steps : ℕ) (s : State) (r : ℕ) → Reaches p steps s → r < p.rows → (x : Fraction) × (0 < x.den) × IsSolvedMultiplier p s r x
solved-there p steps s r h lt = elim (placed p s (row_column p r) (omega arith)) [
  | inl f ↦ (
    s.cost (row_column p r),
    (reached p steps s h).sound.cost (row_column p r) f,
    record { basic = λ i li e. absurd (f.free i li e); free = λ g. refl },
  )
  | inr at ↦ (whole (pos 0), omega arith, record { basic = λ i li e. refl; free = λ g. absurd (g.free at.0 at.1 at.2) })
]

pub solved-one : (p : Program) (s : State) (r : ℕ) (x y : Fraction) → r < p.rows → IsSolvedMultiplier p s r x → IsSolvedMultiplier p s r y → x ≡ y
solved-one p s r x y lt h g = elim (placed p s (row_column p r) (omega arith)) [
  | inl f ↦ h.free f ∙ sym (g.free f)
  | inr at ↦ h.basic at.0 at.1 at.2 ∙ sym (g.basic at.0 at.1 at.2)
]

-- ---- the law

pub solved-signed : (p : Program) (steps : ℕ) (s : State) (times : ℕ) (mult : ℕ → ℤ) → Reaches p steps s → 0 < times → AreSolvedOver p s times mult → AreSigned p mult
solved-signed p steps s times mult h some are = mult-signed p s (reached p steps s h) times mult some are

pub solved-rest_free : (p : Program) (steps : ℕ) (s : State) (times : ℕ) (mult : ℕ → ℤ) (v : ℕ) → Reaches p steps s → 0 < times → AreSolvedOver p s times mult → v < p.variables
    → IsFree p s v → IsTimes (pos times) (s.cost v) (rest p times mult v)
solved-rest_free p steps s times mult v h some are lt f = rest-free p s (reached p steps s h) times mult some are v lt f

pub solved-rest_basic : (p : Program) (steps : ℕ) (s : State) (times : ℕ) (mult : ℕ → ℤ) (v r : ℕ) → Reaches p steps s → 0 < times → AreSolvedOver p s times mult
    → v < p.variables → r < p.rows → s.basic r ≡ v → rest p times mult v ≡ pos 0
solved-rest_basic p steps s times mult v r h some are lv lr e = rest-basic p s (reached p steps s h) times mult some are v r lv lr e

pub solved-number : (p : Program) (steps : ℕ) (s : State) (times base : ℕ) (mult values : ℕ → ℤ) → IsProper p → Reaches p steps s → 0 < times → AreSolvedOver p s times mult
    → 0 < base → AreValuesOver p s base values → number p times mult *ℤ pos base ≡ pos times *ℤ cost_value p values
solved-number p steps s times base mult values proper h some are there over = number-is p s (reached p steps s h) times mult some are proper base values there over
