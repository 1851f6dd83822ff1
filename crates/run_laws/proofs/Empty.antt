-- The multipliers where a run ends without a point: their signs, and that they are added up to more than 0.
use Rattle.std.proofs.Common.{◌≡◌, ◌≢◌, ◌∙◌, sym, ap, subst, ℕ, zero, suc, ◌<◌, inl, inr, false, ℤ, pos, neg_ℤ, ◌+ℤ◌, ◌-ℤ◌, ◌*ℤ◌, ◌≤ℤ◌, ◌<ℤ◌, Some, arith, refl}
use Rattle.std.specs.Int.{int_min}
use Rattle.std.proofs.Math.IntN.{neg_ℤ-neg_ℤ, *ℤ-zero, zero-*ℤ}
use Rattle.integers.proofs.Ring.{additive, sorted, linear, neg-mul, mul_comm_ℤ}
use Rattle.integers.proofs.Order.{pos-mul, lt-cancel, same-cancel}
use Rattle.integers.proofs.AtKey.{same_or_other, chosen, passed}
use Rattle.exact_num.specs.Fraction.{Fraction, negative_of}
use Rattle.exact_run.specs.Operations.{whole}
use Rattle.exact_run.specs.Programs.{Program, columns, row_column, low_end, high_end, end_value}
use Rattle.exact_run.specs.States.{State, IsFree}
use Rattle.exact_run.specs.Steps.{IsPast}
use Rattle.exact_run.specs.Runs.{Reaches, IsEmpty, IsEmptyMultiplier, turned_for}
use Rattle.exact_run.specs.declared.ends.End.{End}
use Rattle.exact_run.specs.declared.ends.End.TheVariants.{Low, High}
use Rattle.run_laws.specs.Points.{IsProper, IsTimes, cost_value}
use Rattle.run_laws.specs.Multipliers.{AreEmptyOver, AreSigned, rest, number}
use Rattle.run_laws.proofs.Times.{positive, times-cross, times-of_whole, times-negative}
use Rattle.run_laws.proofs.Sums.{dot, at_one, sum-at_one}
use Rattle.run_laws.proofs.Steps.{past-end}
use Rattle.run_laws.proofs.Signs.{toward, toward-mul, toward_back, above-of_fraction, above_or_not}
use Rattle.run_laws.proofs.Reached.{IsKept, reached, placed}
use Rattle.run_laws.proofs.Ends.{end_of, none_is_not_some, below_end, above_end, variable-end, row-end, row-high_at_least}
use Rattle.run_laws.proofs.Weighing.{unit, unit-direction, rest-is, number-at, least-end, least-none}
use Rattle.run_laws.proofs.Solved.{none-crossed, sign-crossed, variable-moves, row-moves, row-stands_low, least-stands}

-- ---- numbers turned against an end

-- minus a number, or the number at a high end
abbrev pub against : End → ℤ → ℤ
against e z = neg_ℤ (toward e z)

dot-negative : (n : ℕ) (f x : ℕ → ℤ) → dot n (λ i. neg_ℤ (f i)) x ≡ neg_ℤ (dot n f x)
dot-negative zero f x = refl
dot-negative (suc n) f x = omega (arith, additive, dot-negative n f x, neg-mul (f n) (x n))

dot-against : (e : End) (n : ℕ) (f x : ℕ → ℤ) → dot n f x ≡ pos 0 → dot n (λ i. against e (f i)) x ≡ pos 0
dot-against Low n f x h = dot-negative n f x ∙ ap neg_ℤ h
dot-against High n f x h = dot-negative n (λ i. neg_ℤ (f i)) x ∙ ap neg_ℤ (dot-negative n f x) ∙ ap (λ (z : ℤ). neg_ℤ (neg_ℤ z)) h

pub against-times : (e : End) (d : ℤ) (x : Fraction) (z : ℤ) → IsTimes d x z → IsTimes d (turned_for e (negative_of x)) (against e z)
against-times Low d x z h = times-negative d x z h
against-times High d x z h = times-negative d (negative_of x) (neg_ℤ z) (times-negative d x z h)

-- the end's own side and that of the column change places
against-toward : (side e : End) (z : ℤ) → toward e (against side z) ≡ neg_ℤ (toward side (toward e z))
against-toward Low Low z = refl
against-toward Low High z = refl
against-toward High Low z = refl
against-toward High High z = refl

pub against-own : (e : End) (d : ℤ) → against e (neg_ℤ d) ≡ toward e d
against-own Low d = neg_ℤ-neg_ℤ d
against-own High d = neg_ℤ-neg_ℤ (neg_ℤ d)

pub against-nothing : (e : End) (z : ℤ) → z ≡ pos 0 → against e z ≡ pos 0
against-nothing Low z h = ap neg_ℤ h
against-nothing High z h = ap (λ (y : ℤ). neg_ℤ (neg_ℤ y)) h

-- so many times a whole number, turned
times-turned_whole : (e : End) (n z : ℤ) → IsTimes n (turned_for e (whole (pos 1))) z → z ≡ toward e n
times-turned_whole Low n z h = omega (arith, linear, h)
times-turned_whole High n z h = omega (arith, linear, h)

toward-self : (e : End) (z : ℤ) → toward e (toward e z) ≡ z
toward-self Low z = refl
toward-self High z = neg_ℤ-neg_ℤ z

-- numbers that stand to each other as two, turned
own-crossed : (e : End) (n z d : ℤ) → pos 0 <ℤ d → toward e d *ℤ n ≡ z *ℤ d → z ≡ toward e n
own-crossed e n z d p h = cancelled (toward e n) z d p (sym h ∙ toward-mul e d n ∙ ap (toward e) (mul_comm_ℤ d n) ∙ sym (toward-mul e n d))
  where
    cancelled : (m z d : ℤ) → pos 0 <ℤ d → z *ℤ d ≡ m *ℤ d → z ≡ m
    cancelled m z d p h = same-cancel d z m p (mul_comm_ℤ d z ∙ h ∙ mul_comm_ℤ m d)

module _ (p : Program) (s : State) (k : IsKept p s) (place : ℕ) (side : End) (end : ℤ) (empty : IsEmpty p s place side end)
    (times : ℕ) (mult : ℕ → ℤ) (some : 0 < times) (are : AreEmptyOver p s place side times mult) where
  abbrev d : ℤ
  d = k.table.scale

  abbrev x : ℕ → ℤ
  x j = k.table.point j

  -- the line of the place, turned
  abbrev f : ℕ → ℤ
  f j = against side (k.table.line place j)

  here : place < p.rows
  here = empty.leaves.place

  above : pos 0 <ℤ pos times
  above = positive some

  f_own : f (s.basic place) ≡ toward side d
  f_own = ap (against side) (k.shown.own place here) ∙ against-own side d

  f_basic : (q : ℕ) → q < p.rows → q ≢ place → f (s.basic q) ≡ pos 0
  f_basic q lt ne = against-nothing side (k.table.line place (s.basic q)) (k.shown.basic place q here lt (λ e. ne (sym e)))

  -- ---- the multipliers are the line's on the rows' columns

  mult_own : (r : ℕ) → r < p.rows → s.basic place ≡ row_column p r → mult r ≡ toward side (pos times)
  mult_own r lr e =
      times-turned_whole side (pos times) (mult r) (are r (turned_for side (whole (pos 1))) lr record {
        own = λ g. refl;
        basic = λ i li ne g. absurd (ne (k.sound.apart i place li here (g ∙ sym e)));
        free = λ g. absurd (g.free place here e);
      })

  mult_basic : (r q : ℕ) → r < p.rows → q < p.rows → q ≢ place → s.basic q ≡ row_column p r → mult r ≡ pos 0
  mult_basic r q lr lq ne e =
      times-of_whole (pos times) (pos 0) (mult r) (are r (whole (pos 0)) lr record {
        own = λ g. absurd (ne (k.sound.apart q place lq here (e ∙ sym g)));
        basic = λ i li other g. refl;
        free = λ g. absurd (g.free q lq e);
      }) ∙ zero-*ℤ (pos times)

  mult_free : (r : ℕ) → r < p.rows → IsFree p s (row_column p r) → IsTimes (pos times) (turned_for side (negative_of (s.factor place (row_column p r)))) (mult r)
  mult_free r lr free = are r (turned_for side (negative_of (s.factor place (row_column p r)))) lr record {
    own = λ g. absurd (free.free place here g);
    basic = λ i li ne g. absurd (free.free i li g);
    free = λ g. refl;
  }

  turned_positive : (e : End) (y : Fraction) → 0 < y.den → 0 < (turned_for e (negative_of y)).den
  turned_positive Low y h = h
  turned_positive High y h = h

  none_both : (a z n d : ℤ) → a ≡ pos 0 → z ≡ pos 0 → a *ℤ n ≡ z *ℤ d
  none_both a z n d e g = ap (λ (y : ℤ). y *ℤ n) e ∙ zero-*ℤ n ∙ sym (ap (λ (y : ℤ). y *ℤ d) g ∙ zero-*ℤ d)

  own_both : (e : End) (a z n d : ℤ) → a ≡ toward e d → z ≡ toward e n → a *ℤ n ≡ z *ℤ d
  own_both e a z n d h g = ap (λ (y : ℤ). y *ℤ n) h ∙ toward-mul e d n ∙ ap (toward e) (mul_comm_ℤ d n) ∙ sym (toward-mul e n d) ∙ ap (λ (y : ℤ). y *ℤ d) (sym g)

  mult_crossed : (r : ℕ) → r < p.rows → f (row_column p r) *ℤ pos times ≡ mult r *ℤ d
  mult_crossed r lr = elim (placed p s (row_column p r) (omega arith)) [
    | inl free ↦ times-cross d (pos times) (turned_for side (negative_of (s.factor place (row_column p r)))) (f (row_column p r)) (mult r)
        (turned_positive side (s.factor place (row_column p r)) (k.sound.factor place (row_column p r) here free))
        (against-times side d (s.factor place (row_column p r)) (k.table.line place (row_column p r)) (k.shown.factor place (row_column p r) here free)) (mult_free r lr free)
    | inr at ↦ elim (same_or_other at.0 place) [
      | inl e ↦ let own : s.basic place ≡ row_column p r = ap s.basic (sym e) ∙ at.2 in
          own_both side (f (row_column p r)) (mult r) (pos times) d (ap f (sym own) ∙ f_own) (mult_own r lr own)
      | inr ne ↦ none_both (f (row_column p r)) (mult r) (pos times) d (ap f (sym at.2) ∙ f_basic at.0 at.1 ne) (mult_basic r at.0 lr at.1 ne at.2)
    ]
  ]

  rest_crossed : (v : ℕ) → v < p.variables → f v *ℤ pos times ≡ rest p 0 mult v *ℤ d
  rest_crossed v lt =
      rest-is p v lt 0 mult f (pos times) d (pos 0) mult_crossed
      (dot-against side (columns p) (k.table.line place) (unit p v lt) (k.of.lines (unit p v lt) (unit-direction p v lt) place here) ∙ sym (*ℤ-zero d))
      (zero-*ℤ (pos times) ∙ sym (zero-*ℤ (p.cost v)))

  -- ---- signs

  -- no column may enter, so each that can move brings the value no nearer
  f_sign : (j : ℕ) → IsFree p s j → high_end p j ≢ Some (low_end p j) → pos 0 ≤ℤ toward (s.stands j) (f j)
  f_sign j free moves =
      let e = s.stands j in
      let z = toward side (toward e (k.table.line place j)) in elim (above_or_not z) [
        | inl w ↦ absurd (empty.none j record {
          free = free;
          moves = moves;
          back = toward_back side e (s.factor place j).num
              (above-of_fraction side e d (s.factor place j) (k.table.line place j) k.shown.positive (k.sound.factor place j here free) (k.shown.factor place j here free) w);
        })
        | inr le ↦ subst (λ (y : ℤ). pos 0 ≤ℤ y) (sym (against-toward side e (k.table.line place j))) (negative_above z le)
      ]
    where
      negative_above : (z : ℤ) → z ≤ℤ pos 0 → pos 0 ≤ℤ neg_ℤ z
      negative_above z h = omega (arith, additive, h)

  -- a row that is at least 0 is past no high end
  own_low : (e : End) (w : ℤ) (r : ℕ) → IsPast p s place e w → p.equal r ≡ false → s.basic place ≡ row_column p r → e ≡ Low
  own_low Low w r past ge own = refl
  own_low High w r past ge own = absurd (none_is_not_some (high_end p (row_column p r)) w (row-high_at_least p r ge) (ap (high_end p) (sym own) ∙ past.0))

  pub mult-signed : AreSigned p mult
  mult-signed r lr ge = elim (placed p s (row_column p r) (omega arith)) [
    | inl free ↦ sign-crossed Low (f (row_column p r)) (pos times) (mult r) d above k.shown.positive (mult_crossed r lr)
        (subst (λ (w : End). pos 0 ≤ℤ toward w (f (row_column p r))) (row-stands_low p s k r ge free) (f_sign (row_column p r) free (row-moves p r ge)))
    | inr at ↦ elim (same_or_other at.0 place) [
      | inl e ↦ let own : s.basic place ≡ row_column p r = ap s.basic (sym e) ∙ at.2 in
          subst (λ (z : ℤ). pos 0 ≤ℤ z) (sym (mult_own r lr own ∙ ap (λ (w : End). toward w (pos times)) (own_low side end r empty.leaves.past ge own))) (omega (arith, additive))
      | inr ne ↦ omega (arith, additive, mult_basic r at.0 lr at.1 ne at.2)
    ]
  ]

  -- ---- the number

  abbrev b : ℕ
  b = s.basic place

  -- how far the column is past its end
  abbrev gap : ℤ
  gap = toward side (pos times) *ℤ (end *ℤ d -ℤ x b)

  b_end : end_value p b side ≡ end
  b_end = past-end p s place side end empty.leaves.past

  gap_above : (e : End) → IsPast p s place e end → pos 0 <ℤ (toward e (pos times) *ℤ (end *ℤ d -ℤ x b))
  gap_above Low past =
      pos-mul (pos times) (end *ℤ d -ℤ x b) above
      (apart (x b) (end *ℤ d) (below_end d end (x b) (s.value place).num (pos (s.value place).den) k.shown.positive (positive (k.sound.value place here)) (k.shown.value place here) past.1))
    where
      apart : (m n : ℤ) → m <ℤ n → pos 0 <ℤ (n -ℤ m)
      apart m n h = omega (arith, additive, h)
  gap_above High past =
      turned (pos times) (end *ℤ d) (x b)
      (pos-mul (pos times) (x b -ℤ end *ℤ d) above
      (apart (end *ℤ d) (x b) (above_end d end (x b) (s.value place).num (pos (s.value place).den) k.shown.positive (positive (k.sound.value place here)) (k.shown.value place here) past.1)))
    where
      apart : (m n : ℤ) → m <ℤ n → pos 0 <ℤ (n -ℤ m)
      apart m n h = omega (arith, additive, h)

      turned : (t m n : ℤ) → pos 0 <ℤ (t *ℤ (n -ℤ m)) → pos 0 <ℤ (neg_ℤ t *ℤ (m -ℤ n))
      turned t m n h = subst (λ (z : ℤ). pos 0 <ℤ z) (same t m n) h
        where
          same : (t m n : ℤ) → t *ℤ (n -ℤ m) ≡ neg_ℤ t *ℤ (m -ℤ n)
          same t m n = simp sorted (omega (arith, additive))

  module _ (proper : IsProper p) where
    -- what a column adds: the gap, for the one that is past its end
    abbrev g : ℕ → ℤ
    g = at_one b gap

    g_own : (j : ℕ) → b ≡ j → g j ≡ gap
    g_own j e = chosen j b gap (pos 0) (sym e)

    g_other : (j : ℕ) → b ≢ j → g j ≡ pos 0
    g_other j ne = passed j b gap (pos 0) (λ e. ne (sym e))

    least_at : (v : ℕ) → v < p.variables → int_min (rest p 0 mult v *ℤ p.low v) (rest p 0 mult v *ℤ p.high v) *ℤ d ≡ rest p 0 mult v *ℤ x v +ℤ g v
    least_at v lt = elim (placed p s v (omega arith)) [
      | inl free ↦
          least-stands p v (s.stands v) (rest p 0 mult v) (x v) d lt (proper v lt) (k.shown.stands v free)
          (λ ne. sign-crossed (s.stands v) (f v) (pos times) (rest p 0 mult v) d above k.shown.positive (rest_crossed v lt) (f_sign v free (variable-moves p v lt ne)))
          ∙ adds_nothing (rest p 0 mult v *ℤ x v) (g v) (g_other v (free.free place here))
      | inr at ↦ elim (same_or_other at.0 place) [
        | inl e ↦ let own : b ≡ v = ap s.basic (sym e) ∙ at.2 in own_least v lt own
        | inr ne ↦ no_rest (rest p 0 mult v) (p.low v) (p.high v) d (x v) (g v)
            (none-crossed (f v) (pos times) (rest p 0 mult v) d k.shown.positive (ap f (sym at.2) ∙ f_basic at.0 at.1 ne) (rest_crossed v lt))
            (g_other v (λ own. ne (k.sound.apart at.0 place at.1 here (at.2 ∙ sym own))))
      ]
    ]
      where
        adds_nothing : (z y : ℤ) → y ≡ pos 0 → z ≡ z +ℤ y
        adds_nothing z y e = omega (arith, additive, e)

        no_rest : (r low high d x y : ℤ) → r ≡ pos 0 → y ≡ pos 0 → int_min (r *ℤ low) (r *ℤ high) *ℤ d ≡ r *ℤ x +ℤ y
        no_rest r low high d x y e w = ap (λ (z : ℤ). z *ℤ d) (least-none r low high e) ∙ omega (arith, additive, zero-*ℤ d, zero-*ℤ x, ap (λ (z : ℤ). z *ℤ x) e, w)

        own_least : (v : ℕ) → v < p.variables → b ≡ v → int_min (rest p 0 mult v *ℤ p.low v) (rest p 0 mult v *ℤ p.high v) *ℤ d ≡ rest p 0 mult v *ℤ x v +ℤ g v
        own_least v lt own =
            let r = rest p 0 mult v in
            let is : r ≡ toward side (pos times) = own-crossed side (pos times) r d k.shown.positive (ap (λ (z : ℤ). z *ℤ pos times) (sym (ap f (sym own) ∙ f_own)) ∙ rest_crossed v lt) in
            let sign : pos 0 ≤ℤ toward side r = subst (λ (z : ℤ). pos 0 ≤ℤ z) (sym (ap (toward side) is ∙ toward-self side (pos times))) (omega (arith, additive)) in
            let there : end_of (p.low v) (p.high v) side ≡ end = sym (variable-end p v side lt) ∙ ap (λ (j : ℕ). end_value p j side) (sym own) ∙ b_end in
            ap (λ (z : ℤ). z *ℤ d) (least-end side r (p.low v) (p.high v) (proper v lt) sign ∙ ap (λ (z : ℤ). r *ℤ z) there)
            ∙ split r end d (x v) ∙ ap (λ (z : ℤ). r *ℤ x v +ℤ z *ℤ (end *ℤ d -ℤ x v)) is
            ∙ ap (λ (j : ℕ). r *ℤ x v +ℤ toward side (pos times) *ℤ (end *ℤ d -ℤ x j)) (sym own) ∙ ap (λ (z : ℤ). r *ℤ x v +ℤ z) (sym (g_own v own))
          where
            split : (r e d x : ℤ) → (r *ℤ e) *ℤ d ≡ r *ℤ x +ℤ r *ℤ (e *ℤ d -ℤ x)
            split r e d x = simp sorted (omega (arith, additive))

    row_at : (r : ℕ) → r < p.rows → mult r *ℤ x (row_column p r) +ℤ g (row_column p r) ≡ pos 0
    row_at r lr = elim (placed p s (row_column p r) (omega arith)) [
      | inl free ↦ second_none (mult r) (x (row_column p r)) (g (row_column p r))
          (k.shown.stands (row_column p r) free ∙ ap (λ (z : ℤ). z *ℤ d) (row-end p r (s.stands (row_column p r))) ∙ zero-*ℤ d)
          (g_other (row_column p r) (free.free place here))
      | inr at ↦ elim (same_or_other at.0 place) [
        | inl e ↦ let own : b ≡ row_column p r = ap s.basic (sym e) ∙ at.2 in
            own_row (mult r) (toward side (pos times)) end d (x (row_column p r)) (g (row_column p r)) (mult_own r lr own)
            (sym b_end ∙ ap (λ (j : ℕ). end_value p j side) own ∙ row-end p r side)
            (g_own (row_column p r) own ∙ ap (λ (j : ℕ). toward side (pos times) *ℤ (end *ℤ d -ℤ x j)) own)
        | inr ne ↦ first_none (mult r) (x (row_column p r)) (g (row_column p r)) (mult_basic r at.0 lr at.1 ne at.2)
            (g_other (row_column p r) (λ own. ne (k.sound.apart at.0 place at.1 here (at.2 ∙ sym own))))
      ]
    ]
      where
        first_none : (m x y : ℤ) → m ≡ pos 0 → y ≡ pos 0 → m *ℤ x +ℤ y ≡ pos 0
        first_none m x y e w = omega (arith, additive, ap (λ (z : ℤ). z *ℤ x) e, zero-*ℤ x, w)

        second_none : (m x y : ℤ) → x ≡ pos 0 → y ≡ pos 0 → m *ℤ x +ℤ y ≡ pos 0
        second_none m x y e w = omega (arith, additive, ap (λ (z : ℤ). m *ℤ z) e, *ℤ-zero m, w)

        own_row : (m t e d x y : ℤ) → m ≡ t → e ≡ pos 0 → y ≡ t *ℤ (e *ℤ d -ℤ x) → m *ℤ x +ℤ y ≡ pos 0
        own_row m t e d x y hm he hy =
            omega (arith, additive, ap (λ (z : ℤ). z *ℤ x) hm, hy, split t e d x, ap (λ (z : ℤ). t *ℤ (z *ℤ d)) he, ap (λ (z : ℤ). t *ℤ z) (zero-*ℤ d), *ℤ-zero t)
          where
            split : (t e d x : ℤ) → t *ℤ (e *ℤ d -ℤ x) ≡ t *ℤ (e *ℤ d) -ℤ t *ℤ x
            split t e d x = simp sorted (omega (arith, additive))

    -- the multipliers are added up to more than 0
    pub number-above : pos 0 <ℤ number p 0 mult
    number-above =
        let sum : number p 0 mult *ℤ d ≡ gap =
        number-at p 0 mult x g d k.of.point least_at row_at
        ∙ omega (arith, additive, zero-*ℤ (cost_value p x), sum-at_one (columns p) b gap (k.sound.columns place here)) in
        lt-cancel d (pos 0) (number p 0 mult) k.shown.positive
        (omega (arith, additive, *ℤ-zero d, mul_comm_ℤ d (number p 0 mult), sum, gap_above side empty.leaves.past))

-- ---- each row has one multiplier

turned_den : (side : End) (y : Fraction) → 0 < y.den → 0 < (turned_for side y).den
turned_den Low y h = h
turned_den High y h = h

pub empty-there : (p : Program) (steps : ℕ) (s : State) (place : ℕ) (side : End) (r : ℕ) → Reaches p steps s → place < p.rows → r < p.rows
    → (x : Fraction) × (0 < x.den) × IsEmptyMultiplier p s place side r x
empty-there p steps s place side r h here lt =
    let k = reached p steps s h in elim (placed p s (row_column p r) (omega arith)) [
      | inl f ↦ (
        turned_for side (negative_of (s.factor place (row_column p r))),
        turned_den side (negative_of (s.factor place (row_column p r))) (k.sound.factor place (row_column p r) here f),
        record { own = λ g. absurd (f.free place here g); basic = λ i li ne g. absurd (f.free i li g); free = λ g. refl },
      )
      | inr at ↦ elim (same_or_other at.0 place) [
        | inl e ↦ (
          turned_for side (whole (pos 1)),
          turned_den side (whole (pos 1)) (omega arith),
          record {
            own = λ g. refl;
            basic = λ i li ne g. absurd (ne (k.sound.apart i at.0 li at.1 (g ∙ sym at.2) ∙ e));
            free = λ g. absurd (g.free at.0 at.1 at.2);
          },
        )
        | inr ne ↦ (
          whole (pos 0),
          omega arith,
          record {
            own = λ g. absurd (ne (k.sound.apart at.0 place at.1 here (at.2 ∙ sym g)));
            basic = λ i li other g. refl;
            free = λ g. absurd (g.free at.0 at.1 at.2);
          },
        )
      ]
    ]

pub empty-one : (p : Program) (s : State) (place : ℕ) (side : End) (r : ℕ) (x y : Fraction) → r < p.rows → IsEmptyMultiplier p s place side r x
    → IsEmptyMultiplier p s place side r y → x ≡ y
empty-one p s place side r x y lt h g = elim (placed p s (row_column p r) (omega arith)) [
  | inl f ↦ h.free f ∙ sym (g.free f)
  | inr at ↦ elim (same_or_other at.0 place) [
    | inl e ↦ let own : s.basic place ≡ row_column p r = ap s.basic (sym e) ∙ at.2 in h.own own ∙ sym (g.own own)
    | inr ne ↦ h.basic at.0 at.1 ne at.2 ∙ sym (g.basic at.0 at.1 ne at.2)
  ]
]

-- ---- the law

pub empty-signed : (p : Program) (steps : ℕ) (s : State) (place : ℕ) (side : End) (end : ℤ) (times : ℕ) (mult : ℕ → ℤ) → Reaches p steps s → IsEmpty p s place side end
    → 0 < times → AreEmptyOver p s place side times mult → AreSigned p mult
empty-signed p steps s place side end times mult h empty some are = mult-signed p s (reached p steps s h) place side end empty times mult some are

pub empty-number : (p : Program) (steps : ℕ) (s : State) (place : ℕ) (side : End) (end : ℤ) (times : ℕ) (mult : ℕ → ℤ) → IsProper p → Reaches p steps s
    → IsEmpty p s place side end → 0 < times → AreEmptyOver p s place side times mult → pos 0 <ℤ number p 0 mult
empty-number p steps s place side end times mult proper h empty some are = number-above p s (reached p steps s h) place side end empty times mult some are proper
