-- A step of the run: the state after it is sound, and the table after the pivot stands for it.
use Rattle.std.proofs.Common.{◌≡◌, ◌≢◌, ◌∙◌, sym, ap, subst, ℕ, ◌*◌, ◌<◌, ◌⊎◌, inl, inr, ℤ, pos, neg_ℤ, ◌+ℤ◌, ◌-ℤ◌, ◌*ℤ◌, ◌<ℤ◌, unsigned_abs, Option, Some, None, unwrap_or, arith, refl}
use Rattle.std.proofs.Math.IntN.{*ℤ-zero, zero-*ℤ}
use Rattle.integers.proofs.Ring.{additive, sorted, mul_assoc_ℤ}
use Rattle.integers.proofs.Order.{pos-mul}
use Rattle.integers.proofs.AtKey.{same_or_other, chosen, passed}
use Rattle.exact_num.specs.Fraction.{Fraction, sum_of, negative_of, difference_of, product_of, quotient_of}
use Rattle.exact_num.proofs.Cancelling.{positive-product}
use Rattle.exact_num.proofs.Signs.{positive-size}
use Rattle.exact_run.specs.Operations.{whole, IsReduced}
use Rattle.exact_run.specs.Programs.{Program, columns, high_end, end_value}
use Rattle.exact_run.specs.States.{State, IsFree}
use Rattle.exact_run.specs.Steps.{IsPast, BringsBack, Pivot, leaving, StaysFree, IsPivot, AreChanged, IsStep}
use Rattle.exact_run.specs.declared.ends.End.{End}
use Rattle.exact_run.specs.declared.ends.End.TheVariants.{Low, High}
use Rattle.run_laws.specs.Points.{IsTimes}
use Rattle.run_laws.proofs.Times.{times-sum, times-negative, times-difference, times-product, times-quotient, times-scaled, times-reduced, times-whole, factor-dropped, square-positive, one_times}
use Rattle.run_laws.proofs.Tables.{Table, IsSound, IsShown, times_as}
use Rattle.run_laws.proofs.Pivots.{above_zero, pivot_of, gap_of, along, kept, added, next, IsTurn, along-basic, along-entering, along-others}

under_other : (z : ℤ) → z <ℤ pos 0 → z ≢ pos 0
under_other z h e = let k : pos 0 <ℤ pos 0 = subst (λ (x : ℤ). x <ℤ pos 0) e h in absurd k.lt

back_other : (side stands : End) (z : ℤ) → BringsBack side stands z → z ≢ pos 0
back_other Low Low z h = above_zero z h
back_other Low High z h = under_other z h
back_other High Low z h = under_other z h
back_other High High z h = above_zero z h

-- a factor that is not 0 is not so in the table
other_in_table : (d : ℤ) (x : Fraction) (z : ℤ) → pos 0 <ℤ d → x.num ≢ pos 0 → IsTimes d x z → z ≢ pos 0
other_in_table d x z p ne h e =
    ne (factor-dropped d x.num (above_zero d p) (sym h ∙ ap (λ (y : ℤ). y *ℤ pos x.den) e ∙ zero-*ℤ (pos x.den)))

-- ---- ends

some_is : (o : Option ℤ) (e : ℤ) → o ≡ Some e → o ≡ Some (unwrap_or o (pos 0))
some_is None e h = absurd (never e h)
  where
    never : (e : ℤ) → None ≡ Some e → ⊥
    never e h = cc
some_is (Some x) e h = refl

unwrapped : (o : Option ℤ) (e : ℤ) → o ≡ Some e → unwrap_or o (pos 0) ≡ e
unwrapped o e h = ap (λ (x : Option ℤ). unwrap_or x (pos 0)) h

-- the end that a place's column is past is that of its side
pub past-end : (p : Program) (s : State) (r : ℕ) (side : End) (e : ℤ) → IsPast p s r side e → end_value p (s.basic r) side ≡ e
past-end p s r Low e h = h.0
past-end p s r High e h = unwrapped (high_end p (s.basic r)) e h.0

past-high : (p : Program) (s : State) (r : ℕ) (side : End) (e : ℤ) → IsPast p s r side e → side ≡ High → high_end p (s.basic r) ≡ Some (end_value p (s.basic r) High)
past-high p s r Low e h is = absurd (never is)
  where
    never : Low ≡ High → ⊥
    never h = cc
past-high p s r High e h is = some_is (high_end p (s.basic r)) e h.0

-- ---- the pivot is one of the table

pub turn_of : (p : Program) (s : State) (v : Pivot) (t : Table) → IsSound p s → IsShown p s t → IsPivot p s v → IsTurn p s v t
turn_of p s v t sound shown pivot =
    let c = pivot.enters.candidate in record {
      sound = sound;
      shown = shown;
      place = pivot.leaves.place;
      column = c.free.among;
      free = c.free.free;
      nonzero = other_in_table t.scale (s.factor v.place v.entering) (pivot_of v t) shown.positive
          (back_other v.side (s.stands v.entering) (s.factor v.place v.entering).num c.back) (shown.factor v.place v.entering pivot.leaves.place c.free);
    }

-- ---- columns after the step

module _ (p : Program) (s : State) (v : Pivot) (after : State) (t : Table) (sound : IsSound p s) (shown : IsShown p s t) (pivot : IsPivot p s v) (step : IsStep p s v after) where
  place : v.place < p.rows
  place = pivot.leaves.place

  enters : IsFree p s v.entering
  enters = pivot.enters.candidate.free

  turn : IsTurn p s v t
  turn = turn_of p s v t sound shown pivot

  -- the column that leaves is free then, and the others are that were
  pub free_after : (j : ℕ) → IsFree p after j → (j ≡ leaving s v) ⊎ StaysFree p s v j
  free_after j f = elim (same_or_other j (leaving s v)) [
    | inl e ↦ inl e
    | inr ne ↦ inr record {
      free = record {
        among = f.among;
        free = λ r lt. elim (same_or_other r v.place) [
          | inl e ↦ (λ is. ne (sym is ∙ ap s.basic e))
          | inr d ↦ (λ is. f.free r lt (step.basic_others r lt d ∙ is))
        ];
      };
      stays = λ e. f.free v.place place (step.basic ∙ sym e);
    }
  ]

  -- the basic column of a place then
  basic_after : (P : ℕ → ℕ → Type 0) → P v.place v.entering → ((r : ℕ) → r < p.rows → r ≢ v.place → P r (s.basic r)) → (r : ℕ) → r < p.rows → P r (after.basic r)
  basic_after P at others r lt = elim (same_or_other r v.place) [
    | inl e ↦ subst (λ (i : ℕ). P i (after.basic i)) (sym e) (subst (λ (j : ℕ). P v.place j) (sym step.basic) at)
    | inr ne ↦ subst (λ (j : ℕ). P r j) (sym (step.basic_others r lt ne)) (others r lt ne)
  ]

  apart_after : (r q : ℕ) → r < p.rows → q < p.rows → after.basic r ≡ after.basic q → r ≡ q
  apart_after r q lr lq is = elim (same_or_other r v.place) [
    | inl er ↦ elim (same_or_other q v.place) [
      | inl eq ↦ er ∙ sym eq
      | inr nq ↦ absurd (enters.free q lq (sym (step.basic_others q lq nq) ∙ sym is ∙ ap after.basic er ∙ step.basic))
    ]
    | inr nr ↦ elim (same_or_other q v.place) [
      | inl eq ↦ absurd (enters.free r lr (sym (step.basic_others r lr nr) ∙ is ∙ ap after.basic eq ∙ step.basic))
      | inr nq ↦ sound.apart r q lr lq (sym (step.basic_others r lr nr) ∙ is ∙ step.basic_others q lq nq)
    ]
  ]

  -- ---- denominators

  changed_positive : (before later : ℕ → Fraction) → AreChanged p s v before later → (j : ℕ) → IsFree p after j → 0 < (later j).den
  changed_positive before later h j f = elim (free_after j f) [
    | inl e ↦ subst (λ (i : ℕ). 0 < (later i).den) (sym e) h.leaving.positive
    | inr stays ↦ (h.others j stays).positive
  ]

  own_positive : (j : ℕ) → IsFree p after j → 0 < (v.own j).den
  own_positive j f = elim (free_after j f) [
    | inl e ↦ subst (λ (i : ℕ). 0 < (v.own i).den) (sym e) pivot.own_leaving.positive
    | inr stays ↦ (pivot.own j stays).positive
  ]

  -- the factors of the place are those of the pivot
  own_after : (j : ℕ) → IsFree p after j → after.factor v.place j ≡ v.own j
  own_after j f = elim (free_after j f) [
    | inl e ↦ ap (after.factor v.place) e ∙ step.factor_leaving ∙ ap v.own (sym e)
    | inr stays ↦ step.factor j stays
  ]

  factor_positive : (r j : ℕ) → r < p.rows → IsFree p after j → 0 < (after.factor r j).den
  factor_positive r j lt f = elim (same_or_other r v.place) [
    | inl e ↦ subst (λ (i : ℕ). 0 < (after.factor i j).den) (sym e) (subst (λ (x : Fraction). 0 < x.den) (sym (own_after j f)) (own_positive j f))
    | inr ne ↦ changed_positive (s.factor r) (after.factor r) (step.factor_others r lt ne) j f
  ]

  ends_after : (j : ℕ) → IsFree p after j → after.stands j ≡ High → high_end p j ≡ Some (end_value p j High)
  ends_after j f high = elim (free_after j f) [
    | inl e ↦ subst (λ (i : ℕ). high_end p i ≡ Some (end_value p i High)) (sym e)
        (past-high p s v.place v.side v.end pivot.leaves.past (sym step.stands ∙ ap after.stands (sym e) ∙ high))
    | inr stays ↦ sound.ends j stays.free (sym (step.stands_others j stays) ∙ high)
  ]

  pub step-sound : IsSound p after
  step-sound = record {
    columns = basic_after (λ r j. j < columns p) enters.among (λ r lt ne. sound.columns r lt);
    apart = apart_after;
    value = λ r lt. elim (same_or_other r v.place) [
      | inl e ↦ subst (λ (i : ℕ). 0 < (after.value i).den) (sym e) step.value.positive
      | inr ne ↦ (step.value_others r lt ne).positive
    ];
    factor = factor_positive;
    cost = λ j f. changed_positive s.cost after.cost step.cost j f;
    ends = ends_after;
  }

  -- ---- the pivot's factors

  abbrev a : ℤ
  a = pivot_of v t

  abbrev d : ℤ
  d = t.scale

  abbrev m : ℕ → ℤ
  m j = t.line v.place j

  abbrev by : Fraction
  by = s.factor v.place v.entering

  by_is : IsTimes d by a
  by_is = shown.factor v.place v.entering place enters

  by_other : by.num ≢ pos 0
  by_other = back_other v.side (s.stands v.entering) by.num pivot.enters.candidate.back

  quotient_positive : (x : Fraction) → 0 < x.den → 0 < (quotient_of x by).den
  quotient_positive x h = positive-product x.den (unsigned_abs by.num) h (positive-size by.num by_other)

  -- so many times a quotient by the factor on the column that enters
  solved : (x y : Fraction) (n : ℤ) → 0 < x.den → IsTimes d x n → IsReduced (quotient_of x by) y → IsTimes a y n
  solved x y n h w r = times-reduced a (quotient_of x by) y n (quotient_positive x h) (times-quotient d x by n a shown.positive w by_is) r

  one_positive : 0 < 1
  one_positive = omega arith

  own_leaving_is : IsTimes a (v.own (leaving s v)) (pos 1 *ℤ d)
  own_leaving_is = solved (whole (pos 1)) (v.own (leaving s v)) (pos 1 *ℤ d) one_positive (times-whole d (pos 1)) pivot.own_leaving

  own_is : (j : ℕ) → StaysFree p s v j → IsTimes a (v.own j) (neg_ℤ (m j))
  own_is j f = solved (negative_of (s.factor v.place j)) (v.own j) (neg_ℤ (m j)) (sound.factor v.place j place f.free)
      (times-negative d (s.factor v.place j) (m j) (shown.factor v.place j place f.free)) (pivot.own j f)

  moved_is : IsTimes a v.moved (gap_of s v t)
  moved_is = solved (difference_of (whole v.end) (s.value v.place)) v.moved (gap_of s v t) (positive-product 1 (s.value v.place).den one_positive (sound.value v.place place))
      (times-difference d (whole v.end) (s.value v.place) (v.end *ℤ d) (t.point (s.basic v.place)) (times-whole d v.end) (shown.value v.place place)) pivot.moved

  -- ---- factors that change

  added_is : (x y z later : Fraction) (k n w : ℤ) → 0 < x.den → 0 < y.den → 0 < z.den → IsTimes d x k → IsTimes d y n → IsTimes a z w
      → IsReduced (sum_of x (product_of y z)) later → IsTimes (d *ℤ (a *ℤ a)) later ((k *ℤ a +ℤ n *ℤ w) *ℤ a)
  added_is x y z later k n w px py pz hx hy hz r =
      times_as ((d *ℤ a) *ℤ a) (d *ℤ (a *ℤ a)) later ((k *ℤ a +ℤ n *ℤ w) *ℤ a) ((k *ℤ a +ℤ n *ℤ w) *ℤ a) (mul_assoc_ℤ d a a) refl
      (times-scaled (d *ℤ a) a later (k *ℤ a +ℤ n *ℤ w)
      (times-reduced (d *ℤ a) (sum_of x (product_of y z)) later (k *ℤ a +ℤ n *ℤ w) (positive-product x.den (y.den * z.den) px (positive-product y.den z.den py pz))
      (times-sum (d *ℤ a) x (product_of y z) (k *ℤ a) (n *ℤ w) (times-scaled d a x k hx) (times-product d a y z n w hy hz)) r))

  part_is : (y z later : Fraction) (n w : ℤ) → 0 < y.den → 0 < z.den → IsTimes d y n → IsTimes a z w → IsReduced (product_of y z) later
      → IsTimes (d *ℤ (a *ℤ a)) later ((n *ℤ w) *ℤ a)
  part_is y z later n w py pz hy hz r =
      times_as ((d *ℤ a) *ℤ a) (d *ℤ (a *ℤ a)) later ((n *ℤ w) *ℤ a) ((n *ℤ w) *ℤ a) (mul_assoc_ℤ d a a) refl
      (times-scaled (d *ℤ a) a later (n *ℤ w)
      (times-reduced (d *ℤ a) (product_of y z) later (n *ℤ w) (positive-product y.den z.den py pz) (times-product d a y z n w hy hz) r))

  at_leaving : (a d n x y : ℤ) → x ≡ pos 0 → y ≡ neg_ℤ d → (n *ℤ (pos 1 *ℤ d)) *ℤ a ≡ (a *ℤ a) *ℤ x +ℤ neg_ℤ (a *ℤ n) *ℤ y
  at_leaving a d n x y e g =
      order a d n ∙ ap (λ (z : ℤ). (a *ℤ a) *ℤ z +ℤ neg_ℤ (a *ℤ n) *ℤ neg_ℤ d) (sym e) ∙ ap (λ (z : ℤ). (a *ℤ a) *ℤ x +ℤ neg_ℤ (a *ℤ n) *ℤ z) (sym g)
    where
      plain : (a d n : ℤ) → (n *ℤ d) *ℤ a ≡ neg_ℤ (a *ℤ n) *ℤ neg_ℤ d
      plain a d n = simp sorted refl

      order : (a d n : ℤ) → (n *ℤ (pos 1 *ℤ d)) *ℤ a ≡ (a *ℤ a) *ℤ pos 0 +ℤ neg_ℤ (a *ℤ n) *ℤ neg_ℤ d
      order a d n = ap (λ (z : ℤ). (n *ℤ z) *ℤ a) (one_times d) ∙ omega (arith, additive, plain a d n, *ℤ-zero (a *ℤ a))

  at_others : (a k n m : ℤ) → (k *ℤ a +ℤ n *ℤ neg_ℤ m) *ℤ a ≡ (a *ℤ a) *ℤ k +ℤ neg_ℤ (a *ℤ n) *ℤ m
  at_others a k n m = simp sorted (omega (arith, additive))

  pub changed_is : (before later : ℕ → Fraction) (n : ℕ → ℤ) → AreChanged p s v before later → n (leaving s v) ≡ pos 0
      → ((j : ℕ) → IsFree p s j → 0 < (before j).den) → ((j : ℕ) → IsFree p s j → IsTimes d (before j) (n j))
      → (j : ℕ) → IsFree p after j → IsTimes (d *ℤ (a *ℤ a)) (later j) ((a *ℤ a) *ℤ n j +ℤ neg_ℤ (a *ℤ n v.entering) *ℤ m j)
  changed_is before later n changed none positives are j f = elim (free_after j f) [
    | inl e ↦ subst (λ (i : ℕ). IsTimes (d *ℤ (a *ℤ a)) (later i) ((a *ℤ a) *ℤ n i +ℤ neg_ℤ (a *ℤ n v.entering) *ℤ m i)) (sym e)
        (times_as (d *ℤ (a *ℤ a)) (d *ℤ (a *ℤ a)) (later (leaving s v)) ((n v.entering *ℤ (pos 1 *ℤ d)) *ℤ a)
        ((a *ℤ a) *ℤ n (leaving s v) +ℤ neg_ℤ (a *ℤ n v.entering) *ℤ m (leaving s v)) refl
        (at_leaving a d (n v.entering) (n (leaving s v)) (m (leaving s v)) none (shown.own v.place place))
        (part_is (before v.entering) (v.own (leaving s v)) (later (leaving s v)) (n v.entering) (pos 1 *ℤ d) (positives v.entering enters) pivot.own_leaving.positive
        (are v.entering enters) own_leaving_is changed.leaving))
    | inr stays ↦ times_as (d *ℤ (a *ℤ a)) (d *ℤ (a *ℤ a)) (later j) ((n j *ℤ a +ℤ n v.entering *ℤ neg_ℤ (m j)) *ℤ a)
        ((a *ℤ a) *ℤ n j +ℤ neg_ℤ (a *ℤ n v.entering) *ℤ m j) refl (at_others a (n j) (n v.entering) (m j))
        (added_is (before j) (before v.entering) (v.own j) (later j) (n j) (n v.entering) (neg_ℤ (m j)) (positives j stays.free) (positives v.entering enters)
        (pivot.own j stays).positive (are j stays.free) (are v.entering enters) (own_is j stays) (changed.others j stays))
  ]

  -- ---- lines after the step

  kept_place : kept v t v.place ≡ neg_ℤ (d *ℤ a)
  kept_place = chosen v.place v.place (neg_ℤ (d *ℤ a)) (a *ℤ a) refl

  added_place : added v t v.place ≡ pos 0
  added_place = chosen v.place v.place (pos 0) (neg_ℤ (a *ℤ t.line v.place v.entering)) refl

  line_place : (j : ℕ) → (next p s v t).line v.place j ≡ neg_ℤ (d *ℤ a) *ℤ m j
  line_place j =
      ap (λ (z : ℤ). z *ℤ m j +ℤ added v t v.place *ℤ m j) kept_place ∙ ap (λ (z : ℤ). neg_ℤ (d *ℤ a) *ℤ m j +ℤ z *ℤ m j) added_place
      ∙ omega (arith, additive, zero-*ℤ (m j))

  line_other : (r j : ℕ) → r ≢ v.place → (next p s v t).line r j ≡ (a *ℤ a) *ℤ t.line r j +ℤ neg_ℤ (a *ℤ t.line r v.entering) *ℤ m j
  line_other r j ne =
      ap (λ (z : ℤ). z *ℤ t.line r j +ℤ added v t r *ℤ m j) (passed r v.place (neg_ℤ (d *ℤ a)) (a *ℤ a) ne)
      ∙ ap (λ (z : ℤ). (a *ℤ a) *ℤ t.line r j +ℤ z *ℤ m j) (passed r v.place (pos 0) (neg_ℤ (a *ℤ t.line r v.entering)) ne)

  own_here : (d a : ℤ) → neg_ℤ (d *ℤ a) *ℤ a ≡ neg_ℤ (d *ℤ (a *ℤ a))
  own_here d a = simp sorted refl

  own_there : (d a b x y : ℤ) → x ≡ neg_ℤ d → y ≡ pos 0 → (a *ℤ a) *ℤ x +ℤ b *ℤ y ≡ neg_ℤ (d *ℤ (a *ℤ a))
  own_there d a b x y e g =
      ap (λ (z : ℤ). (a *ℤ a) *ℤ z +ℤ b *ℤ y) e ∙ ap (λ (z : ℤ). (a *ℤ a) *ℤ neg_ℤ d +ℤ b *ℤ z) g ∙ omega (arith, additive, *ℤ-zero b, order d a)
    where
      order : (d a : ℤ) → (a *ℤ a) *ℤ neg_ℤ d ≡ neg_ℤ (d *ℤ (a *ℤ a))
      order d a = simp sorted refl

  none_there : (c b x y : ℤ) → x ≡ pos 0 → y ≡ pos 0 → c *ℤ x +ℤ b *ℤ y ≡ pos 0
  none_there c b x y e g = ap (λ (z : ℤ). c *ℤ z +ℤ b *ℤ y) e ∙ ap (λ (z : ℤ). c *ℤ pos 0 +ℤ b *ℤ z) g ∙ omega (arith, additive, *ℤ-zero b, *ℤ-zero c)

  entering_gone : (a n : ℤ) → (a *ℤ a) *ℤ n +ℤ neg_ℤ (a *ℤ n) *ℤ a ≡ pos 0
  entering_gone a n = simp sorted (omega (arith, additive))

  basic_next : (r q : ℕ) → r < p.rows → q < p.rows → r ≢ q → (next p s v t).line r (after.basic q) ≡ pos 0
  basic_next r q lr lq ne = elim (same_or_other q v.place) [
    | inl eq ↦
        ap (λ (i : ℕ). (next p s v t).line r (after.basic i)) eq ∙ ap ((next p s v t).line r) step.basic ∙ line_other r v.entering (λ er. ne (er ∙ sym eq))
        ∙ entering_gone a (t.line r v.entering)
    | inr nq ↦ ap ((next p s v t).line r) (step.basic_others q lq nq) ∙ elim (same_or_other r v.place) [
      | inl er ↦ ap (λ (i : ℕ). (next p s v t).line i (s.basic q)) er ∙ line_place (s.basic q)
          ∙ ap (λ (z : ℤ). neg_ℤ (d *ℤ a) *ℤ z) (shown.basic v.place q place lq (λ e. nq (sym e))) ∙ *ℤ-zero (neg_ℤ (d *ℤ a))
      | inr nr ↦ line_other r (s.basic q) nr
          ∙ none_there (a *ℤ a) (neg_ℤ (a *ℤ t.line r v.entering)) (t.line r (s.basic q)) (m (s.basic q)) (shown.basic r q lr lq ne)
          (shown.basic v.place q place lq (λ e. nq (sym e)))
    ]
  ]

  place_leaving : (d a y : ℤ) → y ≡ neg_ℤ d → (pos 1 *ℤ d) *ℤ (d *ℤ a) ≡ neg_ℤ (d *ℤ a) *ℤ y
  place_leaving d a y e = ap (λ (z : ℤ). z *ℤ (d *ℤ a)) (one_times d) ∙ order d a ∙ ap (λ (z : ℤ). neg_ℤ (d *ℤ a) *ℤ z) (sym e)
    where
      order : (d a : ℤ) → d *ℤ (d *ℤ a) ≡ neg_ℤ (d *ℤ a) *ℤ neg_ℤ d
      order d a = simp sorted refl

  place_others : (d a m : ℤ) → neg_ℤ m *ℤ (d *ℤ a) ≡ neg_ℤ (d *ℤ a) *ℤ m
  place_others d a m = simp sorted refl

  scale_place : (d a : ℤ) → a *ℤ (d *ℤ a) ≡ d *ℤ (a *ℤ a)
  scale_place d a = simp sorted refl

  place_factor : (j : ℕ) → IsFree p after j → IsTimes (d *ℤ (a *ℤ a)) (v.own j) (neg_ℤ (d *ℤ a) *ℤ m j)
  place_factor j f = elim (free_after j f) [
    | inl e ↦ subst (λ (i : ℕ). IsTimes (d *ℤ (a *ℤ a)) (v.own i) (neg_ℤ (d *ℤ a) *ℤ m i)) (sym e)
        (times_as (a *ℤ (d *ℤ a)) (d *ℤ (a *ℤ a)) (v.own (leaving s v)) ((pos 1 *ℤ d) *ℤ (d *ℤ a)) (neg_ℤ (d *ℤ a) *ℤ m (leaving s v)) (scale_place d a)
        (place_leaving d a (m (leaving s v)) (shown.own v.place place)) (times-scaled a (d *ℤ a) (v.own (leaving s v)) (pos 1 *ℤ d) own_leaving_is))
    | inr stays ↦ times_as (a *ℤ (d *ℤ a)) (d *ℤ (a *ℤ a)) (v.own j) (neg_ℤ (m j) *ℤ (d *ℤ a)) (neg_ℤ (d *ℤ a) *ℤ m j) (scale_place d a) (place_others d a (m j))
        (times-scaled a (d *ℤ a) (v.own j) (neg_ℤ (m j)) (own_is j stays))
  ]

  factor_next : (r j : ℕ) → r < p.rows → IsFree p after j → IsTimes (d *ℤ (a *ℤ a)) (after.factor r j) ((next p s v t).line r j)
  factor_next r j lt f = elim (same_or_other r v.place) [
    | inl e ↦ subst (λ (i : ℕ). IsTimes (d *ℤ (a *ℤ a)) (after.factor i j) ((next p s v t).line i j)) (sym e)
        (subst (λ (z : ℤ). IsTimes (d *ℤ (a *ℤ a)) (after.factor v.place j) z) (sym (line_place j))
        (subst (λ (x : Fraction). IsTimes (d *ℤ (a *ℤ a)) x (neg_ℤ (d *ℤ a) *ℤ m j)) (sym (own_after j f)) (place_factor j f)))
    | inr ne ↦ subst (λ (z : ℤ). IsTimes (d *ℤ (a *ℤ a)) (after.factor r j) z) (sym (line_other r j ne))
        (changed_is (s.factor r) (after.factor r) (t.line r) (step.factor_others r lt ne) (shown.basic r v.place lt place ne)
        (λ i g. sound.factor r i lt g) (λ i g. shown.factor r i lt g) j f)
  ]

  -- ---- values after the step

  value_place : (e d a g x u : ℤ) → x ≡ e *ℤ d → u ≡ d → (e *ℤ a +ℤ g) *ℤ (d *ℤ a) ≡ (a *ℤ a) *ℤ x +ℤ (a *ℤ g) *ℤ u
  value_place e d a g x u h k =
      order e d a g ∙ ap (λ (z : ℤ). (a *ℤ a) *ℤ z +ℤ (a *ℤ g) *ℤ d) (sym h) ∙ ap (λ (z : ℤ). (a *ℤ a) *ℤ x +ℤ (a *ℤ g) *ℤ z) (sym k)
    where
      order : (e d a g : ℤ) → (e *ℤ a +ℤ g) *ℤ (d *ℤ a) ≡ (a *ℤ a) *ℤ (e *ℤ d) +ℤ (a *ℤ g) *ℤ d
      order e d a g = simp sorted (omega (arith, additive))

  value_other : (a g x n u : ℤ) → u ≡ n → (x *ℤ a +ℤ n *ℤ g) *ℤ a ≡ (a *ℤ a) *ℤ x +ℤ (a *ℤ g) *ℤ u
  value_other a g x n u k = order a g x n ∙ ap (λ (z : ℤ). (a *ℤ a) *ℤ x +ℤ (a *ℤ g) *ℤ z) (sym k)
    where
      order : (a g x n : ℤ) → (x *ℤ a +ℤ n *ℤ g) *ℤ a ≡ (a *ℤ a) *ℤ x +ℤ (a *ℤ g) *ℤ n
      order a g x n = simp sorted (omega (arith, additive))

  value_leaving : (e d a x u : ℤ) → u ≡ a → (a *ℤ a) *ℤ x +ℤ (a *ℤ (e *ℤ d -ℤ x)) *ℤ u ≡ e *ℤ (d *ℤ (a *ℤ a))
  value_leaving e d a x u h = ap (λ (z : ℤ). (a *ℤ a) *ℤ x +ℤ (a *ℤ (e *ℤ d -ℤ x)) *ℤ z) h ∙ order e d a x
    where
      order : (e d a x : ℤ) → (a *ℤ a) *ℤ x +ℤ (a *ℤ (e *ℤ d -ℤ x)) *ℤ a ≡ e *ℤ (d *ℤ (a *ℤ a))
      order e d a x = simp sorted (omega (arith, additive))

  value_stays : (e d a g x u : ℤ) → x ≡ e *ℤ d → u ≡ pos 0 → (a *ℤ a) *ℤ x +ℤ (a *ℤ g) *ℤ u ≡ e *ℤ (d *ℤ (a *ℤ a))
  value_stays e d a g x u h k =
      ap (λ (z : ℤ). (a *ℤ a) *ℤ z +ℤ (a *ℤ g) *ℤ u) h ∙ ap (λ (z : ℤ). (a *ℤ a) *ℤ (e *ℤ d) +ℤ (a *ℤ g) *ℤ z) k ∙ omega (arith, additive, *ℤ-zero (a *ℤ g), order e d a)
    where
      order : (e d a : ℤ) → (a *ℤ a) *ℤ (e *ℤ d) ≡ e *ℤ (d *ℤ (a *ℤ a))
      order e d a = simp sorted refl

  abbrev entered : ℤ
  entered = end_value p v.entering (s.stands v.entering)

  entered_is : IsTimes (d *ℤ (a *ℤ a)) (after.value v.place) ((next p s v t).point v.entering)
  entered_is =
      times_as (a *ℤ (d *ℤ a)) (d *ℤ (a *ℤ a)) (after.value v.place) ((entered *ℤ a +ℤ gap_of s v t) *ℤ (d *ℤ a)) ((next p s v t).point v.entering) (scale_place d a)
      (value_place entered d a (gap_of s v t) (t.point v.entering) (along p s v t v.entering) (shown.stands v.entering enters) (along-entering p s v t turn))
      (times-scaled a (d *ℤ a) (after.value v.place) (entered *ℤ a +ℤ gap_of s v t)
      (times-reduced a (sum_of (whole entered) v.moved) (after.value v.place) (entered *ℤ a +ℤ gap_of s v t) (positive-product 1 v.moved.den one_positive pivot.moved.positive)
      (times-sum a (whole entered) v.moved (entered *ℤ a) (gap_of s v t) (times-whole a entered) moved_is) step.value))

  stayed_is : (r : ℕ) → r < p.rows → r ≢ v.place → IsTimes (d *ℤ (a *ℤ a)) (after.value r) ((next p s v t).point (s.basic r))
  stayed_is r lt ne =
      times_as (d *ℤ (a *ℤ a)) (d *ℤ (a *ℤ a)) (after.value r) ((t.point (s.basic r) *ℤ a +ℤ t.line r v.entering *ℤ gap_of s v t) *ℤ a) ((next p s v t).point (s.basic r)) refl
      (value_other a (gap_of s v t) (t.point (s.basic r)) (t.line r v.entering) (along p s v t (s.basic r)) (along-basic p s v t turn r lt))
      (added_is (s.value r) (s.factor r v.entering) v.moved (after.value r) (t.point (s.basic r)) (t.line r v.entering) (gap_of s v t) (sound.value r lt)
      (sound.factor r v.entering lt enters) pivot.moved.positive (shown.value r lt) (shown.factor r v.entering lt enters) moved_is (step.value_others r lt ne))

  stands_next : (j : ℕ) → IsFree p after j → (next p s v t).point j ≡ end_value p j (after.stands j) *ℤ (d *ℤ (a *ℤ a))
  stands_next j f = elim (free_after j f) [
    | inl e ↦ subst (λ (i : ℕ). (next p s v t).point i ≡ end_value p i (after.stands i) *ℤ (d *ℤ (a *ℤ a))) (sym e)
        (value_leaving v.end d a (t.point (leaving s v)) (along p s v t (leaving s v)) (along-basic p s v t turn v.place place)
        ∙ ap (λ (z : ℤ). z *ℤ (d *ℤ (a *ℤ a))) (sym (past-end p s v.place v.side v.end pivot.leaves.past))
        ∙ ap (λ (w : End). end_value p (leaving s v) w *ℤ (d *ℤ (a *ℤ a))) (sym step.stands))
    | inr stays ↦
        value_stays (end_value p j (s.stands j)) d a (gap_of s v t) (t.point j) (along p s v t j) (shown.stands j stays.free)
        (along-others p s v t turn j stays.free.free stays.stays)
        ∙ ap (λ (w : End). end_value p j w *ℤ (d *ℤ (a *ℤ a))) (sym (step.stands_others j stays))
  ]

  pub step-shown : IsShown p after (next p s v t)
  step-shown = record {
    positive = pos-mul d (a *ℤ a) shown.positive (square-positive a turn.nonzero);
    own = basic_after (λ r j. (next p s v t).line r j ≡ neg_ℤ (d *ℤ (a *ℤ a))) (line_place v.entering ∙ own_here d a)
        (λ r lt ne. line_other r (s.basic r) ne
        ∙ own_there d a (neg_ℤ (a *ℤ t.line r v.entering)) (t.line r (s.basic r)) (m (s.basic r)) (shown.own r lt) (shown.basic v.place r place lt (λ e. ne (sym e))));
    basic = basic_next;
    factor = factor_next;
    cost_basic = basic_after (λ r j. (next p s v t).cost j ≡ pos 0) (entering_gone a (t.cost v.entering))
        (λ r lt ne. none_there (a *ℤ a) (neg_ℤ (a *ℤ t.cost v.entering)) (t.cost (s.basic r)) (m (s.basic r)) (shown.cost_basic r lt)
        (shown.basic v.place r place lt (λ e. ne (sym e))));
    cost = λ j f. changed_is s.cost after.cost t.cost step.cost (shown.cost_basic v.place place) sound.cost shown.cost j f;
    value = basic_after (λ r j. IsTimes (d *ℤ (a *ℤ a)) (after.value r) ((next p s v t).point j)) entered_is stayed_is;
    stands = stands_next;
  }
