-- The cost's factors have the sign of the end at which their columns stand, and keep it.
use Rattle.std.proofs.Common.{◌≡◌, ◌≢◌, ◌∙◌, sym, ap, subst, ℕ, zero, suc, ◌*◌, ◌<◌, ◌⊎◌, inl, inr, ℤ, pos, negsuc, neg_ℤ, ◌+ℤ◌, ◌-ℤ◌, ◌*ℤ◌, ◌≤ℤ◌, ◌<ℤ◌, unsigned_abs, Some, arith, refl}
use Rattle.std.proofs.Math.IntN.{*ℤ-zero}
use Rattle.std.proofs.lemmas.Int.{ints}
use Rattle.integers.proofs.Ring.{additive, sorted, mul-neg, neg-mul, mul_comm_ℤ}
use Rattle.integers.proofs.Order.{nonneg-mul, pos-mul, le-mul, le-cancel}
use Rattle.exact_num.specs.Fraction.{Fraction}
use Rattle.exact_run.specs.Programs.{Program, low_end, high_end}
use Rattle.exact_run.specs.States.{State, IsFree, IsStart}
use Rattle.exact_run.specs.Steps.{BringsBack, IsCandidate, Pivot, leaving, StaysFree, IsPivot, IsStep}
use Rattle.exact_run.specs.declared.ends.End.{End}
use Rattle.exact_run.specs.declared.ends.End.TheVariants.{Low, High}
use Rattle.run_laws.specs.Points.{IsTimes}
use Rattle.run_laws.proofs.Times.{positive, same_sign, same_sign_strictly, sides_turned}
use Rattle.run_laws.proofs.Tables.{Table, IsSound, IsShown, start-free, sign_or}
use Rattle.run_laws.proofs.Pivots.{next}
use Rattle.run_laws.proofs.Steps.{free_after, step-sound, step-shown}

-- a number, or its negative at a high end
abbrev pub toward : End → ℤ → ℤ
toward Low z = z
toward High z = neg_ℤ z

-- Of each free column that can move the cost's factor is not below 0 at a low end, and not above 0 at a high one.
abbrev pub IsDual : Program → State → Type 0
IsDual p s = (j : ℕ) → IsFree p s j → high_end p j ≢ Some (low_end p j) → pos 0 ≤ℤ toward (s.stands j) (s.cost j).num

-- ---- numbers turned

pub toward-mul : (e : End) (x y : ℤ) → toward e x *ℤ y ≡ toward e (x *ℤ y)
toward-mul Low x y = refl
toward-mul High x y = neg-mul x y

pub toward-mul_right : (e : End) (x y : ℤ) → x *ℤ toward e y ≡ toward e (x *ℤ y)
toward-mul_right Low x y = refl
toward-mul_right High x y = mul-neg x y

-- so many times a fraction with the other sign
pub toward-times : (e : End) (d z n : ℤ) (q : ℕ) → z *ℤ pos q ≡ d *ℤ n → toward e z *ℤ pos q ≡ d *ℤ toward e n
toward-times e d z n q h = toward-mul e z (pos q) ∙ ap (toward e) h ∙ sym (toward-mul_right e d n)

abs-toward : (e : End) (z : ℤ) → unsigned_abs z ≡ unsigned_abs (toward e z)
abs-toward Low z = refl
abs-toward High (pos zero) = refl
abs-toward High (pos (suc n)) = refl
abs-toward High (negsuc n) = refl

size-toward : (e : End) (z : ℤ) → pos 0 ≤ℤ toward e z → pos (unsigned_abs z) ≡ toward e z
size-toward Low (pos n) h = refl
size-toward Low (negsuc n) h = absurd h.le
size-toward High (pos zero) h = refl
size-toward High (pos (suc n)) h = absurd h.le
size-toward High (negsuc n) h = refl

size-twice : (side e : End) (z : ℤ) → pos 0 ≤ℤ toward side (toward e z) → pos (unsigned_abs z) ≡ toward side (toward e z)
size-twice side e z h = ap pos (abs-toward e z) ∙ size-toward side (toward e z) h

back_toward : (side e : End) (z : ℤ) → BringsBack side e z → pos 0 <ℤ toward side (toward e z)
back_toward Low Low z h = h
back_toward Low High z h = omega (arith, additive, h)
back_toward High Low z h = omega (arith, additive, h)
back_toward High High z h = omega (arith, additive, h)

pub toward_back : (side e : End) (z : ℤ) → pos 0 <ℤ toward side (toward e z) → BringsBack side e z
toward_back Low Low z h = h
toward_back Low High z h = omega (arith, additive, h)
toward_back High Low z h = omega (arith, additive, h)
toward_back High High z h = omega (arith, additive, h)

-- the sign in a table and that of the fraction
pub sign-in_table : (e : End) (d : ℤ) (x : Fraction) (z : ℤ) → pos 0 <ℤ d → 0 < x.den → IsTimes d x z → pos 0 ≤ℤ toward e x.num → pos 0 ≤ℤ toward e z
sign-in_table e d x z pd px h k = same_sign d (pos x.den) (toward e z) (toward e x.num) pd (positive px) (toward-times e d z x.num x.den h) k

sign-of_fraction : (e : End) (d : ℤ) (x : Fraction) (z : ℤ) → pos 0 <ℤ d → 0 < x.den → IsTimes d x z → pos 0 ≤ℤ toward e z → pos 0 ≤ℤ toward e x.num
sign-of_fraction e d x z pd px h k =
    same_sign (pos x.den) d (toward e x.num) (toward e z) (positive px) pd (sides_turned d (pos x.den) (toward e z) (toward e x.num) (toward-times e d z x.num x.den h)) k

twice-times : (side e : End) (d : ℤ) (x : Fraction) (z : ℤ) → IsTimes d x z → toward side (toward e z) *ℤ pos x.den ≡ d *ℤ toward side (toward e x.num)
twice-times side e d x z h = toward-times side d (toward e z) (toward e x.num) x.den (toward-times e d z x.num x.den h)

pub above-in_table : (side e : End) (d : ℤ) (x : Fraction) (z : ℤ) → pos 0 <ℤ d → 0 < x.den → IsTimes d x z → pos 0 <ℤ toward side (toward e x.num)
    → pos 0 <ℤ toward side (toward e z)
above-in_table side e d x z pd px h k =
    same_sign_strictly d (pos x.den) (toward side (toward e z)) (toward side (toward e x.num)) pd (positive px) (twice-times side e d x z h) k

pub above-of_fraction : (side e : End) (d : ℤ) (x : Fraction) (z : ℤ) → pos 0 <ℤ d → 0 < x.den → IsTimes d x z → pos 0 <ℤ toward side (toward e z)
    → pos 0 <ℤ toward side (toward e x.num)
above-of_fraction side e d x z pd px h k =
    same_sign_strictly (pos x.den) d (toward side (toward e x.num)) (toward side (toward e z)) (positive px) pd
    (sides_turned d (pos x.den) (toward side (toward e z)) (toward side (toward e x.num)) (twice-times side e d x z h)) k

pub above_or_not : (z : ℤ) → (pos 0 <ℤ z) ⊎ (z ≤ℤ pos 0)
above_or_not z = grind (arith, ints)

-- ---- the start

module _ (p : Program) (s : State) (h : IsStart p s) where
  start_sign : (j : ℕ) → j < p.variables → (pos 0 ≤ℤ p.cost j) ⊎ (p.cost j <ℤ pos 0) → pos 0 ≤ℤ toward (s.stands j) (p.cost j)
  start_sign j lt (inl le) = subst (λ (e : End). pos 0 ≤ℤ toward e (p.cost j)) (sym (h.low j lt le)) le
  start_sign j lt (inr less) = subst (λ (e : End). pos 0 ≤ℤ toward e (p.cost j)) (sym (h.high j lt less)) (omega (arith, additive, less))

  pub start-dual : IsDual p s
  start-dual j f moves =
      let lt = start-free p s h j f in
      subst (λ (x : Fraction). pos 0 ≤ℤ toward (s.stands j) x.num) (sym (h.cost j lt)) (start_sign j lt (sign_or (p.cost j)))

-- ---- a step

-- a product of two that are both turned
both_turned : (e : End) (x y : ℤ) → x *ℤ y ≡ toward e x *ℤ toward e y
both_turned Low x y = refl
both_turned High x y = negatives x y
  where
    negatives : (x y : ℤ) → x *ℤ y ≡ neg_ℤ x *ℤ neg_ℤ y
    negatives x y = simp sorted refl

toward-less : (e : End) (m x n y : ℤ) → toward e (m *ℤ x +ℤ neg_ℤ n *ℤ y) ≡ m *ℤ toward e x +ℤ neg_ℤ n *ℤ toward e y
toward-less Low m x n y = refl
toward-less High m x n y = negatives m x n y
  where
    negatives : (m x n y : ℤ) → neg_ℤ (m *ℤ x +ℤ neg_ℤ n *ℤ y) ≡ m *ℤ neg_ℤ x +ℤ neg_ℤ n *ℤ neg_ℤ y
    negatives m x n y = simp sorted (omega (arith, additive))

swapped_last : (x y z : ℤ) → (x *ℤ y) *ℤ z ≡ (x *ℤ z) *ℤ y
swapped_last x y z = simp sorted refl

-- the cost's factor after the step, turned
turned_cost : (side k e : End) (a c x n : ℤ)
    → toward e ((a *ℤ a) *ℤ x +ℤ neg_ℤ (a *ℤ c) *ℤ n)
    ≡ toward side (toward k a) *ℤ (toward side (toward k a) *ℤ toward e x -ℤ toward k c *ℤ toward side (toward e n))
turned_cost side k e a c x n =
    let square : a *ℤ a ≡ toward side (toward k a) *ℤ toward side (toward k a) = both_turned k a a ∙ both_turned side (toward k a) (toward k a) in
    let cross : (a *ℤ c) *ℤ toward e n ≡ (toward side (toward k a) *ℤ toward k c) *ℤ toward side (toward e n) =
    ap (λ (z : ℤ). z *ℤ toward e n) (both_turned k a c) ∙ swapped_last (toward k a) (toward k c) (toward e n)
    ∙ ap (λ (z : ℤ). z *ℤ toward k c) (both_turned side (toward k a) (toward e n)) ∙ swapped_last (toward side (toward k a)) (toward side (toward e n)) (toward k c) in
    toward-less e (a *ℤ a) x (a *ℤ c) n ∙ factored a c (toward e x) (toward e n) (toward side (toward k a)) (toward k c) (toward side (toward e n)) square cross
  where
    factored : (a c x n p q r : ℤ) → a *ℤ a ≡ p *ℤ p → (a *ℤ c) *ℤ n ≡ (p *ℤ q) *ℤ r → (a *ℤ a) *ℤ x +ℤ neg_ℤ (a *ℤ c) *ℤ n ≡ p *ℤ (p *ℤ x -ℤ q *ℤ r)
    factored a c x n p q r h g = omega (arith, additive, ap (λ (z : ℤ). z *ℤ x) h, neg-mul (a *ℤ c) n, g, plain p q r x)
      where
        plain : (p q r x : ℤ) → p *ℤ (p *ℤ x -ℤ q *ℤ r) ≡ (p *ℤ p) *ℤ x -ℤ (p *ℤ q) *ℤ r
        plain p q r x = simp sorted (omega (arith, additive))

turned_leaving : (side k : End) (a c d : ℤ) → toward side (neg_ℤ (a *ℤ c) *ℤ neg_ℤ d) ≡ (toward side (toward k a) *ℤ toward k c) *ℤ d
turned_leaving side k a c d =
    ap (toward side) (sym (both_turned High (a *ℤ c) d)) ∙ sym (toward-mul side (a *ℤ c) d)
    ∙ ap (λ (z : ℤ). toward side z *ℤ d) (both_turned k a c) ∙ ap (λ (z : ℤ). z *ℤ d) (sym (toward-mul side (toward k a) (toward k c)))

-- products of a least ratio and another
products_left : (d m n p q x y : ℤ) → ((m *ℤ n) *ℤ (p *ℤ q)) *ℤ (x *ℤ y) ≡ ((x *ℤ m) *ℤ (y *ℤ n)) *ℤ (p *ℤ q)
products_left d m n p q x y = simp sorted refl

products_right : (d c f p q : ℤ) → ((d *ℤ c) *ℤ (d *ℤ f)) *ℤ (p *ℤ q) ≡ (d *ℤ d) *ℤ ((c *ℤ q) *ℤ (p *ℤ f))
products_right d c f p q = simp sorted refl

products_swapped : (m n p q : ℤ) → (m *ℤ n) *ℤ (p *ℤ q) ≡ (p *ℤ q) *ℤ (n *ℤ m)
products_swapped m n p q = simp sorted refl

-- z over the number d is c over m, and so on: the products of the table stand as those of the fractions
products : (d zk fj zj ak ck fk cj nj : ℤ) (mk qk mj qj : ℤ) → pos 0 <ℤ d → pos 0 <ℤ mk → pos 0 <ℤ qk → pos 0 <ℤ mj → pos 0 <ℤ qj
    → zk *ℤ mk ≡ d *ℤ ck → fj *ℤ qj ≡ d *ℤ nj → zj *ℤ mj ≡ d *ℤ cj → ak *ℤ qk ≡ d *ℤ fk
    → ((ck *ℤ qk) *ℤ (mj *ℤ nj)) ≤ℤ ((cj *ℤ qj) *ℤ (mk *ℤ fk)) → (zk *ℤ fj) ≤ℤ (zj *ℤ ak)
products d zk fj zj ak ck fk cj nj mk qk mj qj pd pmk pqk pmj pqj ek ej gj gk le =
    let all = (mk *ℤ qj) *ℤ (mj *ℤ qk) in
    let left : all *ℤ (zk *ℤ fj) ≡ (d *ℤ d) *ℤ ((ck *ℤ qk) *ℤ (mj *ℤ nj)) =
    products_left d mk qj mj qk zk fj ∙ ap (λ (z : ℤ). (z *ℤ (fj *ℤ qj)) *ℤ (mj *ℤ qk)) ek ∙ ap (λ (z : ℤ). ((d *ℤ ck) *ℤ z) *ℤ (mj *ℤ qk)) ej ∙ products_right d ck nj mj qk in
    let right : all *ℤ (zj *ℤ ak) ≡ (d *ℤ d) *ℤ ((cj *ℤ qj) *ℤ (mk *ℤ fk)) =
    ap (λ (z : ℤ). z *ℤ (zj *ℤ ak)) (products_swapped mk qj mj qk) ∙ products_left_again zj ak mj qk qj mk
    ∙ ap (λ (z : ℤ). (z *ℤ (ak *ℤ qk)) *ℤ (mk *ℤ qj)) gj ∙ ap (λ (z : ℤ). ((d *ℤ cj) *ℤ z) *ℤ (mk *ℤ qj)) gk ∙ products_right d cj fk mk qj in
    le-cancel all (zk *ℤ fj) (zj *ℤ ak) (pos-mul (mk *ℤ qj) (mj *ℤ qk) (pos-mul mk qj pmk pqj) (pos-mul mj qk pmj pqk))
    (omega (arith, additive, left, right, le-mul (d *ℤ d) ((ck *ℤ qk) *ℤ (mj *ℤ nj)) ((cj *ℤ qj) *ℤ (mk *ℤ fk)) (let pdd = pos-mul d d pd pd in omega (arith, additive, pdd)) le))
  where
    products_left_again : (x y m q n r : ℤ) → ((m *ℤ q) *ℤ (n *ℤ r)) *ℤ (x *ℤ y) ≡ ((x *ℤ m) *ℤ (y *ℤ q)) *ℤ (r *ℤ n)
    products_left_again x y m q n r = simp sorted refl

-- the same of two ratios of a state
ratio_products : (d : ℤ) (ck fk cj nj : Fraction) (zk fj zj ak : ℤ) (side k e : End) → pos 0 <ℤ d → 0 < ck.den → 0 < fk.den → 0 < cj.den → 0 < nj.den
    → IsTimes d ck zk → IsTimes d nj fj → IsTimes d cj zj → IsTimes d fk ak
    → pos 0 ≤ℤ toward k ck.num → pos 0 ≤ℤ toward side (toward e nj.num) → pos 0 ≤ℤ toward e cj.num → pos 0 ≤ℤ toward side (toward k fk.num)
    → (pos (unsigned_abs ck.num * fk.den) *ℤ pos (cj.den * unsigned_abs nj.num)) ≤ℤ (pos (unsigned_abs cj.num * nj.den) *ℤ pos (ck.den * unsigned_abs fk.num))
    → (toward k zk *ℤ toward side (toward e fj)) ≤ℤ (toward e zj *ℤ toward side (toward k ak))
ratio_products d ck fk cj nj zk fj zj ak side k e pd pmk pqk pmj pqj hk hn hj hf sk sn sj sf le =
    products d (toward k zk) (toward side (toward e fj)) (toward e zj) (toward side (toward k ak))
    (pos (unsigned_abs ck.num)) (pos (unsigned_abs fk.num)) (pos (unsigned_abs cj.num)) (pos (unsigned_abs nj.num))
    (pos ck.den) (pos fk.den) (pos cj.den) (pos nj.den) pd (positive pmk) (positive pqk) (positive pmj) (positive pqj)
    (toward-times k d zk ck.num ck.den hk ∙ ap (λ (z : ℤ). d *ℤ z) (sym (size-toward k ck.num sk)))
    (twice-times side e d nj fj hn ∙ ap (λ (z : ℤ). d *ℤ z) (sym (size-twice side e nj.num sn)))
    (toward-times e d zj cj.num cj.den hj ∙ ap (λ (z : ℤ). d *ℤ z) (sym (size-toward e cj.num sj)))
    (twice-times side k d fk ak hf ∙ ap (λ (z : ℤ). d *ℤ z) (sym (size-twice side k fk.num sf)))
    le

weakly : (z : ℤ) → pos 0 <ℤ z → pos 0 ≤ℤ z
weakly z h = omega (arith, additive, h)

module _ (p : Program) (s : State) (v : Pivot) (after : State) (t : Table) (sound : IsSound p s) (shown : IsShown p s t) (dual : IsDual p s) (pivot : IsPivot p s v) (step : IsStep p s v after) where
  place : v.place < p.rows
  place = pivot.leaves.place

  abbrev k : ℕ
  k = v.entering

  enters : IsCandidate p s v.place v.side k
  enters = pivot.enters.candidate

  abbrev turned_pivot : ℤ
  turned_pivot = toward v.side (toward (s.stands k) (t.line v.place k))

  by_above : pos 0 <ℤ toward v.side (toward (s.stands k) (s.factor v.place k).num)
  by_above = back_toward v.side (s.stands k) (s.factor v.place k).num enters.back

  pivot_above : pos 0 <ℤ turned_pivot
  pivot_above = above-in_table v.side (s.stands k) t.scale (s.factor v.place k) (t.line v.place k) shown.positive (sound.factor v.place k place enters.free)
      (shown.factor v.place k place enters.free) by_above

  cost_above : pos 0 ≤ℤ toward (s.stands k) (t.cost k)
  cost_above = sign-in_table (s.stands k) t.scale (s.cost k) (t.cost k) shown.positive (sound.cost k enters.free) (shown.cost k enters.free) (dual k enters.free enters.moves)

  after_positive : pos 0 <ℤ (next p s v t).scale
  after_positive = (step-shown p s v after t sound shown pivot step).positive

  -- the sign of the cost's factor after the step is that of the table
  after_sign : (j : ℕ) (e : End) → IsFree p after j → pos 0 ≤ℤ toward e ((next p s v t).cost j) → pos 0 ≤ℤ toward e (after.cost j).num
  after_sign j e f h = sign-of_fraction e (next p s v t).scale (after.cost j) ((next p s v t).cost j) after_positive ((step-sound p s v after t sound shown pivot step).cost j f)
      ((step-shown p s v after t sound shown pivot step).cost j f) h

  leaving_sign : pos 0 ≤ℤ toward v.side ((next p s v t).cost (leaving s v))
  leaving_sign =
      let a = t.line v.place k in
      let is : (next p s v t).cost (leaving s v) ≡ neg_ℤ (a *ℤ t.cost k) *ℤ neg_ℤ t.scale =
      no_cost a (t.cost k) t.scale (t.cost (leaving s v)) (t.line v.place (leaving s v)) (shown.cost_basic v.place place) (shown.own v.place place) in
      subst (λ (z : ℤ). pos 0 ≤ℤ z) (sym (ap (toward v.side) is ∙ turned_leaving v.side (s.stands k) a (t.cost k) t.scale))
      (nonneg-mul (turned_pivot *ℤ toward (s.stands k) (t.cost k)) t.scale
      (nonneg-mul turned_pivot (toward (s.stands k) (t.cost k)) (weakly turned_pivot pivot_above) cost_above) (weakly t.scale shown.positive))
    where
      no_cost : (a c d x y : ℤ) → x ≡ pos 0 → y ≡ neg_ℤ d → (a *ℤ a) *ℤ x +ℤ neg_ℤ (a *ℤ c) *ℤ y ≡ neg_ℤ (a *ℤ c) *ℤ neg_ℤ d
      no_cost a c d x y e g =
          ap (λ (z : ℤ). (a *ℤ a) *ℤ z +ℤ neg_ℤ (a *ℤ c) *ℤ y) e ∙ ap (λ (z : ℤ). (a *ℤ a) *ℤ pos 0 +ℤ neg_ℤ (a *ℤ c) *ℤ z) g
          ∙ omega (arith, additive, *ℤ-zero (a *ℤ a))

  -- the product with the pivot's factor on the column is at most the other one
  least_product : (j : ℕ) → StaysFree p s v j → high_end p j ≢ Some (low_end p j)
      → (toward (s.stands k) (t.cost k) *ℤ toward v.side (toward (s.stands j) (t.line v.place j))) ≤ℤ (toward (s.stands j) (t.cost j) *ℤ turned_pivot)
  least_product j stays moves =
      let f = stays.free in
      let factor = s.factor v.place j in
      let cost_sign = dual j f moves in elim (above_or_not (toward v.side (toward (s.stands j) factor.num))) [
        | inl above ↦
            let candidate : IsCandidate p s v.place v.side j = record { free = f; moves = moves; back = toward_back v.side (s.stands j) factor.num above } in
            ratio_products t.scale (s.cost k) (s.factor v.place k) (s.cost j) factor (t.cost k) (t.line v.place j) (t.cost j) (t.line v.place k) v.side (s.stands k) (s.stands j)
            shown.positive (sound.cost k enters.free) (sound.factor v.place k place enters.free) (sound.cost j f) (sound.factor v.place j place f)
            (shown.cost k enters.free) (shown.factor v.place j place f) (shown.cost j f) (shown.factor v.place k place enters.free)
            (dual k enters.free enters.moves) (weakly (toward v.side (toward (s.stands j) factor.num)) above) cost_sign
            (weakly (toward v.side (toward (s.stands k) (s.factor v.place k).num)) by_above) (pivot.enters.least j candidate)
        | inr under ↦
            let here : toward v.side (toward (s.stands j) (t.line v.place j)) ≤ℤ pos 0 =
            not_above (toward v.side (toward (s.stands j) (t.line v.place j))) (λ w. contradiction (toward v.side (toward (s.stands j) factor.num)) under
            (above-of_fraction v.side (s.stands j) t.scale factor (t.line v.place j) shown.positive (sound.factor v.place j place f) (shown.factor v.place j place f) w)) in
            apart (toward (s.stands k) (t.cost k)) (toward v.side (toward (s.stands j) (t.line v.place j))) (toward (s.stands j) (t.cost j)) turned_pivot
            cost_above here
            (sign-in_table (s.stands j) t.scale (s.cost j) (t.cost j) shown.positive (sound.cost j f) (shown.cost j f) cost_sign) (weakly turned_pivot pivot_above)
      ]
    where
      not_above : (z : ℤ) → (pos 0 <ℤ z → ⊥) → z ≤ℤ pos 0
      not_above z h = elim (above_or_not z) [
        | inl w ↦ absurd (h w)
        | inr le ↦ le
      ]

      contradiction : (z : ℤ) → z ≤ℤ pos 0 → pos 0 <ℤ z → ⊥
      contradiction z h w = omega (arith, additive, h, w)

      apart : (x y z w : ℤ) → pos 0 ≤ℤ x → y ≤ℤ pos 0 → pos 0 ≤ℤ z → pos 0 ≤ℤ w → (x *ℤ y) ≤ℤ (z *ℤ w)
      apart x y z w hx hy hz hw = omega (arith, additive, le-mul x y (pos 0) hx hy, *ℤ-zero x, nonneg-mul z w hz hw)

  stays_sign : (j : ℕ) → StaysFree p s v j → high_end p j ≢ Some (low_end p j) → pos 0 ≤ℤ toward (s.stands j) ((next p s v t).cost j)
  stays_sign j stays moves =
      let e = s.stands j in
      subst (λ (z : ℤ). pos 0 ≤ℤ z) (sym (turned_cost v.side (s.stands k) e (t.line v.place k) (t.cost k) (t.cost j) (t.line v.place j)))
      (nonneg-mul turned_pivot (turned_pivot *ℤ toward e (t.cost j) -ℤ toward (s.stands k) (t.cost k) *ℤ toward v.side (toward e (t.line v.place j))) (weakly turned_pivot pivot_above)
      (difference (toward (s.stands k) (t.cost k)) (toward v.side (toward e (t.line v.place j))) (toward e (t.cost j)) turned_pivot (least_product j stays moves)))
    where
      difference : (x y z w : ℤ) → (x *ℤ y) ≤ℤ (z *ℤ w) → pos 0 ≤ℤ (w *ℤ z -ℤ x *ℤ y)
      difference x y z w h = omega (arith, additive, h, mul_comm_ℤ z w)

  pub step-dual : IsDual p after
  step-dual j f moves = elim (free_after p s v after t sound shown pivot step j f) [
    | inl e ↦ after_sign j (after.stands j) f
        (subst (λ (w : End). pos 0 ≤ℤ toward w ((next p s v t).cost j)) (sym (ap after.stands e ∙ step.stands))
        (subst (λ (i : ℕ). pos 0 ≤ℤ toward v.side ((next p s v t).cost i)) (sym e) leaving_sign))
    | inr stays ↦ after_sign j (after.stands j) f
        (subst (λ (w : End). pos 0 ≤ℤ toward w ((next p s v t).cost j)) (sym (step.stands_others j stays)) (stays_sign j stays moves))
  ]
