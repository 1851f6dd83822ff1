-- The state at the start, as far as code has made it.
use Rattle.std.proofs.Common.{◌≡◌, ◌≢◌, ◌∙◌, sym, ap, subst, refl, ℕ, zero, suc, ◌+◌, ◌*◌, ◌<◌, ◌≤◌, ◌⊎◌, inl, inr, List, [], ◌∷◌, arith, ℤ, pos, ◌+ℤ◌, ◌*ℤ◌, unsigned_abs, max, if◌then◌else◌, ◌==◌, mul-le-mul_left, Option, Some, None}
use Rattle.std.proofs.lemmas.Int.{ints, unsigned_abs-mul}
use Rattle.integers.specs.Sums.{int_sum_below, sum_below}
use Rattle.integers.proofs.Ring.{additive, linear}
use Rattle.integers.proofs.AtKey.{chosen, passed, sum_below-same}
use Rattle.integers.proofs.ByIndex.{int_sum_below-same, int_sum_below-zero, piece-first}
use Rattle.std.specs.Prelude.{unwrap_or}
use Rattle.exact_run.specs.Operations.{whole}
use Rattle.exact_run.specs.Programs.{Program, low_end, high_end, end_value}
use Rattle.exact_run.specs.declared.ends.End.{End}
use Rattle.exact_run.specs.declared.ends.End.TheVariants.{Low, High}
use Rattle.exact_pivots.specs.Entries.{factor_at, AreBelow}
use Rattle.exact_pivots.specs.Views.{coef_of}
use Rattle.exact_pivots.specs.Fits.{AreTerms, end_size}
use Rattle.exact_pivots.specs.declared.entry.Entry.{Entry}
use Rattle.exact_pivots.specs.declared.program.Coefficient.{Coefficient}
use Rattle.exact_pivots.proofs.Entries.{factor-above}

-- ---- sums

last : (i n : ℕ) → i < suc n → (i < n) ⊎ (i ≡ n)
last i n lt = grind arith

-- a sum to which one term is given in place of 0
one_more : (f g : ℕ → ℤ) (k n : ℕ) → k < n → g k ≡ pos 0 → ((i : ℕ) → i ≢ k → f i ≡ g i) → int_sum_below f n ≡ f k +ℤ int_sum_below g n
one_more f g k zero lt none same = absurd (omega arith)
one_more f g k (suc n) lt none same = elim (last k n lt) [
  | inr e ↦
      let before : int_sum_below f n ≡ int_sum_below g n = int_sum_below-same f g n (λ i below. same i (omega arith)) in
      at_last (int_sum_below f n) (int_sum_below g n) (f n) (f k) (g n) before (ap f (sym e)) (ap g (sym e) ∙ none)
  | inl below ↦ between (int_sum_below f n) (int_sum_below g n) (f n) (g n) (f k) (one_more f g k n below none same) (same n (omega arith))
]
  where
    at_last : (s t a b c : ℤ) → s ≡ t → a ≡ b → c ≡ pos 0 → s +ℤ a ≡ b +ℤ (t +ℤ c)
    at_last s t a b c h k z = omega (arith, additive)

    between : (s t a c b : ℤ) → s ≡ b +ℤ t → a ≡ c → s +ℤ a ≡ b +ℤ (t +ℤ c)
    between s t a c b h k = omega (arith, additive)

one_more_nat : (f g : ℕ → ℕ) (k n : ℕ) → k < n → g k ≡ 0 → ((i : ℕ) → i ≢ k → f i ≡ g i) → sum_below f n ≡ f k + sum_below g n
one_more_nat f g k zero lt none same = absurd (omega arith)
one_more_nat f g k (suc n) lt none same = elim (last k n lt) [
  | inr e ↦
      let before : sum_below f n ≡ sum_below g n = sum_below-same f g n (λ i below. same i (omega arith)) in
      at_last (sum_below f n) (sum_below g n) (f n) (f k) (g n) before (ap f (sym e)) (ap g (sym e) ∙ none)
  | inl below ↦ between (sum_below f n) (sum_below g n) (f n) (g n) (f k) (one_more_nat f g k n below none same) (same n (omega arith))
]
  where
    at_last : (s t a b c : ℕ) → s ≡ t → a ≡ b → c ≡ 0 → s + a ≡ b + (t + c)
    at_last s t a b c h k z = omega arith

    between : (s t a c b : ℕ) → s ≡ b + t → a ≡ c → s + a ≡ b + (t + c)
    between s t a c b h k = omega arith

-- ---- terms

-- no term is of a variable below the first
coef-gap : (ts : List Coefficient) (limit n j : ℕ) → AreTerms limit n ts → j < n → coef_of ts j ≡ pos 0
coef-gap [] limit n j h lt = refl
coef-gap (t ∷ ts) limit n j h lt = passed t.variable j t.value (coef_of ts j) (omega (arith, h.0)) ∙ coef-gap ts limit (t.variable + 1) j h.2 (omega (arith, h.0))

coef-first : (t : Coefficient) (ts : List Coefficient) → coef_of (t ∷ ts) t.variable ≡ t.value
coef-first t ts = chosen t.variable t.variable t.value (coef_of ts t.variable) refl

coef-later : (t : Coefficient) (ts : List Coefficient) (j : ℕ) → j ≢ t.variable → coef_of (t ∷ ts) j ≡ coef_of ts j
coef-later t ts j ne = passed t.variable j t.value (coef_of ts j) (λ e. ne (sym e))

nothing_times : (z : ℤ) → pos 0 *ℤ z ≡ pos 0
nothing_times z = omega (arith, linear)

nothing_of : (n : ℕ) → 0 * n ≡ 0
nothing_of n = omega arith

abbrev pub dot : List Coefficient → (ℕ → ℤ) → ℕ → ℤ
dot ts x n = int_sum_below (λ v. coef_of ts v *ℤ x v) n

abbrev pub sizes : List Coefficient → (ℕ → ℕ) → ℕ → ℕ
sizes ts m n = sum_below (λ v. unsigned_abs (coef_of ts v) * m v) n

dot-first : (t : Coefficient) (ts : List Coefficient) (x : ℕ → ℤ) (limit n : ℕ) → AreTerms limit n (t ∷ ts) → dot (t ∷ ts) x limit ≡ t.value *ℤ x t.variable +ℤ dot ts x limit
dot-first t ts x limit n h =
    one_more (λ v. coef_of (t ∷ ts) v *ℤ x v) (λ v. coef_of ts v *ℤ x v) t.variable limit h.1
    (ap (λ (z : ℤ). z *ℤ x t.variable) (coef-gap ts limit (t.variable + 1) t.variable h.2 (omega arith)) ∙ nothing_times (x t.variable))
    (λ i ne. ap (λ (z : ℤ). z *ℤ x i) (coef-later t ts i ne))
    ∙ ap (λ (z : ℤ). z *ℤ x t.variable +ℤ dot ts x limit) (coef-first t ts)

sizes-first : (t : Coefficient) (ts : List Coefficient) (m : ℕ → ℕ) (limit n : ℕ) → AreTerms limit n (t ∷ ts) → sizes (t ∷ ts) m limit ≡ unsigned_abs t.value * m t.variable + sizes ts m limit
sizes-first t ts m limit n h =
    one_more_nat (λ v. unsigned_abs (coef_of (t ∷ ts) v) * m v) (λ v. unsigned_abs (coef_of ts v) * m v) t.variable limit h.1
    (ap (λ (z : ℤ). unsigned_abs z * m t.variable) (coef-gap ts limit (t.variable + 1) t.variable h.2 (omega arith)) ∙ nothing_of (m t.variable))
    (λ i ne. ap (λ (z : ℤ). unsigned_abs z * m i) (coef-later t ts i ne))
    ∙ ap (λ (z : ℤ). unsigned_abs z * m t.variable + sizes ts m limit) (coef-first t ts)

-- ---- the line of a row

-- the terms below `from` are in the line, the rest is still to come
pub record IsBegun (all rest : List Coefficient) (x : ℕ → ℤ) (m : ℕ → ℕ) (limit : ℕ) (constant sum : ℤ) (weight : ℕ) (es : List Entry) (from : ℕ) : Type 0 where
  pub terms : AreTerms limit from rest
  pub under : AreBelow from es
  pub within : from ≤ limit
  pub rest_is : (j : ℕ) → from ≤ j → coef_of all j ≡ coef_of rest j
  pub done : (j : ℕ) → j < from → factor_at es j ≡ whole (coef_of all j)
  pub total : sum +ℤ dot rest x limit ≡ dot all x limit +ℤ constant
  pub narrow : unsigned_abs sum + sizes rest m limit ≤ weight

-- the variables stand where they are no greater than their ends
pub record AreWithin (x : ℕ → ℤ) (m : ℕ → ℕ) (limit : ℕ) : Type 0 where
  pub within : (v : ℕ) → v < limit → unsigned_abs (x v) ≤ m v

pub begun-start : (all : List Coefficient) (x : ℕ → ℤ) (m : ℕ → ℕ) (limit : ℕ) (constant : ℤ) (es : List Entry) → AreTerms limit 0 all → AreBelow 0 es
    → IsBegun all all x m limit constant constant (unsigned_abs constant + sizes all m limit) es 0
begun-start all x m limit constant es h b = record {
  terms = h;
  under = b;
  within = omega arith;
  rest_is = λ j le. refl;
  done = λ j lt. absurd (omega arith);
  total = two constant (dot all x limit);
  narrow = omega arith;
}
  where
    two : (a b : ℤ) → a +ℤ b ≡ b +ℤ a
    two a b = omega (arith, additive)

-- what a term adds is narrow, and so is the sum with it
pub term-narrow : (t : Coefficient) (ts : List Coefficient) (x : ℕ → ℤ) (m : ℕ → ℕ) (limit n : ℕ) → AreWithin x m limit → AreTerms limit n (t ∷ ts)
    → unsigned_abs (t.value *ℤ x t.variable) + sizes ts m limit ≤ sizes (t ∷ ts) m limit
term-narrow t ts x m limit n w h = omega (arith, sizes-first t ts m limit n h, unsigned_abs-mul t.value (x t.variable), larger (unsigned_abs t.value) (unsigned_abs (x t.variable)) (m t.variable) (w.within t.variable h.1))
  where
    larger : (a b c : ℕ) → b ≤ c → a * b ≤ a * c
    larger a b c h = mul-le-mul_left a h

-- the size of a sum
abs-sum : (a b : ℤ) → unsigned_abs (a +ℤ b) ≤ unsigned_abs a + unsigned_abs b
abs-sum a b = omega (arith, ints)

pub begun-step : (all rest later : List Coefficient) (t : Coefficient) (x : ℕ → ℤ) (m : ℕ → ℕ) (limit : ℕ) (constant sum sum2 : ℤ) (weight : ℕ) (es es2 : List Entry) (from : ℕ)
    → AreWithin x m limit → IsBegun all rest x m limit constant sum weight es from → rest ≡ t ∷ later
    → AreBelow (t.variable + 1) es2 → ((j : ℕ) → factor_at es2 j ≡ (if t.variable == j then whole t.value else factor_at es j))
    → sum2 ≡ sum +ℤ t.value *ℤ x t.variable
    → IsBegun all later x m limit constant sum2 weight es2 (t.variable + 1)
begun-step all rest later t x m limit constant sum sum2 weight es es2 from w h is under put more =
    let terms : AreTerms limit from (t ∷ later) = subst (AreTerms limit from) is h.terms in
    let rest_at : (j : ℕ) → from ≤ j → coef_of all j ≡ coef_of (t ∷ later) j = λ j le. h.rest_is j le ∙ ap (λ (l : List Coefficient). coef_of l j) is in
    let first = dot-first t later x limit from terms in record {
      terms = terms.2;
      under = under;
      within = omega (arith, terms.1);
      rest_is = λ j le. rest_at j (omega (arith, terms.0)) ∙ coef-later t later j (omega arith);
      done = λ j lt. elim (three j from t.variable terms.0 lt) [
        | inl below ↦ put j ∙ passed t.variable j (whole t.value) (factor_at es j) (omega (arith, terms.0)) ∙ h.done j below
        | inr later_on ↦ elim later_on [
          | inl between ↦ put j ∙ passed t.variable j (whole t.value) (factor_at es j) (omega (arith, between)) ∙ factor-above es from j h.under between.0
              ∙ ap whole (sym (rest_at j between.0 ∙ coef-later t later j (omega (arith, between)) ∙ coef-gap later limit (t.variable + 1) j terms.2 (omega (arith, between))))
          | inr at ↦ put j ∙ chosen t.variable j (whole t.value) (factor_at es j) (sym at)
              ∙ ap whole (sym (rest_at j (omega (arith, terms.0)) ∙ ap (coef_of (t ∷ later)) at ∙ coef-first t later))
        ]
      ];
      total = added sum2 sum (t.value *ℤ x t.variable) (dot later x limit) (dot rest x limit) (dot all x limit +ℤ constant) more
          (ap (λ (l : List Coefficient). dot l x limit) is ∙ first) h.total;
      narrow = smaller sum2 sum (t.value *ℤ x t.variable) (sizes later m limit) (sizes rest m limit) (sizes (t ∷ later) m limit) weight more
          (ap (λ (l : List Coefficient). sizes l m limit) is) (term-narrow t later x m limit from w terms) h.narrow;
    }
  where
    three : (j from c : ℕ) → from ≤ c → j < c + 1 → (j < from) ⊎ (((from ≤ j) × (j < c)) ⊎ (j ≡ c))
    three j from c le lt = grind arith

    added : (s2 s p later rest all : ℤ) → s2 ≡ s +ℤ p → rest ≡ p +ℤ later → s +ℤ rest ≡ all → s2 +ℤ later ≡ all
    added s2 s p later rest all h k g = omega (arith, additive)

    smaller : (s2 s p : ℤ) (later rest whole_one weight : ℕ) → s2 ≡ s +ℤ p → rest ≡ whole_one → unsigned_abs p + later ≤ whole_one → unsigned_abs s + rest ≤ weight → unsigned_abs s2 + later ≤ weight
    smaller s2 s p later rest whole_one weight h k g f = omega (arith, ap unsigned_abs h, abs-sum s p)

-- the sum with a term fits
pub sum-narrow : (all rest later : List Coefficient) (t : Coefficient) (x : ℕ → ℤ) (m : ℕ → ℕ) (limit : ℕ) (constant sum : ℤ) (weight : ℕ) (es : List Entry) (from : ℕ)
    → AreWithin x m limit → IsBegun all rest x m limit constant sum weight es from → rest ≡ t ∷ later
    → (unsigned_abs (t.value *ℤ x t.variable) ≤ weight) × (unsigned_abs (sum +ℤ t.value *ℤ x t.variable) ≤ weight)
sum-narrow all rest later t x m limit constant sum weight es from w h is =
    let terms : AreTerms limit from (t ∷ later) = subst (AreTerms limit from) is h.terms in
    two sum (t.value *ℤ x t.variable) (sizes later m limit) (sizes rest m limit) (sizes (t ∷ later) m limit) weight (ap (λ (l : List Coefficient). sizes l m limit) is)
    (term-narrow t later x m limit from w terms) h.narrow
  where
    two : (s p : ℤ) (later rest whole_one weight : ℕ) → rest ≡ whole_one → unsigned_abs p + later ≤ whole_one → unsigned_abs s + rest ≤ weight
        → (unsigned_abs p ≤ weight) × (unsigned_abs (s +ℤ p) ≤ weight)
    two s p later rest whole_one weight k g f = (omega arith, omega (arith, abs-sum s p))

-- at the end all is there
pub begun-end : (all rest : List Coefficient) (x : ℕ → ℤ) (m : ℕ → ℕ) (limit : ℕ) (constant sum : ℤ) (weight : ℕ) (es : List Entry) (from : ℕ)
    → IsBegun all rest x m limit constant sum weight es from → rest ≡ []
    → ((j : ℕ) → factor_at es j ≡ whole (coef_of all j)) × (sum ≡ dot all x limit +ℤ constant)
begun-end all rest x m limit constant sum weight es from h is = (
  λ j. elim (below_or_not j from) [
    | inl lt ↦ h.done j lt
    | inr le ↦ factor-above es from j h.under le ∙ ap whole (sym (h.rest_is j le ∙ ap (λ (l : List Coefficient). coef_of l j) is))
  ],
  nothing sum (dot rest x limit) (dot all x limit +ℤ constant) (ap (λ (l : List Coefficient). dot l x limit) is ∙ int_sum_none x limit) h.total,
)
  where
    below_or_not : (j n : ℕ) → (j < n) ⊎ (n ≤ j)
    below_or_not j n = grind arith

    int_sum_none : (x : ℕ → ℤ) (n : ℕ) → dot [] x n ≡ pos 0
    int_sum_none x n = int_sum_below-same (λ v. pos 0 *ℤ x v) (λ v. pos 0) n (λ i lt. nothing_times (x i)) ∙ int_sum_below-zero n

    nothing : (s r all : ℤ) → r ≡ pos 0 → s +ℤ r ≡ all → s ≡ all
    nothing s r all h k = omega (arith, additive)

-- ---- as code has it

pub term_first : (rest later : List Coefficient) (t : Coefficient) (limit from : ℕ) → AreTerms limit from rest → rest ≡ t ∷ later → (from ≤ t.variable) × (t.variable < limit)
term_first rest later t limit from h is = let terms : AreTerms limit from (t ∷ later) = subst (AreTerms limit from) is h in (terms.0, terms.1)

pub begun-at : (all rest : List Coefficient) (x : ℕ → ℤ) (m : ℕ → ℕ) (limit : ℕ) (constant sum : ℤ) (es : List Entry) → rest ≡ all → sum ≡ constant → AreTerms limit 0 all → AreBelow 0 es
    → IsBegun all rest x m limit constant sum (unsigned_abs constant + sizes all m limit) es 0
begun-at all rest x m limit constant sum es rest_is sum_is h b =
    subst (λ (l : List Coefficient). IsBegun all l x m limit constant sum (unsigned_abs constant + sizes all m limit) es 0) (sym rest_is)
    (subst (λ (z : ℤ). IsBegun all all x m limit constant z (unsigned_abs constant + sizes all m limit) es 0) (sym sum_is) (begun-start all x m limit constant es h b))

within_at : (p : Program) (v : ℕ) (e : End) → v < p.variables → unsigned_abs (end_value p v e) ≤ end_size p v
within_at p v Low lt = low_at (low_end p v) (p.low v) (p.high v) (piece-first p.variables p.low (λ r. pos 0) v lt)
  where
    low_at : (z a b : ℤ) → z ≡ a → unsigned_abs z ≤ max (unsigned_abs a) (unsigned_abs b)
    low_at z a b h = omega (arith, ap unsigned_abs h)
within_at p v High lt =
    high_at (unwrap_or (high_end p v) (pos 0)) (p.low v) (p.high v)
    (ap (λ (o : Option ℤ). unwrap_or o (pos 0)) (piece-first p.variables (λ w. Some (p.high w)) (λ r. if p.equal r then Some (pos 0) else None) v lt))
  where
    high_at : (z a b : ℤ) → z ≡ b → unsigned_abs z ≤ max (unsigned_abs a) (unsigned_abs b)
    high_at z a b h = omega (arith, ap unsigned_abs h)

pub ends_within : (p : Program) (stands : ℕ → End) → AreWithin (λ v. end_value p v (stands v)) (end_size p) p.variables
ends_within p stands = record { within = λ v lt. within_at p v (stands v) lt }
