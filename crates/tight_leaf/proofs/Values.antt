-- The values of the variables of a state, and the point that they make.
use Rattle.std.proofs.Common.{◌≡◌, ◌≢◌, ℕ, zero, suc, ◌+◌, ◌<◌, ◌∙◌, ◌⊎◌, inl, inr, List, length, get_or, map, set, ℤ, pos, sym, ap, subst, refl, arith}
use Rattle.std.proofs.lemmas.List.{get_or-map, get_or-set_other, get_or-set_same, length-map, length-set}
use Rattle.integers.proofs.AtKey.{same_or_other}
use Rattle.exact_num.specs.Fraction.{Fraction}
use Rattle.exact_num.specs.Views.{shown_frac}
use Rattle.exact_num.specs.declared.frac.Frac.{Frac}
use Rattle.exact_run.specs.Operations.{whole}
use Rattle.exact_run.specs.Programs.{Program, columns, end_value}
use Rattle.exact_run.specs.States.{State, IsFree}
use Rattle.exact_run.specs.Runs.{IsValueOf}
use Rattle.exact_pivots.specs.Fits.{IsTidy}
use Rattle.common_denominators.specs.Multiples.{HasNoShort, IsCoarseIn, IsCommonOf, IsDenominatorOf, IsOutside, IsTimes, StandsIn}
use Rattle.tight_leaf.specs.Points.{AreTimes, AreValues, IsCoarseValue, IsPointOf, IsValue}
use Rattle.tight_leaf.proofs.Multiples.{coarse-of_all, least-of_all, none-short}

-- ---- a column is basic, or it is free

before_or_last : (i k : ℕ) → i < suc k → (i < k) ⊎ (i ≡ k)
before_or_last i k h = grind arith

one_of_first : (f : ℕ → ℕ) (j n : ℕ) → ((r : ℕ) × (r < n) × (f r ≡ j)) ⊎ ((r : ℕ) → r < n → f r ≢ j)
one_of_first f j zero = inr (λ r lt e. omega arith)
one_of_first f j (suc n) = elim (one_of_first f j n) [
  | inl w ↦ inl (w.0, omega arith, w.2)
  | inr none ↦ elim (same_or_other (f n) j) [
    | inl e ↦ inl (n, omega arith, e)
    | inr ne ↦ inr (λ r lt. elim (before_or_last r n lt) [
      | inl b ↦ none r b
      | inr e ↦ subst (λ (q : ℕ). f q ≢ j) (sym e) ne
    ])
  ]
]

pub basic_or_free : (p : Program) (s : State) (j : ℕ) → j < columns p → ((r : ℕ) × (r < p.rows) × (s.basic r ≡ j)) ⊎ IsFree p s j
basic_or_free p s j lt = elim (one_of_first s.basic j p.rows) [
  | inl w ↦ inl w
  | inr none ↦ inr record { among = lt; free = none }
]

-- a column has one value
pub value-one : (p : Program) (s : State) (j : ℕ) (x y : Fraction) → j < columns p → IsValueOf p s j x → IsValueOf p s j y → x ≡ y
value-one p s j x y lt h k = elim (basic_or_free p s j lt) [
  | inl w ↦ h.basic w.0 w.1 w.2 ∙ sym (k.basic w.0 w.1 w.2)
  | inr f ↦ h.free f ∙ sym (k.free f)
]

-- ---- the values as they are written, place by place

-- of the first places the basic columns that are variables have their values, and the other variables stand at their ends
pub record AreTo (p : Program) (s : State) (n : ℕ) (xs : List Fraction) : Type 0 where
  pub count : length xs ≡ p.variables
  pub basic : (v r : ℕ) → v < p.variables → r < n → s.basic r ≡ v → get_or xs v (whole (pos 0)) ≡ s.value r
  pub free : (v : ℕ) → v < p.variables → ((r : ℕ) → r < n → s.basic r ≢ v) → get_or xs v (whole (pos 0)) ≡ whole (end_value p v (s.stands v))

pub to-none : (p : Program) (s : State) (xs : List Fraction) → length xs ≡ p.variables
    → ((v : ℕ) → v < p.variables → get_or xs v (whole (pos 0)) ≡ whole (end_value p v (s.stands v))) → AreTo p s 0 xs
to-none p s xs e h = record { count = e; basic = λ v r hv lt is. absurd (omega (arith, lt)); free = λ v hv none. h v hv }

last_or_before : (r n : ℕ) → r < n + 1 → (r < n) ⊎ (r ≡ n)
last_or_before r n h = grind arith

pub to-more : (p : Program) (s : State) (n : ℕ) (xs : List Fraction) → IsTidy p s → n < p.rows → AreTo p s n xs → AreTo p s (n + 1) (set xs (s.basic n) (s.value n))
to-more p s n xs tidy within h = record {
  count = length-set xs (s.basic n) (s.value n) ∙ h.count;
  basic = λ v r hv lt is. elim (last_or_before r n lt) [
    | inl b ↦
        get_or-set_other xs (s.basic n) v (s.value n) (whole (pos 0)) (λ e. tidy.apart r n (omega (arith, b, within)) within (omega (arith, b)) (is ∙ e)) ∙ h.basic v r hv b is
    | inr e ↦ subst (λ (q : ℕ). get_or (set xs (s.basic n) (s.value n)) v (whole (pos 0)) ≡ s.value q) (sym e)
        (subst (λ (j : ℕ). get_or (set xs j (s.value n)) v (whole (pos 0)) ≡ s.value n) (sym (sym (ap s.basic e) ∙ is))
        (get_or-set_same xs v (s.value n) (whole (pos 0)) (omega (arith, h.count, hv))))
  ];
  free = λ v hv none.
      get_or-set_other xs (s.basic n) v (s.value n) (whole (pos 0)) (λ e. none n (omega arith) (sym e)) ∙ h.free v hv (λ r lt. none r (omega (arith, lt)));
}

pub to-all : (p : Program) (s : State) (n : ℕ) (xs : List Fraction) → n ≡ p.rows → AreTo p s n xs → AreValues p s xs
to-all p s n xs e h = record {
  count = h.count;
  each = λ v hv. record {
    basic = λ r lt is. h.basic v r hv (omega (arith, e, lt)) is;
    free = λ fr. h.free v hv (λ r lt. fr.free r (omega (arith, e, lt)));
  };
}

-- a fraction of a list in memory
pub shown-at : (fs : List Frac) (k : ℕ) (f : Frac) → k < length fs → f ≡ get_or fs k f → StandsIn (map shown_frac fs) k (shown_frac f)
shown-at fs k f lt is = (omega (arith, lt, length-map fs shown_frac), ap shown_frac is ∙ sym (get_or-map shown_frac fs k f record { num = pos 0; den = 1 } lt))

-- ---- the values in a list

module _ (p : Program) (s : State) (xs : List Fraction) (values : AreValues p s xs) where
  value-is : (v : ℕ) (x : Fraction) → IsValue p s v x → x ≡ get_or xs v (whole (pos 0))
  value-is v x h = value-one p s v x (get_or xs v (whole (pos 0))) (omega (arith, h.0)) h.1 (values.each v h.0)

  into : (v : ℕ) (x : Fraction) → IsValue p s v x → (x.den ≡ 1) ⊎ IsDenominatorOf (StandsIn xs) x.den
  into v x h = inr (v, x, (omega (arith, values.count, h.0), value-is v x h), refl)

  back : (v : ℕ) (x : Fraction) → StandsIn xs v x → (j : ℕ) × IsValue p s j x
  back v x h =
      let lt : v < p.variables = omega (arith, values.count, h.0) in
      (v, (lt, subst (λ (y : Fraction). IsValueOf p s v y) (sym h.1) (values.each v lt)))

  -- so many times each makes the point
  pub point-is : (base : ℕ) (zs : List ℤ) → IsCommonOf xs base → AreTimes base xs zs → IsPointOf p s record { base = base; value = λ v. get_or zs v (pos 0) }
  point-is base zs common times = record {
    base = least-of_all (IsValue p s) (StandsIn xs) into back base common;
    values = λ v x h. subst (λ (y : Fraction). IsTimes base y (get_or zs v (pos 0))) (sym (value-is v x h)) (times.each v (omega (arith, values.count, h.0)));
  }

  -- no common denominator is short enough
  pub coarse-common : (times : ℕ) (x : Fraction) → IsCoarseIn (StandsIn xs) times x → HasNoShort times x.den → IsCoarseValue p s times x
  coarse-common times x h large =
      let all : IsCoarseIn (IsValue p s) times x = coarse-of_all (IsValue p s) (StandsIn xs) into back times x h in
      record { coarse = all; outside = λ m l small. absurd (none-short (IsValue p s) times x m all large l small) }

  -- so many times a value is outside
  pub coarse-outside : (times : ℕ) (x : Fraction) → IsCoarseIn (StandsIn xs) times x → IsOutside 127 times x → IsCoarseValue p s times x
  coarse-outside times x h out = record { coarse = coarse-of_all (IsValue p s) (StandsIn xs) into back times x h; outside = λ m l small. out }
