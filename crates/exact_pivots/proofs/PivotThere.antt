-- Where a column leaves and another may enter, there is a pivot.
use Rattle.std.proofs.Common.{◌≡◌, ◌≢◌, ℕ, zero, suc, ◌<◌, ◌≤◌, ◌⊎◌, inl, inr, sym, ap, subst, arith, ℤ, pos, ◌<ℤ◌, unsigned_abs, Option, Some, None, refl, if◌then◌else◌, ◌==◌}
use Rattle.std.proofs.lemmas.Int.{ints}
use Rattle.integers.proofs.AtKey.{same_or_other, chosen, passed}
use Rattle.exact_num.specs.Fraction.{Fraction, difference_of, quotient_of, negative_of}
use Rattle.exact_num.proofs.Signs.{positive-size}
use Rattle.exact_num.proofs.Cancelling.{positive-product}
use Rattle.exact_run.specs.Operations.{whole, IsReduced}
use Rattle.exact_run.specs.Programs.{Program, columns, low_end, high_end}
use Rattle.exact_run.specs.States.{State, IsFree}
use Rattle.exact_run.specs.Steps.{BringsBack, Leaves, IsCandidate, Enters, ratio, IsPivot}
use Rattle.exact_run.specs.declared.ends.End.{End}
use Rattle.exact_run.specs.declared.ends.End.TheVariants.{Low, High}
use Rattle.exact_run.specs.declared.operations.Operation.TheVariants.{Div}
use Rattle.exact_pivots.specs.Choices.{IsWrittenFrom}
use Rattle.exact_pivots.proofs.Exists.{has_reduced}
use Rattle.exact_pivots.specs.Weighing.{IsFirstLeast}
use Rattle.exact_pivots.proofs.Least.{has_least}

-- all numbers of the state are in lowest terms
pub record IsLowestState (s : State) : Type 0 where
  pub value : (r : ℕ) → IsReduced (s.value r) (s.value r)
  pub factor : (r j : ℕ) → IsReduced (s.factor r j) (s.factor r j)
  pub cost : (j : ℕ) → IsReduced (s.cost j) (s.cost j)

-- ---- candidates are told from others

found_or_not : (basic : ℕ → ℕ) (j n : ℕ) → ((r : ℕ) → r < n → basic r ≢ j) ⊎ ((r : ℕ) × (r < n) × (basic r ≡ j))
found_or_not basic j zero = inl (λ r lt. absurd (omega arith))
found_or_not basic j (suc n) = elim (found_or_not basic j n) [
  | inl none ↦ elim (same_or_other (basic n) j) [
    | inl e ↦ inr (n, omega arith, e)
    | inr ne ↦ inl (λ r lt. elim (last r n lt) [
      | inl before ↦ none r before
      | inr at ↦ subst (λ (i : ℕ). basic i ≢ j) (sym at) ne
    ])
  ]
  | inr h ↦ inr (h.0, omega (arith, h.1), h.2)
]
  where
    last : (r n : ℕ) → r < suc n → (r < n) ⊎ (r ≡ n)
    last r n lt = grind arith

below_or_not : (j n : ℕ) → (j < n) ⊎ (n ≤ j)
below_or_not j n = grind arith

pub free_or_not : (p : Program) (s : State) (j : ℕ) → IsFree p s j ⊎ (IsFree p s j → ⊥)
free_or_not p s j = elim (below_or_not j (columns p)) [
  | inr le ↦ inr (λ h. let b = h.among in absurd (omega arith))
  | inl lt ↦ elim (found_or_not s.basic j p.rows) [
    | inl none ↦ inl record { among = lt; free = none }
    | inr h ↦ inr (λ f. f.free h.0 h.1 h.2)
  ]
]

pub same_or_other_int : (a b : ℤ) → (a ≡ b) ⊎ (a ≢ b)
same_or_other_int a b = grind (arith, ints)

inner : (a b : ℤ) → Some a ≡ Some b → a ≡ b
inner a b h = cc

pub same_end : (o : Option ℤ) (z : ℤ) → (o ≡ Some z) ⊎ (o ≢ Some z)
same_end None z = inr (λ h. cc)
same_end (Some a) z = elim (same_or_other_int a z) [
  | inl e ↦ inl (ap (λ (x : ℤ). Some x) e)
  | inr ne ↦ inr (λ h. ne (inner a z h))
]

above_or_not : (z : ℤ) → (pos 0 <ℤ z) ⊎ ((pos 0 <ℤ z) → ⊥)
above_or_not z = grind (arith, ints)

under_or_not : (z : ℤ) → (z <ℤ pos 0) ⊎ ((z <ℤ pos 0) → ⊥)
under_or_not z = grind (arith, ints)

pub back_or_not : (side stands : End) (z : ℤ) → BringsBack side stands z ⊎ (BringsBack side stands z → ⊥)
back_or_not Low Low z = above_or_not z
back_or_not Low High z = under_or_not z
back_or_not High Low z = under_or_not z
back_or_not High High z = above_or_not z

above_other : (z : ℤ) → pos 0 <ℤ z → z ≢ pos 0
above_other z h e = let k : pos 0 <ℤ pos 0 = subst (λ (x : ℤ). pos 0 <ℤ x) e h in absurd k.lt

under_other : (z : ℤ) → z <ℤ pos 0 → z ≢ pos 0
under_other z h e = let k : pos 0 <ℤ pos 0 = subst (λ (x : ℤ). x <ℤ pos 0) e h in absurd k.lt

pub back_other : (side stands : End) (z : ℤ) → BringsBack side stands z → z ≢ pos 0
back_other Low Low z h = above_other z h
back_other Low High z h = under_other z h
back_other High Low z h = under_other z h
back_other High High z h = above_other z h

pub candidate_or_not : (p : Program) (s : State) (r : ℕ) (side : End) (j : ℕ) → IsCandidate p s r side j ⊎ (IsCandidate p s r side j → ⊥)
candidate_or_not p s r side j = elim (free_or_not p s j) [
  | inr none ↦ inr (λ h. none h.free)
  | inl free ↦ elim (same_end (high_end p j) (low_end p j)) [
    | inl e ↦ inr (λ h. h.moves e)
    | inr moves ↦ elim (back_or_not side (s.stands j) (s.factor r j).num) [
      | inl back ↦ inl record { free = free; moves = moves; back = back }
      | inr none ↦ inr (λ h. none h.back)
    ]
  ]
]

-- ---- the least of them

pub ratio_positive : (p : Program) (s : State) (r : ℕ) (side : End) → IsLowestState s → (j : ℕ) → IsCandidate p s r side j → 0 < (ratio s r j).den
ratio_positive p s r side low j h =
    let other = back_other side (s.stands j) (s.factor r j).num h.back in
    positive-product (s.cost j).den (unsigned_abs (s.factor r j).num) (low.cost j).positive (positive-size (s.factor r j).num other)

pub first_least_enters : (p : Program) (s : State) (r : ℕ) (side : End) (k : ℕ) → IsFirstLeast (IsCandidate p s r side) (ratio s r) (columns p) k → Enters p s r side k
first_least_enters p s r side k h = record {
  candidate = h.has;
  least = λ j c. h.least j c.free.among c;
  first = λ j c lt. h.first j lt c;
}

pub has_entering : (p : Program) (s : State) (r : ℕ) (side : End) → IsLowestState s → (j : ℕ) → IsCandidate p s r side j → (k : ℕ) × Enters p s r side k
has_entering p s r side low j h = elim (has_least (IsCandidate p s r side) (ratio s r) (ratio_positive p s r side low) (candidate_or_not p s r side) (columns p)) [
  | inl none ↦ absurd (none j h.free.among h)
  | inr found ↦ (found.0, first_least_enters p s r side found.0 found.1)
]

-- ---- the pivot

-- a quotient by a factor that is not 0 has a denominator above 0
pub quotient_positive : (x by : Fraction) → 0 < x.den → by.num ≢ pos 0 → 0 < (quotient_of x by).den
quotient_positive x by p nz = positive-product x.den (unsigned_abs by.num) p (positive-size by.num nz)

pub has_pivot : (p : Program) (s : State) (r : ℕ) (side : End) (e : ℤ) (k : ℕ) → IsLowestState s → Leaves p s r side e → Enters p s r side k
    → (moved : Fraction) × (own : ℕ → Fraction) × IsPivot p s record { place = r; side = side; end = e; entering = k; moved = moved; own = own }
has_pivot p s r side e k low leaves enters =
    let by = s.factor r k in
    let nz : by.num ≢ pos 0 = back_other side (s.stands k) by.num enters.candidate.back in
    let moved = has_reduced (quotient_of (difference_of (whole e) (s.value r)) by)
    (quotient_positive (difference_of (whole e) (s.value r)) by (positive-product 1 (s.value r).den (omega arith) (low.value r).positive) nz) in
    let one = has_reduced (quotient_of (whole (pos 1)) by) (quotient_positive (whole (pos 1)) by (omega arith) nz) in
    let other : (j : ℕ) → (x : Fraction) × IsReduced (quotient_of (negative_of (s.factor r j)) by) x =
    λ j. has_reduced (quotient_of (negative_of (s.factor r j)) by) (quotient_positive (negative_of (s.factor r j)) by (low.factor r j).positive nz) in
    let own : ℕ → Fraction = λ j. if s.basic r == j then one.0 else (other j).0 in (
      moved.0,
      own,
      record {
        leaves = leaves;
        enters = enters;
        moved = moved.1;
        own_leaving = subst (λ (x : Fraction). IsReduced (quotient_of (whole (pos 1)) by) x) (sym (chosen (s.basic r) (s.basic r) one.0 (other (s.basic r)).0 refl)) one.1;
        own = λ j h. subst (λ (x : Fraction). IsReduced (quotient_of (negative_of (s.factor r j)) by) x)
            (sym (passed (s.basic r) j one.0 (other j).0 (h.free.free r leaves.place))) (other j).1;
      },
    )

-- the cost's factor over that on a candidate is written
pub candidate_written : (p : Program) (s : State) (r : ℕ) (side : End) (e : ℤ) (j : ℕ) → IsLowestState s → Leaves p s r side e → IsCandidate p s r side j
    → IsWrittenFrom p s Div (s.cost j) (s.factor r j)
candidate_written p s r side e j low leaves h =
    let k = has_entering p s r side low j h in
    let v = has_pivot p s r side e k.0 low leaves k.1 in
    (record { place = r; side = side; end = e; entering = k.0; moved = v.0; own = v.1 }, v.2, inr (j, h, refl, refl))
