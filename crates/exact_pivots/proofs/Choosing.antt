-- Which column leaves and which one enters, as code looks for them.
use Rattle.std.proofs.Common.{◌≡◌, ◌≢◌, ◌∙◌, sym, ap, subst, refl, ℕ, zero, suc, ◌+◌, ◌*◌, ◌<◌, ◌≤◌, ◌⊎◌, inl, inr, List, [], ◌∷◌, arith, ℤ, pos, negsuc, ◌*ℤ◌, unsigned_abs, Option, Some, None}
use Rattle.std.proofs.lemmas.Int.{unsigned_abs-mul}
use Rattle.exact_num.specs.Fraction.{Fraction, IsSame, quotient_of, turned}
use Rattle.exact_num.specs.Views.{shown_frac}
use Rattle.exact_num.specs.declared.frac.Frac.{Frac}
use Rattle.exact_run.specs.Operations.{IsReduced}
use Rattle.exact_run.specs.Programs.{Program, columns}
use Rattle.exact_run.specs.States.{State}
use Rattle.exact_run.specs.Steps.{IsBelow, IsPast, IsCandidate, ratio}
use Rattle.exact_pivots.specs.Entries.{factor_at, AreRising}
use Rattle.exact_pivots.specs.Choices.{IsLeavingOf, IsPastAt, IsEntering}
use Rattle.exact_pivots.specs.Sizes.{size_of}
use Rattle.exact_pivots.specs.Weighing.{IsWeighed}
use Rattle.exact_pivots.specs.declared.entry.Entry.{Entry}
use Rattle.exact_pivots.specs.declared.pivots.Leaving.{Leaving}
use Rattle.exact_pivots.specs.declared.pivots.Weighed.{Weighed}
use Rattle.exact_pivots.proofs.Entries.{factor-gap, passed, chosen}
use Rattle.exact_pivots.proofs.Least.{below_same, at_most_same, below_or_not, least_taken, least_stays, least_kept, least_first, least_wider}
use Rattle.exact_pivots.proofs.PivotThere.{IsLowestState, back_other, ratio_positive}

-- ---- which column leaves

three : (q n : ℕ) → q < n + 1 → (q < n) ⊎ (q ≡ n)
three q n lt = grind arith

pub leaving_none : (p : Program) (s : State) (n : ℕ) (o : Option Leaving) → IsLeavingOf p s n o → IsPastAt p s n None → IsLeavingOf p s (n + 1) o
leaving_none p s n None h k = λ q side e lt past. elim (three q n lt) [
  | inl before ↦ h q side e before past
  | inr at ↦ k side e (subst (λ (i : ℕ). IsPast p s i side e) at past)
]
leaving_none p s n (Some l) h k = (
  omega (arith, h.0),
  h.1,
  λ q side e lt past. elim (three q n lt) [
    | inl before ↦ h.2 q side e before past
    | inr at ↦ absurd (k side e (subst (λ (i : ℕ). IsPast p s i side e) at past))
  ],
)

-- ---- which column enters

-- what is left of the row that leaves
pub record IsLookedTo (s : State) (place : ℕ) (rest : List Entry) (from : ℕ) : Type 0 where
  pub rising : AreRising from rest
  pub rest_is : (j : ℕ) → from ≤ j → s.factor place j ≡ factor_at rest j

no_candidate : (p : Program) (s : State) (l : Leaving) (j : ℕ) → (s.factor l.place j).num ≡ pos 0 → IsCandidate p s l.place l.side j → ⊥
no_candidate p s l j none c = back_other l.side (s.stands j) (s.factor l.place j).num c.back none

pub weighed_wider : (p : Program) (s : State) (l : Leaving) (n m : ℕ) (o : Option Weighed) → IsLowestState s → n ≤ m
    → ((j : ℕ) → n ≤ j → j < m → (s.factor l.place j).num ≡ pos 0) → IsWeighed p s l n o → IsWeighed p s l m o
weighed_wider p s l n m None low le none h = λ j lt c. elim (under_or_over j n) [
  | inl before ↦ h j before c
  | inr over ↦ no_candidate p s l j (none j over lt) c
]
  where
    under_or_over : (j n : ℕ) → (j < n) ⊎ (n ≤ j)
    under_or_over j n = grind arith
weighed_wider p s l n m (Some w) low le none h = (
  least_wider (IsCandidate p s l.place l.side) (ratio s l.place) (ratio_positive p s l.place l.side low) n m w.column le h.0 (λ j over lt c. no_candidate p s l j (none j over lt) c),
  h.1,
)

-- as far as the next entry
pub weighed_next : (p : Program) (s : State) (l : Leaving) (rest later : List Entry) (e : Entry) (from : ℕ) (o : Option Weighed) → IsLowestState s
    → IsLookedTo s l.place rest from → rest ≡ e ∷ later → IsWeighed p s l from o → IsWeighed p s l e.column o
weighed_next p s l rest later e from o low h is w =
    let r : AreRising from (e ∷ later) = subst (AreRising from) is h.rising in
    weighed_wider p s l from e.column o low r.0
    (λ j le lt. ap (λ (x : Fraction). x.num) (h.rest_is j le ∙ factor-gap rest e.column j (subst (AreRising e.column) (sym is) (same_rising e.column r.1 r.2)) lt)) w
  where
    same_rising : (n : ℕ) → (shown_frac e.value).num ≢ pos 0 → AreRising (e.column + 1) later → AreRising e.column (e ∷ later)
    same_rising n z k = (omega arith, z, k)

-- at the end of the row
pub weighed_all : (p : Program) (s : State) (l : Leaving) (rest : List Entry) (from : ℕ) (o : Option Weighed) → IsLowestState s → IsLookedTo s l.place rest from → rest ≡ []
    → IsWeighed p s l from o → IsWeighed p s l (from + columns p) o
weighed_all p s l rest from o low h is w = weighed_wider p s l from (from + columns p) o low (omega arith)
    (λ j le lt. ap (λ (x : Fraction). x.num) (h.rest_is j le ∙ ap (λ (es : List Entry). factor_at es j) is)) w

pub one_enters : (p : Program) (s : State) (l : Leaving) (from : ℕ) (w : Weighed) → IsWeighed p s l (from + columns p) (Some w) → IsEntering p s l (Some w.column)
one_enters p s l from w h = record {
  candidate = h.0.has;
  least = λ j c. h.0.least j (far j from (columns p) c.free.among) c;
  first = λ j c lt. h.0.first j lt c;
}
  where
    far : (j n m : ℕ) → j < m → j < n + m
    far j n m lt = omega arith

pub looked_next : (s : State) (place : ℕ) (rest later : List Entry) (e : Entry) (from : ℕ) → IsLookedTo s place rest from → rest ≡ e ∷ later
    → IsLookedTo s place later (e.column + 1) × (s.factor place e.column ≡ shown_frac e.value) × ((shown_frac e.value).num ≢ pos 0)
looked_next s place rest later e from h is =
    let r : AreRising from (e ∷ later) = subst (AreRising from) is h.rising in
    let at : (j : ℕ) → from ≤ j → s.factor place j ≡ factor_at (e ∷ later) j = λ j le. h.rest_is j le ∙ ap (λ (es : List Entry). factor_at es j) is in (
      record {
        rising = r.2;
        rest_is = λ j le. at j (omega (arith, r.0)) ∙ passed e.column j (shown_frac e.value) (factor_at later j) (omega arith);
      },
      at e.column r.0 ∙ chosen e.column e.column (shown_frac e.value) (factor_at later e.column) refl,
      r.1,
    )

-- ---- ratios

-- the size of a quotient is the ratio
pub size_is_ratio : (s : State) (r j : ℕ) (d f : Fraction) (x : Frac) → d ≡ s.cost j → f ≡ s.factor r j → IsReduced (quotient_of d f) (shown_frac x)
    → IsSame (size_of (shown_frac x)) (ratio s r j)
size_is_ratio s r j d f x is_d is_f h =
    subst (λ (c : Fraction). IsSame (size_of (shown_frac x)) (record { num = pos (unsigned_abs c.num * (s.factor r j).den); den = c.den * unsigned_abs (s.factor r j).num })) is_d
    (subst (λ (g : Fraction). IsSame (size_of (shown_frac x)) (record { num = pos (unsigned_abs d.num * g.den); den = d.den * unsigned_abs g.num })) is_f
    (ap pos (by_sizes (shown_frac x).num d.num f.num (shown_frac x).den d.den f.den h.same)))
  where
    turned_size : (z : ℤ) (n : ℕ) → unsigned_abs (turned z (pos n)) ≡ n
    turned_size (pos m) n = refl
    turned_size (negsuc m) zero = refl
    turned_size (negsuc m) (suc n) = refl

    by_sizes : (x d f : ℤ) (xd dd fd : ℕ) → x *ℤ pos (dd * unsigned_abs f) ≡ (d *ℤ turned f (pos fd)) *ℤ pos xd
        → unsigned_abs x * (dd * unsigned_abs f) ≡ (unsigned_abs d * fd) * xd
    by_sizes x d f xd dd fd h =
        sym (unsigned_abs-mul x (pos (dd * unsigned_abs f))) ∙ ap unsigned_abs h ∙ unsigned_abs-mul (d *ℤ turned f (pos fd)) (pos xd)
        ∙ ap (λ (n : ℕ). n * xd) (unsigned_abs-mul d (turned f (pos fd)) ∙ ap (λ (n : ℕ). unsigned_abs d * n) (turned_size f fd))

module _ (p : Program) (s : State) (l : Leaving) (low : IsLowestState s) where
  pub weighed_first : (w : Weighed) → IsWeighed p s l w.column None → IsCandidate p s l.place l.side w.column → IsSame (size_of (shown_frac w.ratio)) (ratio s l.place w.column)
      → IsWeighed p s l (w.column + 1) (Some w)
  weighed_first w h c same = (least_first (IsCandidate p s l.place l.side) (ratio s l.place) (ratio_positive p s l.place l.side low) w.column h c, same)

  pub weighed_taken : (w best : Weighed) → IsWeighed p s l w.column (Some best) → IsCandidate p s l.place l.side w.column → IsSame (size_of (shown_frac w.ratio)) (ratio s l.place w.column)
      → IsBelow (size_of (shown_frac w.ratio)) (size_of (shown_frac best.ratio)) → IsWeighed p s l (w.column + 1) (Some w)
  weighed_taken w best h c same lt = (
    least_taken (IsCandidate p s l.place l.side) (ratio s l.place) (ratio_positive p s l.place l.side low) w.column best.column h.0 c
        (below_same (size_of (shown_frac w.ratio)) (size_of (shown_frac best.ratio)) (ratio s l.place w.column) (ratio s l.place best.column) w.ratio.positive best.ratio.positive
        (ratio_positive p s l.place l.side low w.column c) (ratio_positive p s l.place l.side low best.column h.0.has) same h.1 lt),
    same,
  )

  pub weighed_stays : (w best : Weighed) → IsWeighed p s l w.column (Some best) → IsCandidate p s l.place l.side w.column → IsSame (size_of (shown_frac w.ratio)) (ratio s l.place w.column)
      → (IsBelow (size_of (shown_frac w.ratio)) (size_of (shown_frac best.ratio)) → ⊥) → IsWeighed p s l (w.column + 1) (Some best)
  weighed_stays w best h c same not_below = elim (below_or_not (size_of (shown_frac w.ratio)) (size_of (shown_frac best.ratio))) [
    | inl lt ↦ absurd (not_below lt)
    | inr le ↦ (
      least_stays (IsCandidate p s l.place l.side) (ratio s l.place) (ratio_positive p s l.place l.side low) w.column best.column h.0
          (at_most_same (size_of (shown_frac best.ratio)) (size_of (shown_frac w.ratio)) (ratio s l.place best.column) (ratio s l.place w.column) best.ratio.positive w.ratio.positive
          (ratio_positive p s l.place l.side low best.column h.0.has) (ratio_positive p s l.place l.side low w.column c) h.1 same le),
      h.1,
    )
  ]

  -- an entry whose column may not enter
  pub weighed_passed : (n : ℕ) (o : Option Weighed) → IsWeighed p s l n o → (IsCandidate p s l.place l.side n → ⊥) → IsWeighed p s l (n + 1) o
  weighed_passed n None h none = λ j lt c. elim (three j n lt) [
    | inl before ↦ h j before c
    | inr at ↦ none (subst (IsCandidate p s l.place l.side) at c)
  ]
  weighed_passed n (Some w) h none = (least_kept (IsCandidate p s l.place l.side) (ratio s l.place) (ratio_positive p s l.place l.side low) n w.column h.0 none, h.1)
