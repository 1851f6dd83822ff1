-- The ends of columns, and the values of a state between them.
use Rattle.std.proofs.Common.{◌≡◌, ◌∙◌, sym, ap, subst, ℕ, ◌-◌, ◌<◌, ◌⊎◌, inl, inr, Bool, true, false, if◌then◌else◌, ℤ, pos, ◌*ℤ◌, ◌≤ℤ◌, ◌<ℤ◌, Option, Some, None, unwrap_or, arith, refl}
use Rattle.std.proofs.lemmas.Int.{ints}
use Rattle.integers.proofs.Ring.{additive, sorted, mul_comm_ℤ}
use Rattle.integers.proofs.Order.{le-mul, le-cancel, lt-mul, lt-cancel}
use Rattle.integers.proofs.ByIndex.{piece-first, piece-rest}
use Rattle.exact_run.specs.Programs.{Program, columns, row_column, low_end, high_end, end_value}
use Rattle.exact_run.specs.States.{State, IsFree}
use Rattle.exact_run.specs.Runs.{IsSolved}
use Rattle.exact_run.specs.declared.ends.End.{End}
use Rattle.exact_run.specs.declared.ends.End.TheVariants.{Low, High}
use Rattle.run_laws.specs.Points.{IsProper}
use Rattle.run_laws.proofs.Times.{positive, times_one}
use Rattle.run_laws.proofs.Tables.{below_or_over}
use Rattle.run_laws.proofs.Reached.{IsKept, placed}

pub end_is : (e : End) → (e ≡ Low) ⊎ (e ≡ High)
end_is Low = inl refl
end_is High = inr refl

pub inner : (a b : ℤ) → Some a ≡ Some b → a ≡ b
inner a b h = cc

pub none_is_not_some : (o : Option ℤ) (e : ℤ) → o ≡ None → o ≡ Some e → ⊥
none_is_not_some o e h k = cc

-- ---- of variables

-- one of two ends
abbrev pub end_of : ℤ → ℤ → End → ℤ
end_of low high Low = low
end_of low high High = high

module _ (p : Program) where
  pub variable-low : (v : ℕ) → v < p.variables → low_end p v ≡ p.low v
  variable-low v lt = piece-first p.variables p.low (λ r. pos 0) v lt

  pub variable-high : (v : ℕ) → v < p.variables → high_end p v ≡ Some (p.high v)
  variable-high v lt = piece-first p.variables (λ i. Some (p.high i)) (λ r. if p.equal r then Some (pos 0) else None) v lt

  pub variable-end : (v : ℕ) (e : End) → v < p.variables → end_value p v e ≡ end_of (p.low v) (p.high v) e
  variable-end v Low lt = variable-low v lt
  variable-end v High lt = ap (λ (o : Option ℤ). unwrap_or o (pos 0)) (variable-high v lt)

  -- ---- of rows

  pub row-low : (r : ℕ) → low_end p (row_column p r) ≡ pos 0
  row-low r = piece-rest p.variables p.low (λ i. pos 0) r

  pub row-high : (r : ℕ) → high_end p (row_column p r) ≡ (if p.equal r then Some (pos 0) else None)
  row-high r = piece-rest p.variables (λ i. Some (p.high i)) (λ i. if p.equal i then Some (pos 0) else None) r

  pub row-high_at_least : (r : ℕ) → p.equal r ≡ false → high_end p (row_column p r) ≡ None
  row-high_at_least r e = row-high r ∙ ap (λ (b : Bool). if b then Some (pos 0) else None) e

  pub row-high_equal : (r : ℕ) → p.equal r ≡ true → high_end p (row_column p r) ≡ Some (pos 0)
  row-high_equal r e = row-high r ∙ ap (λ (b : Bool). if b then Some (pos 0) else None) e

  -- a row's column stands at 0
  pub row-end : (r : ℕ) (e : End) → end_value p (row_column p r) e ≡ pos 0
  row-end r Low = row-low r
  row-end r High = ap (λ (o : Option ℤ). unwrap_or o (pos 0)) (row-high r) ∙ either (p.equal r)
    where
      either : (b : Bool) → unwrap_or (if b then Some (pos 0) else None) (pos 0) ≡ pos 0
      either true = refl
      either false = refl

  -- ---- of all columns

  pub variable_or_row : (j : ℕ) → j < columns p → (j < p.variables) ⊎ ((r : ℕ) × (r < p.rows) × (j ≡ row_column p r))
  variable_or_row j lt = elim (below_or_over j p.variables) [
    | inl below ↦ inl below
    | inr le ↦ inr (j - p.variables, omega arith, omega arith)
  ]

  row_ends : (b : Bool) (e : ℤ) → (if b then Some (pos 0) else None) ≡ Some e → pos 0 ≡ e
  row_ends true e h = inner (pos 0) e h
  row_ends false e h = absurd (none_is_not_some None e refl h)

  pub ends-ordered : IsProper p → (j : ℕ) → j < columns p → (e : ℤ) → high_end p j ≡ Some e → low_end p j ≤ℤ e
  ends-ordered proper j lt e is = elim (variable_or_row j lt) [
    | inl below ↦ by_ends (low_end p j) (p.low j) (p.high j) e (variable-low j below) (inner (p.high j) e (sym (variable-high j below) ∙ is)) (proper j below)
    | inr row ↦ by_ends (low_end p j) (pos 0) (pos 0) e (ap (low_end p) row.2 ∙ row-low row.0)
        (row_ends (p.equal row.0) e (sym (row-high row.0) ∙ ap (high_end p) (sym row.2) ∙ is)) (omega (arith, additive))
  ]
    where
      by_ends : (l low high e : ℤ) → l ≡ low → high ≡ e → low ≤ℤ high → l ≤ℤ e
      by_ends l low high e h k le = omega (arith, additive, h, k, le)

-- ---- values between ends

times_turned : (q e d : ℤ) → q *ℤ (e *ℤ d) ≡ d *ℤ (e *ℤ q)
times_turned q e d = simp sorted refl

at_least_or_below : (a b : ℤ) → (a <ℤ b) ⊎ (b ≤ℤ a)
at_least_or_below a b = grind (arith, ints)

not_below : (a b : ℤ) → (a <ℤ b → ⊥) → b ≤ℤ a
not_below a b h = elim (at_least_or_below a b) [
  | inl lt ↦ absurd (h lt)
  | inr le ↦ le
]

-- x over d is n over q
pub over_end : (d e x n q : ℤ) → pos 0 <ℤ d → pos 0 <ℤ q → x *ℤ q ≡ d *ℤ n → ((n *ℤ pos 1) <ℤ (e *ℤ q) → ⊥) → (e *ℤ d) ≤ℤ x
over_end d e x n q pd pq h never =
    le-cancel q (e *ℤ d) x pq
    (omega (arith, additive, times_turned q e d, mul_comm_ℤ q x, h, le-mul d (e *ℤ q) n (omega (arith, additive, pd)) (omega (arith, additive, times_one n, not_below (n *ℤ pos 1) (e *ℤ q) never))))

pub under_end : (d e x n q : ℤ) → pos 0 <ℤ d → pos 0 <ℤ q → x *ℤ q ≡ d *ℤ n → ((e *ℤ q) <ℤ (n *ℤ pos 1) → ⊥) → x ≤ℤ (e *ℤ d)
under_end d e x n q pd pq h never =
    le-cancel q x (e *ℤ d) pq
    (omega (arith, additive, times_turned q e d, mul_comm_ℤ q x, h, le-mul d n (e *ℤ q) (omega (arith, additive, pd)) (omega (arith, additive, times_one n, not_below (e *ℤ q) (n *ℤ pos 1) never))))

pub below_end : (d e x n q : ℤ) → pos 0 <ℤ d → pos 0 <ℤ q → x *ℤ q ≡ d *ℤ n → (n *ℤ pos 1) <ℤ (e *ℤ q) → x <ℤ (e *ℤ d)
below_end d e x n q pd pq h lt =
    lt-cancel q x (e *ℤ d) pq
    (omega (arith, additive, times_turned q e d, mul_comm_ℤ q x, h, lt-mul d n (e *ℤ q) pd (omega (arith, additive, times_one n, lt))))

pub above_end : (d e x n q : ℤ) → pos 0 <ℤ d → pos 0 <ℤ q → x *ℤ q ≡ d *ℤ n → (e *ℤ q) <ℤ (n *ℤ pos 1) → (e *ℤ d) <ℤ x
above_end d e x n q pd pq h lt =
    lt-cancel q (e *ℤ d) x pq
    (omega (arith, additive, times_turned q e d, mul_comm_ℤ q x, h, lt-mul d (e *ℤ q) n pd (omega (arith, additive, times_one n, lt))))

module _ (p : Program) (s : State) (k : IsKept p s) (proper : IsProper p) (solved : IsSolved p s) where
  abbrev d : ℤ
  d = k.table.scale

  abbrev x : ℕ → ℤ
  x j = k.table.point j

  basic_low : (r : ℕ) → r < p.rows → (low_end p (s.basic r) *ℤ d) ≤ℤ x (s.basic r)
  basic_low r lt =
      over_end d (low_end p (s.basic r)) (x (s.basic r)) (s.value r).num (pos (s.value r).den) k.shown.positive (positive (k.sound.value r lt)) (k.shown.value r lt)
      (λ below. solved r Low (low_end p (s.basic r)) lt (refl, below))

  basic_high : (r : ℕ) (e : ℤ) → r < p.rows → high_end p (s.basic r) ≡ Some e → x (s.basic r) ≤ℤ (e *ℤ d)
  basic_high r e lt is =
      under_end d e (x (s.basic r)) (s.value r).num (pos (s.value r).den) k.shown.positive (positive (k.sound.value r lt)) (k.shown.value r lt)
      (λ above. solved r High e lt (is, above))

  scaled : (a b : ℤ) → a ≤ℤ b → (a *ℤ d) ≤ℤ (b *ℤ d)
  scaled a b le = omega (arith, additive, mul_comm_ℤ a d, mul_comm_ℤ b d, le-mul d a b (let pd = k.shown.positive in omega (arith, additive, pd)) le)

  same_end : (a b : ℤ) → a ≡ b → (a *ℤ d) ≤ℤ (b *ℤ d)
  same_end a b e = scaled a b (omega (arith, additive, e))

  stood : (j : ℕ) (e : End) → IsFree p s j → s.stands j ≡ e → x j ≡ end_value p j e *ℤ d
  stood j e f is = k.shown.stands j f ∙ ap (λ (w : End). end_value p j w *ℤ d) is

  free_low : (j : ℕ) → IsFree p s j → (low_end p j *ℤ d) ≤ℤ x j
  free_low j f = elim (end_is (s.stands j)) [
    | inl low ↦ subst (λ (z : ℤ). (low_end p j *ℤ d) ≤ℤ z) (sym (stood j Low f low)) (same_end (low_end p j) (low_end p j) refl)
    | inr high ↦ subst (λ (z : ℤ). (low_end p j *ℤ d) ≤ℤ z) (sym (stood j High f high))
        (scaled (low_end p j) (end_value p j High) (ends-ordered p proper j f.among (end_value p j High) (k.sound.ends j f high)))
  ]

  free_high : (j : ℕ) (e : ℤ) → IsFree p s j → high_end p j ≡ Some e → x j ≤ℤ (e *ℤ d)
  free_high j e f is = elim (end_is (s.stands j)) [
    | inl low ↦ subst (λ (z : ℤ). z ≤ℤ (e *ℤ d)) (sym (stood j Low f low)) (scaled (low_end p j) e (ends-ordered p proper j f.among e is))
    | inr high ↦ subst (λ (z : ℤ). z ≤ℤ (e *ℤ d)) (sym (stood j High f high))
        (same_end (end_value p j High) e (inner (end_value p j High) e (sym (k.sound.ends j f high) ∙ is)))
  ]

  pub within-low : (j : ℕ) → j < columns p → (low_end p j *ℤ d) ≤ℤ x j
  within-low j lt = elim (placed p s j lt) [
    | inl free ↦ free_low j free
    | inr at ↦ subst (λ (i : ℕ). (low_end p i *ℤ d) ≤ℤ x i) at.2 (basic_low at.0 at.1)
  ]

  pub within-high : (j : ℕ) (e : ℤ) → j < columns p → high_end p j ≡ Some e → x j ≤ℤ (e *ℤ d)
  within-high j e lt is = elim (placed p s j lt) [
    | inl free ↦ free_high j e free is
    | inr at ↦ subst (λ (i : ℕ). x i ≤ℤ (e *ℤ d)) at.2 (basic_high at.0 e at.1 (ap (high_end p) at.2 ∙ is))
  ]
