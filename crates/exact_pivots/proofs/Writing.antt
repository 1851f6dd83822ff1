-- The operations that code takes are those that the step writes.
use Rattle.std.proofs.Common.{◌≡◌, ◌≢◌, ◌∙◌, sym, ap, subst, refl, ℕ, ◌<◌, ◌⊎◌, inl, inr, pos}
use Rattle.exact_num.specs.Fraction.{Fraction, difference_of, quotient_of}
use Rattle.exact_run.specs.Operations.{whole, IsReduced}
use Rattle.exact_run.specs.Programs.{Program, end_value}
use Rattle.exact_run.specs.States.{State}
use Rattle.exact_run.specs.Steps.{Leaves, Enters}
use Rattle.exact_run.specs.Written.{IsWritten, IsChanged}
use Rattle.exact_run.specs.declared.operations.Operation.{Operation}
use Rattle.exact_run.specs.declared.operations.Operation.TheVariants.{Add, Sub, Mul, Div}
use Rattle.exact_pivots.specs.Stops.{IsWrittenAt, IsWrittenInRow, IsWrittenSolving}
use Rattle.exact_pivots.specs.Views.{Shown}
use Rattle.exact_pivots.specs.Fits.{IsTidy}
use Rattle.exact_pivots.specs.Choices.{IsWrittenFrom}
use Rattle.exact_pivots.specs.Lines.{IsWrittenMoving, IsWrittenChanging}
use Rattle.exact_pivots.specs.declared.pivots.Leaving.{Leaving}
use Rattle.exact_pivots.proofs.PivotThere.{IsLowestState, has_pivot}
use Rattle.exact_pivots.proofs.Stepping.{Stepping, pivot_with, is_pivot, not_at_leaving, cost_not_at_leaving, own_stays}

-- ---- the pivot's row

module _ (p : Program) (s : State) (l : Leaving) (k : ℕ) (low : IsLowestState s) (leaves : Leaves p s l.place l.side l.end) (enters : Enters p s l.place l.side k) where
  pub moving_written : (o : Operation) (a b : Fraction) → IsWrittenMoving (whole l.end) (s.value l.place) (s.factor l.place k) o a b → IsWrittenFrom p s o a b
  moving_written Add a b h = absurd h
  moving_written Sub a b h = let v = has_pivot p s l.place l.side l.end k low leaves enters in (pivot_with l k v.0 v.1, v.2, inl h)
  moving_written Mul a b h = absurd h
  moving_written Div a b h = let v = has_pivot p s l.place l.side l.end k low leaves enters in (pivot_with l k v.0 v.1, v.2, inl (h.1, inl h.0))

  -- the value of the column that enters
  pub entered_written : (moved : Fraction) → IsReduced (quotient_of (difference_of (whole l.end) (s.value l.place)) (s.factor l.place k)) moved
      → IsWrittenFrom p s Add (whole (end_value p k (s.stands k))) moved
  entered_written moved h = let v = has_pivot p s l.place l.side l.end k low leaves enters in (
    pivot_with l k moved v.1,
    record { leaves = leaves; enters = enters; moved = h; own_leaving = v.2.own_leaving; own = λ j f. v.2.own j record { free = f.free; stays = f.stays } },
    inl (refl, refl),
  )

  pub solving_written : (tidy : IsTidy p s) (o : Operation) (a b : Fraction) → IsWrittenSolving (s.factor l.place) k (s.basic l.place) o a b → IsWrittenFrom p s o a b
  solving_written tidy Add a b h = absurd h.2
  -- here h.2 is (j ≢ k) × ((j ≢ leaving) × (a is 0) × (b is the factor))
  solving_written tidy Sub a b h =
      let v = has_pivot p s l.place l.side l.end k low leaves enters in
      let w = h.2.1 in elim (tidy.lines l.place h.0 leaves.place h.1) [
        | inl free ↦ (pivot_with l k v.0 v.1, v.2, inr (h.0, record { free = free; stays = h.2.0 }, w.1, w.2))
        | inr e ↦ absurd (w.0 e)
      ]
  solving_written tidy Mul a b h = absurd h.2
  solving_written tidy Div a b h =
      let v = has_pivot p s l.place l.side l.end k low leaves enters in elim h.2.2 [
        | inl one ↦ (pivot_with l k v.0 v.1, v.2, inl (h.2.1, inr (inl one.1)))
        | inr other ↦ elim (tidy.lines l.place h.0 leaves.place h.1) [
          | inl free ↦ (pivot_with l k v.0 v.1, v.2, inl (h.2.1, inr (inr (h.0, record { free = free; stays = h.2.0 }, other.1))))
          | inr e ↦ absurd (other.0 e)
        ]
      ]

-- ---- the other rows

module _ (p : Program) (s : State) (l : Leaving) (k : ℕ) (moved value : Fraction) (own : ℕ → Fraction) (h : Stepping p s l k moved value own) where
  in_row_written : (before : ℕ → Fraction) → IsChanged p s (pivot_with l k moved own) before → (before (s.basic l.place)).num ≡ pos 0
      → (o : Operation) (a b : Fraction) → IsWrittenInRow before (before k) own k o a b → IsWritten p s (pivot_with l k moved own) o a b
  in_row_written before changed none Add a b w = let there = w.2 in elim (own_stays p s l k moved value own h w.0 w.1 there.0) [
    | inl f ↦ inr (inr (before, changed, w.0, f, there.2, there.3))
    | inr e ↦ absurd (there.1 (ap (λ (j : ℕ). (before j).num) e ∙ none))
  ]
  in_row_written before changed none Sub a b w = absurd w.2
  in_row_written before changed none Mul a b w = let there = w.2 in elim (own_stays p s l k moved value own h w.0 w.1 there.0) [
    | inl f ↦ inr (before, changed, there.1, inr (w.0, f, there.2))
    | inr e ↦ inr (before, changed, there.1, inl (there.2 ∙ ap own e))
  ]
  in_row_written before changed none Div a b w = absurd w.2

  value_written : (q : ℕ) → q < p.rows → q ≢ l.place → (o : Operation) (a b : Fraction) → IsWrittenAt (s.value q) (s.factor q k) moved o a b
      → IsWritten p s (pivot_with l k moved own) o a b
  value_written q lt ne Add a b w = inr (inl (q, lt, ne, w.2, w.3))
  value_written q lt ne Sub a b w = absurd w
  value_written q lt ne Mul a b w = inl (q, lt, ne, w.1, w.2)
  value_written q lt ne Div a b w = absurd w

  pub cost_written : (o : Operation) (a b : Fraction) → IsWrittenInRow s.cost (s.cost k) own k o a b → IsWrittenFrom p s o a b
  cost_written o a b w = (
    pivot_with l k moved own,
    is_pivot p s l k moved value own h,
    in_row_written s.cost (inr refl) (cost_not_at_leaving p s l k moved value own h) o a b w,
  )

  pub line_written : (q : ℕ) → q < p.rows → q ≢ l.place → (shown : Shown) → s.value q ≡ shown.value → s.factor q ≡ shown.factor
      → (o : Operation) (a b : Fraction) → IsWrittenChanging k moved own shown o a b → IsWrittenFrom p s o a b
  line_written q lt ne shown value_is factor_is o a b w = (
    pivot_with l k moved own,
    is_pivot p s l k moved value own h,
    by_shown (subst (λ (f : ℕ → Fraction). IsWrittenAt (s.value q) (f k) moved o a b ⊎ IsWrittenInRow f (f k) own k o a b) (sym factor_is)
        (subst (λ (x : Fraction). IsWrittenAt x (shown.factor k) moved o a b ⊎ IsWrittenInRow shown.factor (shown.factor k) own k o a b) (sym value_is) w)),
  )
    where
      by_shown : IsWrittenAt (s.value q) (s.factor q k) moved o a b ⊎ IsWrittenInRow (s.factor q) (s.factor q k) own k o a b → IsWritten p s (pivot_with l k moved own) o a b
      by_shown w = elim w [
        | inl at ↦ value_written q lt ne o a b at
        | inr row ↦ in_row_written (s.factor q) (inl (q, lt, ne, refl)) (not_at_leaving p s l k moved value own h q lt ne) o a b row
      ]
