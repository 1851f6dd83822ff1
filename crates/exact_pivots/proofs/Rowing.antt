-- The pivot's row, as code makes it of the line that leaves.
use Rattle.std.proofs.Common.{◌≡◌, ◌≢◌, sym, refl, subst, ℕ, pos}
use Rattle.exact_num.specs.Fraction.{Fraction, sum_of, difference_of, quotient_of}
use Rattle.exact_num.specs.Views.{shown_frac}
use Rattle.exact_run.specs.Operations.{whole, IsReduced}
use Rattle.exact_run.specs.Programs.{Program, end_value}
use Rattle.exact_run.specs.Steps.{Leaves, Enters}
use Rattle.exact_run.specs.declared.operations.Operation.{Operation}
use Rattle.exact_run.specs.declared.operations.TooWide.{TooWide}
use Rattle.exact_pivots.specs.Choices.{IsWrittenFrom}
use Rattle.exact_pivots.specs.Factors.{factors_of}
use Rattle.exact_pivots.specs.Fits.{IsTidy}
use Rattle.exact_pivots.specs.Lines.{IsWrittenMoving, IsPivotRow}
use Rattle.exact_pivots.specs.Stops.{IsTooWideBy, Stops, IsWrittenSolving, IsSolvedFactor}
use Rattle.exact_pivots.specs.Views.{Shown, shown_line, line_at, stands_at, state_of}
use Rattle.exact_pivots.specs.declared.pivots.Leaving.{Leaving}
use Rattle.exact_pivots.specs.declared.stop.Stop.{Stop}
use Rattle.exact_pivots.specs.declared.tableau.Line.{Line}
use Rattle.exact_pivots.specs.declared.tableau.Tableau.{Tableau}
use Rattle.exact_pivots.proofs.Memory.{state_low}
use Rattle.exact_pivots.proofs.PivotThere.{back_other}
use Rattle.exact_pivots.proofs.Told.{stops_as}
use Rattle.exact_pivots.proofs.Writing.{moving_written, solving_written}

module _ (p : Program) (t : Tableau) (l : Leaving) (k : ℕ) (leaves : Leaves p (state_of t) l.place l.side l.end) (enters : Enters p (state_of t) l.place l.side k)
    (line : Line) (is : shown_line line ≡ line_at t.lines.items l.place) where
  pub row_by : (factors_of line.factors k).num ≢ pos 0
  row_by = subst (λ (x : Shown). (x.factor k).num ≢ pos 0) (sym is) (back_other l.side (stands_at t.stands.items k) ((line_at t.lines.items l.place).factor k).num enters.candidate.back)

  moving_at : (x by : Fraction) → x ≡ (shown_line line).value → by ≡ (shown_line line).factor k → (o : Operation) (a b : Fraction)
      → IsWrittenMoving (whole l.end) x by o a b → IsWrittenFrom p (state_of t) o a b
  moving_at x by vx vb o a b h =
      moving_written p (state_of t) l k (state_low t) leaves enters o a b
      (subst (λ (y : Shown). IsWrittenMoving (whole l.end) y.value (y.factor k) o a b) is
      (subst (λ (y : Fraction). IsWrittenMoving (whole l.end) (shown_line line).value y o a b) vb
      (subst (λ (y : Fraction). IsWrittenMoving (whole l.end) y by o a b) vx h)))

  pub row_stops_moving : (by : Fraction) → by ≡ factors_of line.factors k → (w : TooWide)
      → IsTooWideBy (IsWrittenMoving (whole l.end) (shown_frac line.value) by) w → IsTooWideBy (IsWrittenFrom p (state_of t)) w
  row_stops_moving by vb w h = (moving_at (shown_frac line.value) by refl vb w.operation (shown_frac w.left) (shown_frac w.right) h.0, h.1)

  pub row_moved : (by moved : Fraction) → by ≡ factors_of line.factors k → IsReduced (quotient_of (difference_of (whole l.end) (shown_frac line.value)) by) moved
      → IsReduced (quotient_of (difference_of (whole l.end) ((state_of t).value l.place)) ((state_of t).factor l.place k)) moved
  row_moved by moved vb h =
      subst (λ (y : Shown). IsReduced (quotient_of (difference_of (whole l.end) y.value) (y.factor k)) moved) is
      (subst (λ (y : Fraction). IsReduced (quotient_of (difference_of (whole l.end) (shown_line line).value) y) moved) vb h)

  pub row_stops_solving : (tidy : IsTidy p (state_of t)) (s : Stop) → Stops (IsWrittenSolving (factors_of line.factors) k line.basic) s → Stops (IsWrittenFrom p (state_of t)) s
  row_stops_solving tidy s h =
      stops_as s (IsWrittenSolving (factors_of line.factors) k line.basic) (IsWrittenFrom p (state_of t))
      (λ o a b w. solving_written p (state_of t) l k (state_low t) leaves enters tidy o a b
      (subst (λ (y : Shown). IsWrittenSolving y.factor k y.basic o a b) is w)) h

  pub row_is : (moved value : Fraction) (own : ℕ → Fraction) → IsReduced (quotient_of (difference_of (whole l.end) ((state_of t).value l.place)) ((state_of t).factor l.place k)) moved
      → ((j : ℕ) → IsSolvedFactor (factors_of line.factors k) k line.basic j (factors_of line.factors j) (own j))
      → IsReduced (sum_of (whole (end_value p k (stands_at t.stands.items k))) moved) value
      → IsPivotRow p (state_of t) l k moved own value
  row_is moved value own m o v = record {
    moved = m;
    own = subst (λ (y : Shown). (j : ℕ) → IsSolvedFactor (y.factor k) k y.basic j (y.factor j) (own j)) is o;
    value = v;
  }
