-- What code has made of a state is the state after the step.
use Rattle.std.proofs.Common.{◌≡◌, ◌≢◌, ◌∙◌, sym, ap, subst, refl, ℕ, ◌<◌, set, length, List}
use Rattle.std.proofs.lemmas.List.{get_or-set_same, get_or-set_other, length-set}
use Rattle.exact_num.specs.Fraction.{Fraction}
use Rattle.exact_run.specs.Programs.{Program}
use Rattle.exact_run.specs.Steps.{Leaves, Enters}
use Rattle.exact_run.specs.declared.ends.End.{End}
use Rattle.exact_run.specs.declared.ends.End.TheVariants.{Low}
use Rattle.exact_run.specs.declared.operations.Operation.{Operation}
use Rattle.exact_pivots.specs.Choices.{StepsTo, IsWrittenFrom}
use Rattle.exact_pivots.specs.Factors.{factors_of}
use Rattle.exact_pivots.specs.Fits.{Fits}
use Rattle.exact_pivots.specs.Lines.{IsPivotRow, IsChangedRow, IsChangedLine, AreChangedTo, IsWrittenChanging}
use Rattle.exact_pivots.specs.Stops.{IsWrittenInRow}
use Rattle.exact_pivots.specs.Views.{Shown, line_at, stands_at, state_of}
use Rattle.exact_pivots.specs.declared.factors.Factors.{Factors}
use Rattle.exact_pivots.specs.declared.pivots.Leaving.{Leaving}
use Rattle.exact_pivots.specs.declared.tableau.Line.{Line}
use Rattle.exact_pivots.specs.declared.tableau.Tableau.{Tableau}
use Rattle.exact_pivots.proofs.Memory.{state_low, factor_low}
use Rattle.exact_pivots.proofs.Stepping.{Stepping, Stepped, pivot_with, is_pivot, step_is, tidy_is, AnyChanging}
use Rattle.exact_pivots.proofs.Writing.{cost_written, line_written}

-- the pivot's row, of a state in memory
pub record IsAtWork (p : Program) (t : Tableau) (l : Leaving) (k made : ℕ) (moved value : Fraction) (own : Factors) : Type 0 where
  pub fits : Fits p t
  pub leaves : Leaves p (state_of t) l.place l.side l.end
  pub enters : Enters p (state_of t) l.place l.side k
  pub made_is : made ≡ k
  pub row : IsPivotRow p (state_of t) l k moved (factors_of own) value

-- the other lines, the cost, and what is put in their places
pub record IsPut (t t2 : Tableau) (lines : List Line) (cost : Factors) (l : Leaving) (k made : ℕ) (moved value : Fraction) (own : Factors) : Type 0 where
  pub changed : AreChangedTo l.place made moved (factors_of own) t.lines.items lines (length t.lines.items)
  pub costs : IsChangedRow k (factors_of own) (factors_of t.cost) (factors_of cost)
  pub line : line_at t2.lines.items l.place ≡ record { basic = made; value = value; factor = factors_of own }
  pub others : (q : ℕ) → q ≢ l.place → line_at t2.lines.items q ≡ line_at lines q
  pub long : length t2.lines.items ≡ length lines
  pub stands : t2.stands.items ≡ set t.stands.items (line_at lines l.place).basic l.side
  pub cost_is : factors_of t2.cost ≡ factors_of cost

module _ (p : Program) (t : Tableau) (l : Leaving) (k made : ℕ) (moved value : Fraction) (own : Factors) (w : IsAtWork p t l k made moved value own) where
  pub stepping : Stepping p (state_of t) l k moved value (factors_of own)
  stepping = record {
    low = state_low t;
    low_own = factor_low own.entries.items;
    tidy = w.fits.tidy;
    leaves = w.leaves;
    enters = w.enters;
    row = w.row;
  }

  pub any_line_written : (o : Operation) (a b : Fraction) → AnyChanging l.place made moved (factors_of own) t.lines.items o a b → IsWrittenFrom p (state_of t) o a b
  any_line_written o a b h =
      line_written p (state_of t) l k moved value (factors_of own) stepping h.0 (subst (λ (n : ℕ). h.0 < n) w.fits.lines h.1) h.2 (line_at t.lines.items h.0) refl refl o a b
      (subst (λ (n : ℕ). IsWrittenChanging n moved (factors_of own) (line_at t.lines.items h.0) o a b) w.made_is h.3)

  pub any_cost_written : (o : Operation) (a b : Fraction) → IsWrittenInRow (factors_of t.cost) (factors_of t.cost k) (factors_of own) k o a b → IsWrittenFrom p (state_of t) o a b
  any_cost_written o a b h = cost_written p (state_of t) l k moved value (factors_of own) stepping o a b h

  module _ (t2 : Tableau) (lines : List Line) (cost : Factors) (h : IsPut t t2 lines cost l k made moved value own) where
    stands_are : t2.stands.items ≡ set t.stands.items (line_at t.lines.items l.place).basic l.side
    stands_are = h.stands ∙ ap (λ (x : Shown). set t.stands.items x.basic l.side) h.changed.place

    stepped : Stepped p (line_at t.lines.items) (line_at t2.lines.items) (stands_at t.stands.items) (stands_at t2.stands.items) (factors_of t.cost) (factors_of t2.cost) l k moved value (factors_of own)
    stepped = record {
      stepping = stepping;
      entered = h.line ∙ ap (λ (n : ℕ). shown_with n) w.made_is;
      changed = λ q lt ne. subst (λ (x : Shown). IsChangedLine k moved (factors_of own) (line_at t.lines.items q) x) (sym (h.others q ne))
          (subst (λ (n : ℕ). IsChangedLine n moved (factors_of own) (line_at t.lines.items q) (line_at lines q)) w.made_is
          (h.changed.done q (subst (λ (n : ℕ). q < n) (sym w.fits.lines) lt) ne));
      costs = subst (IsChangedRow k (factors_of own) (factors_of t.cost)) (sym h.cost_is) h.costs;
      leaver = ap (λ (es : List End). stands_at es (line_at t.lines.items l.place).basic) stands_are
          ∙ get_or-set_same t.stands.items (line_at t.lines.items l.place).basic l.side Low
          (subst (λ (n : ℕ). (line_at t.lines.items l.place).basic < n) (sym w.fits.stands) (w.fits.tidy.columns l.place w.leaves.place));
      others = λ j ne. ap (λ (es : List End). stands_at es j) stands_are
          ∙ get_or-set_other t.stands.items (line_at t.lines.items l.place).basic j l.side Low ne;
    }
      where
        shown_with : ℕ → Shown
        shown_with n = record { basic = n; value = value; factor = factors_of own }

    pub step_done : StepsTo p (state_of t) (state_of t2)
    step_done = (
      pivot_with l k moved (factors_of own),
      is_pivot p (state_of t) l k moved value (factors_of own) stepping,
      step_is p (line_at t.lines.items) (line_at t2.lines.items) (stands_at t.stands.items) (stands_at t2.stands.items) (factors_of t.cost) (factors_of t2.cost) l k moved value (factors_of own) stepped,
    )

    pub fits_done : Fits p t2
    fits_done = record {
      lines = h.long ∙ h.changed.length ∙ w.fits.lines;
      stands = ap (λ (es : List End). length es) stands_are ∙ length-set t.stands.items (line_at t.lines.items l.place).basic l.side ∙ w.fits.stands;
      tidy = tidy_is p (line_at t.lines.items) (line_at t2.lines.items) (stands_at t.stands.items) (stands_at t2.stands.items) (factors_of t.cost) (factors_of t2.cost) l k moved value (factors_of own) stepped;
    }
