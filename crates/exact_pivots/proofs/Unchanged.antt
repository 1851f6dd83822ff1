-- A row without the column that enters is as before.
use Rattle.std.proofs.Common.{◌≡◌, ◌∙◌, ap, refl, ℕ, pos, ℤ, ◌*ℤ◌}
use Rattle.exact_num.specs.Fraction.{Fraction, product_of}
use Rattle.exact_run.specs.Operations.{whole, IsReduced}
use Rattle.exact_pivots.specs.Lines.{IsChangedRow, IsChangedLine}
use Rattle.exact_pivots.specs.Views.{shown_line}
use Rattle.exact_pivots.specs.declared.tableau.Line.{Line}
use Rattle.exact_pivots.proofs.Memory.{factor_low}
use Rattle.exact_pivots.proofs.Reduced.{sum-no_part, zero_times, frac-self}

-- nothing times a number is nothing
no_scale : (s e : Fraction) → s.num ≡ pos 0 → (product_of s e).num ≡ pos 0
no_scale s e h = ap (λ (z : ℤ). z *ℤ e.num) h ∙ zero_times e.num

pub unchanged_row : (enters : ℕ) (own before : ℕ → Fraction) → ((j : ℕ) → IsReduced (before j) (before j)) → before enters ≡ whole (pos 0) → IsChangedRow enters own before before
unchanged_row enters own before low h = record {
  entering = h;
  others = λ j ne. sum-no_part (before j) (product_of (before enters) (own j)) (low j).positive (low j).lowest (no_scale (before enters) (own j) (ap (λ (x : Fraction). x.num) h));
}

pub unchanged_line : (enters : ℕ) (moved : Fraction) (own : ℕ → Fraction) (l : Line) → (shown_line l).factor enters ≡ whole (pos 0) → IsChangedLine enters moved own (shown_line l) (shown_line l)
unchanged_line enters moved own l h =
    let low = frac-self l.value in record {
      basic = refl;
      value = sum-no_part (shown_line l).value (product_of ((shown_line l).factor enters) moved) low.positive low.lowest
          (no_scale ((shown_line l).factor enters) moved (ap (λ (x : Fraction). x.num) h));
      row = unchanged_row enters own (shown_line l).factor (factor_low l.factors.entries.items) h;
    }
