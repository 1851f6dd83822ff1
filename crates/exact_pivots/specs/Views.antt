-- What programs and states in memory stand for.
use Rattle.std.specs.Prelude.{ℕ, List, [], ◌∷◌, false, map, get_or, length, ℤ, pos, if◌then◌else◌, ◌==◌}
use Rattle.exact_num.specs.Fraction.{Fraction}
use Rattle.exact_num.specs.Views.{shown_frac}
use Rattle.exact_run.specs.Operations.{whole}
use Rattle.exact_run.specs.Programs.{Program}
use Rattle.exact_run.specs.States.{State}
use Rattle.exact_run.specs.declared.ends.End.{End}
use Rattle.exact_run.specs.declared.ends.End.TheVariants.{Low}
use Rattle.exact_pivots.specs.Factors.{factors_of}
use Rattle.exact_pivots.specs.declared.program.BoundedProgram.{BoundedProgram}
use Rattle.exact_pivots.specs.declared.program.Coefficient.{Coefficient}
use Rattle.exact_pivots.specs.declared.tableau.Tableau.{Tableau}
use Rattle.exact_pivots.specs.declared.tableau.Line.{Line}

-- ---- programs

-- the coefficient of a variable: 0 where the row has no term of it
abbrev pub coef_of : List Coefficient → ℕ → ℤ
coef_of [] v = pos 0
coef_of (t ∷ ts) v = if t.variable == v then t.value else coef_of ts v

-- the program
abbrev pub program_of : BoundedProgram → Program
program_of p = record {
  variables = length p.variables.items;
  rows = length p.rows.items;
  coef = λ r v. coef_of (get_or (map (λ w. w.terms.items) p.rows.items) r []) v;
  constant = λ r. get_or (map (λ w. w.constant) p.rows.items) r (pos 0);
  equal = λ r. get_or (map (λ w. w.equal) p.rows.items) r false;
  cost = λ v. get_or (map (λ w. w.cost) p.variables.items) v (pos 0);
  low = λ v. get_or (map (λ w. w.low) p.variables.items) v (pos 0);
  high = λ v. get_or (map (λ w. w.high) p.variables.items) v (pos 0);
}

-- ---- states

-- a line's basic column, value and factors
pub record Shown : Type 0 where
  pub basic : ℕ
  pub value : Fraction
  pub factor : ℕ → Fraction

abbrev pub shown_line : Line → Shown
shown_line l = record { basic = l.basic; value = shown_frac l.value; factor = factors_of l.factors }

-- the line of a place
abbrev pub line_at : List Line → ℕ → Shown
line_at ls r = get_or (map shown_line ls) r record { basic = 0; value = whole (pos 0); factor = λ j. whole (pos 0) }

-- the state of lines by place, of the ends at which the other columns stand, and of the cost's factors
abbrev pub state_with : (ℕ → Shown) → (ℕ → End) → (ℕ → Fraction) → State
state_with line stands cost = record {
  basic = λ r. (line r).basic;
  value = λ r. (line r).value;
  factor = λ r. (line r).factor;
  stands = stands;
  cost = cost;
}

-- the end of a column
abbrev pub stands_at : List End → ℕ → End
stands_at es j = get_or es j Low

-- the state
abbrev pub state_of : Tableau → State
state_of t = state_with (line_at t.lines.items) (stands_at t.stands.items) (factors_of t.cost)
