-- A linear program that is written again for the run.
use Rattle.std.specs.Prelude.{◌≡◌, List, All, length, map}
use Rattle.exact_num.specs.Fraction.{IsShort}
use Rattle.exact_pivots.specs.declared.program.BoundedRow.{BoundedRow}
use Rattle.exact_pivots.specs.declared.program.Coefficient.{Coefficient}
use Rattle.exact_pivots.specs.declared.program.Variable.{Variable}
use Rattle.linear_program.specs.declared.lp.Lp.{Lp}
use Rattle.linear_program.specs.declared.lp.LpRow.{LpRow}
use Rattle.linear_program.specs.declared.terms.Term.{Term}

-- the program has ends and a cost for each variable, and these and all coefficients are short
pub record IsNarrow (lp : Lp) : Type 0 where
  pub highs : length lp.high.items ≡ length lp.low.items
  pub costs : length lp.cost.items ≡ length lp.low.items
  pub low : All IsShort lp.low.items
  pub high : All IsShort lp.high.items
  pub cost : All IsShort lp.cost.items
  pub coefs : All (λ r. All (λ t. IsShort t.coef) r.terms.items) lp.rows.items

-- the variables have the program's ends and costs
pub record AreVariablesOf (lp : Lp) (vs : List Variable) : Type 0 where
  pub low : map (λ v. v.low) vs ≡ lp.low.items
  pub high : map (λ v. v.high) vs ≡ lp.high.items
  pub cost : map (λ v. v.cost) vs ≡ lp.cost.items

-- a coefficient as a term
abbrev pub shown_term : Coefficient → Term
shown_term c = record { var = c.variable; coef = c.value }

-- a row has the program's terms, constant and kind
pub record IsRowOf (r : LpRow) (w : BoundedRow) : Type 0 where
  pub equal : w.equal ≡ r.equal
  pub constant : w.constant ≡ r.constant
  pub terms : map shown_term w.terms.items ≡ r.terms.items

-- so have all rows, in order
pub record AreRowsOf (rs : List LpRow) (ws : List BoundedRow) : Type 0 where
  pub equal : map (λ w. w.equal) ws ≡ map (λ r. r.equal) rs
  pub constant : map (λ w. w.constant) ws ≡ map (λ r. r.constant) rs
  pub terms : map (λ w. map shown_term w.terms.items) ws ≡ map (λ r. r.terms.items) rs
