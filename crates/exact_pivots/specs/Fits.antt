-- Programs that a run can start with, and what it keeps of its states.
use Rattle.std.specs.Prelude.{◌≡◌, ◌≢◌, ◌⊎◌, ℕ, ◌+◌, ◌*◌, ◌<◌, ◌≤◌, ◌^◌, List, [], ◌∷◌, map, max, get_or, length, pos, negsuc, unsigned_abs}
use Rattle.integers.specs.Sums.{sum_below}
use Rattle.exact_run.specs.Operations.{whole}
use Rattle.exact_run.specs.Programs.{Program, columns}
use Rattle.exact_run.specs.States.{State, IsFree}
use Rattle.exact_pivots.specs.Views.{program_of, state_of}
use Rattle.exact_pivots.specs.declared.program.BoundedProgram.{BoundedProgram}
use Rattle.exact_pivots.specs.declared.program.Coefficient.{Coefficient}
use Rattle.exact_pivots.specs.declared.tableau.Tableau.{Tableau}

-- the variables rise, from this one on, and are below the limit
abbrev pub AreTerms : ℕ → ℕ → List Coefficient → Type 0
AreTerms limit least [] = Unit {0}
AreTerms limit least (t ∷ ts) = (least ≤ t.variable) × (t.variable < limit) × AreTerms limit (t.variable + 1) ts

-- the size of a variable's greater end
abbrev pub end_size : Program → ℕ → ℕ
end_size p v = max (unsigned_abs (p.low v)) (unsigned_abs (p.high v))

-- the most that a row's value comes to, with each variable at an end
abbrev pub weight_of : Program → ℕ → ℕ
weight_of p r = unsigned_abs (p.constant r) + sum_below (λ v. unsigned_abs (p.coef r v) * end_size p v) p.variables

-- A program that a run can start with: the terms of each row rise, and its value at the start is short.
pub record IsReady (b : BoundedProgram) : Type 0 where
  pub terms : (r : ℕ) → r < length b.rows.items → AreTerms (length b.variables.items) 0 (get_or (map (λ w. w.terms.items) b.rows.items) r [])
  pub short : (r : ℕ) → r < length b.rows.items → weight_of (program_of b) r < 2 ^ 127

-- The basic columns are columns, each of one place; a line has -1 on its own, and else a factor that is not 0 on a free column alone, as the
-- cost has.
pub record IsTidy (p : Program) (s : State) : Type 0 where
  pub columns : (r : ℕ) → r < p.rows → s.basic r < columns p
  pub apart : (r q : ℕ) → r < p.rows → q < p.rows → r ≢ q → s.basic r ≢ s.basic q
  pub own : (r : ℕ) → r < p.rows → s.factor r (s.basic r) ≡ whole (negsuc 0)
  pub lines : (r j : ℕ) → r < p.rows → (s.factor r j).num ≢ pos 0 → IsFree p s j ⊎ (j ≡ s.basic r)
  pub cost : (j : ℕ) → (s.cost j).num ≢ pos 0 → IsFree p s j

-- a state in memory of the program, as the run keeps it
pub record Fits (p : Program) (t : Tableau) : Type 0 where
  pub lines : length t.lines.items ≡ p.rows
  pub stands : length t.stands.items ≡ columns p
  pub tidy : IsTidy p (state_of t)
