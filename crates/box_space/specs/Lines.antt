-- Rows as they are written, term by term.
use Rattle.std.specs.Prelude.{ℕ, zero, suc, ◌+◌, List, [], ◌∷◌, ◌++◌, ◌==◌, if◌then◌else◌, ℤ, unsigned_abs}
use Rattle.std.specs.List.{flat_map}
use Rattle.linear_program.specs.declared.terms.Term.{Term}

-- terms in a row, and a constant
pub record Line : Type 0 where
  pub terms : List Term
  pub constant : ℤ

-- the term of a variable, where its coefficient is not 0
abbrev pub term_of : ℕ → ℤ → List Term
term_of v c = if unsigned_abs c == 0 then [] else record { var = v; coef = c } ∷ []

-- the terms of some numbers: the variable of each, with the coefficient of each
abbrev pub terms_at : (ℕ → ℕ) → (ℕ → ℤ) → List ℕ → List Term
terms_at var c numbers = flat_map (λ i. term_of (var i) (c i)) numbers

-- the terms of so many variables: the variable of each number, with the coefficient of each
abbrev pub terms_by : (ℕ → ℕ) → (ℕ → ℤ) → ℕ → List Term
terms_by var f zero = []
terms_by var f (suc n) = terms_by var f n ++ term_of (var n) (f n)

-- the terms of so many variables from a first one on, by rising number
abbrev pub terms_from : ℕ → (ℕ → ℤ) → ℕ → List Term
terms_from first f n = terms_by (λ i. first + i) f n
