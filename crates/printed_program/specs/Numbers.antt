-- What the lines of a program say of numbers: whoever reads them needs nothing else.
use Rattle.std.specs.Prelude.{◌≡◌, ℕ, ◌<◌, List, All, ℤ, pos, ◌+ℤ◌, ◌*ℤ◌, ◌≤ℤ◌}
use Rattle.integers.specs.Sums.{int_sum_by}
use Rattle.row_model.specs.Lift.{IsMet}
use Rattle.program_text.specs.declared.names.Name.{Name}
use Rattle.printed_program.specs.ProgramLines.{NamedTerm, ProgramLine, of_form, least, ends, row, product, finish}

-- a number for each name: so many parts of one denominator
pub record Numbers : Type 0 where
  pub base : ℕ
  pub value : Name → ℤ

-- the sum of coefficients times variables, over the denominator
abbrev pub terms_at : Numbers → List NamedTerm → ℤ
terms_at q terms = int_sum_by (λ t. t.coef *ℤ q.value t.name) terms

-- The numbers keep a line: a variable lies between its ends; a row with its constant is at least 0, or equal to 0; a variable times
-- its scale is the product of its two factors.
abbrev pub Keeps : Numbers → ProgramLine → Type 0
Keeps q (of_form form) = Unit {0}
Keeps q (least terms) = Unit {0}
Keeps q (ends name low high) = ((low *ℤ pos q.base) ≤ℤ q.value name) × (q.value name ≤ℤ (high *ℤ pos q.base))
Keeps q (row id kind constant terms) = IsMet kind (terms_at q terms +ℤ constant *ℤ pos q.base)
Keeps q (product name factor flow scale) = pos scale *ℤ q.value name *ℤ pos q.base ≡ q.value factor *ℤ q.value flow
Keeps q finish = Unit {0}

-- numbers over a denominator above 0 that keep each line
pub record IsPointOf (lines : List ProgramLine) (q : Numbers) : Type 0 where
  pub base : 0 < q.base
  pub keeps : All (Keeps q) lines

-- what a line adds to the cost
abbrev pub cost_in : Numbers → ProgramLine → ℤ
cost_in q (least terms) = terms_at q terms
cost_in q line = pos 0

-- what the lines make as small as it can be, over the denominator
abbrev pub cost_at : List ProgramLine → Numbers → ℤ
cost_at lines q = int_sum_by (cost_in q) lines
