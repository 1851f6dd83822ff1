-- The weight of a proof, part by part and term by term, and the sums that its number is made of.
use Rattle.std.specs.Prelude.{ℕ, ◌+◌, ◌*◌, max, List, get_or, ℤ, pos, unsigned_abs, ◌==◌, if◌then◌else◌}
use Rattle.std.specs.List.{sum_by}
use Rattle.integers.specs.Sums.{int_sum_by, sum_below}
use Rattle.pool_model.specs.Network.{Net}
use Rattle.row_model.specs.Boxes.{Box}
use Rattle.row_model.specs.Variables.{by_number, lows, highs}
use Rattle.box_space.specs.Lines.{Line}
use Rattle.linear_program.specs.declared.terms.Term.{Term}

-- the size of the larger end of a variable
abbrev pub end_size : Net → Box → ℕ → ℕ
end_size n b v = max (unsigned_abs (by_number n (lows n b) v)) (unsigned_abs (by_number n (highs n b) v))

-- what the rests of the first variables weigh
abbrev pub rests_weight : Net → Box → List ℤ → ℕ → ℕ
rests_weight n b rests count = sum_below (λ v. unsigned_abs (get_or rests v (pos 0)) * end_size n b v) count

-- what terms of a row add to the weight
abbrev pub terms_weight : Net → Box → ℤ → List Term → ℕ
terms_weight n b mult terms = sum_by (λ t. unsigned_abs mult * unsigned_abs t.coef * end_size n b t.var) terms

-- what a multiplied row adds to the weight
abbrev pub line_weight : Net → Box → ℤ → Line → ℕ
line_weight n b mult line = unsigned_abs mult * unsigned_abs line.constant + terms_weight n b mult line.terms

-- the coefficient of a variable in terms: the sum of those that name it
abbrev pub coef_in : List Term → ℕ → ℤ
coef_in terms v = int_sum_by (λ t. if t.var == v then t.coef else pos 0) terms

-- the sum of the sizes of a variable's coefficients
abbrev pub size_in : List Term → ℕ → ℕ
size_in terms v = sum_by (λ t. if t.var == v then unsigned_abs t.coef else 0) terms
