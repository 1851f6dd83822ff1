-- Rows as they are written, at a point.
use Rattle.std.specs.Prelude.{ℕ, ◌+◌, ◌*◌, List, ℤ, pos, ◌+ℤ◌, ◌*ℤ◌, unsigned_abs, ◌^◌, ◌≤◌}
use Rattle.std.specs.List.{sum_by}
use Rattle.integers.specs.Sums.{int_sum_by}
use Rattle.box_space.specs.Lines.{Line}
use Rattle.linear_program.specs.declared.terms.Term.{Term}
use Rattle.pool_model.specs.Network.{Net}
use Rattle.row_model.specs.Boxes.{Box}
use Rattle.row_model.specs.Lift.{IsMet}
use Rattle.row_book.specs.PartRows.{kind_at}
use Rattle.relaxation_points.specs.Points.{Point, row_value, row_weight}

-- the sum of the terms at the values
abbrev pub terms_value : Point → List Term → ℤ
terms_value p terms = int_sum_by (λ t. t.coef *ℤ p.value t.var) terms

-- the sum of their sizes
abbrev pub terms_weight : Point → List Term → ℕ
terms_weight p terms = sum_by (λ t. unsigned_abs t.coef * unsigned_abs (p.value t.var)) terms

-- a written row's value at the point, times the base, and what it weighs there
abbrev pub line_value : Line → Point → ℤ
line_value line p = terms_value p line.terms +ℤ line.constant *ℤ pos p.base

abbrev pub line_weight : Line → Point → ℕ
line_weight line p = terms_weight p line.terms + unsigned_abs line.constant * p.base

-- a row can be added up within 2^126 at the point, and holds there
pub record HoldsLightly (n : Net) (b : Box) (p : Point) (id : ℕ) : Type 0 where
  pub light : row_weight n b p id ≤ 2 ^ 126
  pub met : IsMet (kind_at n b id) (row_value n b p id)
