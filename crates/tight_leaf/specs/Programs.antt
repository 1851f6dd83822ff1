-- The program of a box, for the exact run.
use Rattle.std.specs.Prelude.{◌≡◌, ℕ, ◌<◌, length, get_or, if◌then◌else◌}
use Rattle.pool_model.specs.Network.{Net}
use Rattle.row_model.specs.Boxes.{Box}
use Rattle.row_model.specs.Catalogue.{at_least, equal}
use Rattle.row_model.specs.Variables.{variables, by_number, costs, lows, highs}
use Rattle.row_book.specs.PartRows.{kind_at, coef_at, constant_at}
use Rattle.box_space.specs.declared.coordinates.Form.{Form}
use Rattle.dual_rounding.specs.Programs.{form_rows}
use Rattle.exact_run.specs.Programs.{Program}

-- the number of the form's row at a place
abbrev pub row_number : Net → Form → ℕ → ℕ
row_number n form r = get_or (form_rows n form) r 0

-- The program has the form's rows in the box, in the order of their numbers, and each variable with its cost and its ends there. What it
-- says of other numbers has no meaning.
pub record IsBoxProgram (n : Net) (form : Form) (b : Box) (p : Program) : Type 0 where
  pub variables : p.variables ≡ variables n
  pub rows : p.rows ≡ length (form_rows n form)
  pub coef : (r v : ℕ) → r < p.rows → v < p.variables → p.coef r v ≡ coef_at n b (row_number n form r) v
  pub constant : (r : ℕ) → r < p.rows → p.constant r ≡ constant_at n b (row_number n form r)
  pub kind : (r : ℕ) → r < p.rows → (if p.equal r then equal else at_least) ≡ kind_at n b (row_number n form r)
  pub cost : (v : ℕ) → v < p.variables → p.cost v ≡ by_number n (costs n) v
  pub low : (v : ℕ) → v < p.variables → p.low v ≡ by_number n (lows n b) v
  pub high : (v : ℕ) → v < p.variables → p.high v ≡ by_number n (highs n b) v
