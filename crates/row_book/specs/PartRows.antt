-- Rows by number, sealed: a proof that speaks of the row of a number does not open the catalogue.
use Rattle.std.specs.Prelude.{◌≡◌, ℕ, ◌^◌, ◌<◌, ℤ, unsigned_abs}
use Rattle.pool_model.specs.Network.{Net}
use Rattle.row_model.specs.Boxes.{Box}
use Rattle.row_model.specs.Variables.{variables}
use Rattle.row_model.specs.Catalogue.{Kind, row_at}
use Rattle.row_model.specs.Multipliers.{coef}
use Rattle.box_space.specs.Lines.{Line, terms_from}

-- the kind of a row
unfoldable pub kind_at : Net → Box → ℕ → Kind
kind_at n b id = (row_at n b id).kind

-- a row's coefficient of a variable
unfoldable pub coef_at : Net → Box → ℕ → ℕ → ℤ
coef_at n b id v = coef n b id v

-- a row's constant
unfoldable pub constant_at : Net → Box → ℕ → ℤ
constant_at n b id = (row_at n b id).constant

-- the row of a number as it is written
pub record IsRow (n : Net) (b : Box) (id : ℕ) (line : Line) : Type 0 where
  pub terms : line.terms ≡ terms_from 0 (coef_at n b id) (variables n)
  pub constant : line.constant ≡ constant_at n b id
  pub small : (v : ℕ) → v < variables n → unsigned_abs (coef_at n b id v) < 2 ^ 48
