-- That a line is a row of a network.
use Rattle.std.specs.Prelude.{◌≡◌}
use Rattle.pool_model.specs.Network.{Net}
use Rattle.row_model.specs.Variables.{variables, by_number}
use Rattle.row_model.specs.Catalogue.{Row}
use Rattle.box_space.specs.Lines.{Line, terms_from}
use Rattle.box_space.specs.Views.{shown_kind}
use Rattle.box_space.specs.declared.rows.RowKind.{RowKind}

-- The terms are the variables whose coefficient in the row is not 0, by rising number, each with its coefficient; the
-- constant and the kind are the row's.
pub record IsLineOf (n : Net) (row : Row) (line : Line) (said : RowKind) : Type 0 where
  pub terms : line.terms ≡ terms_from 0 (by_number n row.coefs) (variables n)
  pub constant : line.constant ≡ row.constant
  pub kind : shown_kind said ≡ row.kind
