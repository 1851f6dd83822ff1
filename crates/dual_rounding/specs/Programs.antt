-- The linear program of a form over a box.
use Rattle.std.specs.Prelude.{◌≡◌, ℕ, ◌<◌, List, All, filter, map, vec_len, Bool, if◌then◌else◌}
use Rattle.integers.specs.Numbers.{tabulate}
use Rattle.pool_model.specs.Network.{Net}
use Rattle.row_model.specs.Boxes.{Box}
use Rattle.row_model.specs.Variables.{variables, by_number, lows, highs, costs as cost_of}
use Rattle.row_model.specs.Catalogue.{rows, at_least, equal}
use Rattle.row_book.specs.Groups.{takes, group_of}
use Rattle.row_book.specs.PartRows.{IsRow, kind_at}
use Rattle.box_space.specs.declared.coordinates.Form.{Form}
use Rattle.linear_program.specs.declared.lp.Lp.{Lp}
use Rattle.linear_program.specs.declared.lp.LpRow.{LpRow}

-- whether a form has the row of a number
unfoldable pub has_row : Net → Form → ℕ → Bool
has_row n form id = takes form (group_of n id)

-- the numbers of a form's rows, rising
abbrev pub form_rows : Net → Form → List ℕ
form_rows n form = filter (has_row n form) (tabulate (λ id. id) (rows n))

-- the numbers of a program's rows, in order
abbrev pub numbers : Lp → List ℕ
numbers lp = map (λ r. r.id) lp.rows.items

-- a row of a program is the row of its number in a box: the same terms, by rising variable, the same constant and kind
pub record IsRowIn (n : Net) (b : Box) (r : LpRow) : Type 0 where
  pub known : r.id < rows n
  pub written : IsRow n b r.id record { terms = r.terms.items; constant = r.constant }
  pub kind : (if r.equal then equal else at_least) ≡ kind_at n b r.id

-- each row of a program is the row of its number in a box, and each variable has its ends there and its cost
pub record IsOver (n : Net) (b : Box) (lp : Lp) : Type 0 where
  pub rows : All (IsRowIn n b) lp.rows.items
  pub low : lp.low.items ≡ tabulate (by_number n (lows n b)) (variables n)
  pub high : lp.high.items ≡ tabulate (by_number n (highs n b)) (variables n)
  pub costs : lp.cost.items ≡ tabulate (by_number n (cost_of n)) (variables n)

-- The program of a form over a box: the form's rows by rising number, each as it is in the box, and the ends and the costs
-- of all variables.
pub record IsProgramOf (n : Net) (form : Form) (b : Box) (lp : Lp) : Type 0 where
  pub numbers : numbers lp ≡ form_rows n form
  pub over : IsOver n b lp

-- a program that can be written over: its rows have numbers of the network's rows, there are ends for each variable, and the
-- costs are those of the network
pub record IsOfNetwork (n : Net) (lp : Lp) : Type 0 where
  pub rows : All (λ r. r.id < rows n) lp.rows.items
  pub low : vec_len lp.low ≡ variables n
  pub high : vec_len lp.high ≡ variables n
  pub costs : lp.cost.items ≡ tabulate (by_number n (cost_of n)) (variables n)
