-- A leaf as a cut rule sees it in a search.
use Rattle.std.specs.Prelude.{◌≡◌, ℕ, List, All, filter, map, ◌-ℤ◌}
use Rattle.integers.specs.Numbers.{tabulate}
use Rattle.pool_model.specs.Network.{Net}
use Rattle.row_model.specs.Boxes.{Box, coords, coord_at, root}
use Rattle.row_model.specs.Trees.{Split}
use Rattle.box_space.specs.Forms.{cuts}
use Rattle.box_space.specs.declared.coordinates.Form.{Form}
use Rattle.box_tree.specs.Counts.{cuts_on}
use Rattle.branching.specs.Rows.{View}
use Rattle.branching.specs.declared.view.CoordRow.{CoordRow}

-- the numbers of the coordinates that a form cuts, rising
abbrev pub form_coords : Net → Form → List ℕ
form_coords n form = filter (λ c. cuts form (coord_at n c)) (tabulate (λ c. c) (coords n))

-- A row has how many of a tree's splits are on its coordinate, its ends in a box, and its width in the root box; of what is missed
-- nothing is said.
pub record IsRowOf (n : Net) (splits : List Split) (b : Box) (r : CoordRow) : Type 0 where
  pub cuts : r.cuts ≡ cuts_on splits r.coord
  pub low : r.low ≡ b.low r.coord
  pub high : r.high ≡ b.high r.coord
  pub root_width : r.root_width ≡ (root n).high r.coord -ℤ (root n).low r.coord

-- a row for each coordinate of the form, in order, over a box in the tree of these splits
pub record AreRowsOf (n : Net) (form : Form) (splits : List Split) (b : Box) (rows : List CoordRow) : Type 0 where
  pub coords : map (λ r. r.coord) rows ≡ form_coords n form
  pub ends : All (IsRowOf n splits b) rows

-- the view of a node: its rows are those of the node's box
pub record IsViewOf (n : Net) (form : Form) (splits : List Split) (b : Box) (number : ℕ) (v : View) : Type 0 where
  pub node : v.node ≡ number
  pub rows : AreRowsOf n form splits b v.rows
