-- The text of an exact program: what it makes as small as it can be, its variables, and, family by family, the rows of the
-- catalogue that are the same in every box, with the family's products behind them. Envelopes are no rows of it.
use Rattle.std.specs.Prelude.{ℕ, ◌*◌, List, ◌++◌, codes}
use Rattle.pool_model.specs.Network.{Net}
use Rattle.row_model.specs.Boxes.{Box, root}
use Rattle.row_model.specs.Variables.{path_count}
use Rattle.box_space.specs.declared.coordinates.Form.{Form}
use Rattle.box_space.specs.declared.coordinates.Form.TheVariants.{P, Q, Pq}
use Rattle.row_book.specs.declared.catalogue.Group.{Group}
use Rattle.row_book.specs.declared.catalogue.Group.TheVariants as groups
use Rattle.row_book.specs.Exact.{first_of, exact_count}
use Rattle.text_pieces.specs.Pieces.{each_below}
use Rattle.program_text.specs.Lines.{cost_line, ends_lines, row_lines, mixed_line, path_line}

-- ---- families

-- the rows of a group that are the same in every box
abbrev pub group_lines : Net → Box → Group → List ℕ
group_lines n b group = row_lines n b (first_of n group) (exact_count n group)

abbrev pub network_lines : Net → Box → List ℕ
network_lines n b = group_lines n b groups.Network

abbrev pub p_lines : Net → Box → List ℕ
p_lines n b = group_lines n b groups.P ++ each_below (mixed_line n) (n.outs * n.qualities)

abbrev pub q_lines : Net → Box → List ℕ
q_lines n b = group_lines n b groups.Q ++ each_below (path_line n) (path_count n)

abbrev pub pq_lines : Net → Box → List ℕ
pq_lines n b = group_lines n b groups.Further

-- the families that a form has beside the rows of the network
abbrev pub family_lines : Net → Box → Form → List ℕ
family_lines n b P = p_lines n b
family_lines n b Q = q_lines n b
family_lines n b Pq = q_lines n b ++ pq_lines n b

-- ---- programs

abbrev pub head_line : Form → List ℕ
head_line P = codes "program p\n"
head_line Q = codes "program q\n"
head_line Pq = codes "program pq\n"

-- the name of the program, what it makes as small as it can be, and the ends of its variables
abbrev pub first_lines : Net → Box → Form → List ℕ
first_lines n b form = head_line form ++ (cost_line n ++ ends_lines n b form)

-- the program in a box, on which the ends of the variables rest
abbrev pub program_in : Net → Box → Form → List ℕ
program_in n b form = first_lines n b form ++ (network_lines n b ++ (family_lines n b form ++ codes "end\n"))

-- the program of a form, in the box of all plans that obey
abbrev pub program_text : Net → Form → List ℕ
program_text n form = program_in n (root n) form
