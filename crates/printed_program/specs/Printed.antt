-- The lines of the exact program of a form: what its text says.
use Rattle.std.specs.Prelude.{ℕ, zero, suc, ◌+◌, ◌*◌, ◌/◌, ◌%◌, List, [], ◌∷◌, ◌++◌, ℤ, unsigned_abs, ◌==◌, if◌then◌else◌}
use Rattle.integers.specs.Numbers.{tabulate}
use Rattle.pool_model.specs.Network.{Net}
use Rattle.row_model.specs.Boxes.{root, grain}
use Rattle.row_model.specs.Variables.{variables, by_number, costs, lows, highs, path_count, path_feed, path_out}
use Rattle.row_book.specs.PartRows.{kind_at, coef_at, constant_at}
use Rattle.row_book.specs.Exact.{first_of, exact_count}
use Rattle.row_book.specs.declared.catalogue.Group.{Group}
use Rattle.row_book.specs.declared.catalogue.Group.TheVariants as groups
use Rattle.box_space.specs.declared.coordinates.Form.{Form}
use Rattle.box_space.specs.declared.coordinates.Form.TheVariants.{P, Q, Pq}
use Rattle.program_text.specs.Names.{named, name_of, has_symbol}
use Rattle.program_text.specs.declared.names.Symbol.TheVariants as symbols
use Rattle.printed_program.specs.ProgramLines.{NamedTerm, ProgramLine, of_form, least, ends, row, product, finish}

-- the lists of the first so many numbers, one behind the other
abbrev pub lists_below : {X : Type 0} → (ℕ → List X) → ℕ → List X
lists_below f zero = []
lists_below f (suc n) = lists_below f n ++ f n

-- ---- terms

-- a variable with its coefficient, where that is not 0
abbrev pub named_term : Net → ℕ → ℤ → List NamedTerm
named_term n v c = if unsigned_abs c == 0 then [] else record { name = name_of n v; coef = c } ∷ []

-- the terms of coefficients, by variable number
abbrev pub named_terms : Net → (ℕ → ℤ) → List NamedTerm
named_terms n c = lists_below (λ v. named_term n v (c v)) (variables n)

-- ---- variables, rows and products

-- a variable with its ends in the box of all plans that obey, where the form has it
abbrev pub variable_line : Net → Form → ℕ → List ProgramLine
variable_line n form v =
    let low = by_number n (lows n (root n)) v in
    let high = by_number n (highs n (root n)) v in
    if has_symbol form (name_of n v).symbol then ends (name_of n v) low high ∷ [] else []

abbrev pub variable_lines : Net → Form → List ProgramLine
variable_lines n form = lists_below (variable_line n form) (variables n)

-- a row of the catalogue, and the rows of a group that are the same in every box
abbrev pub catalogue_row : Net → ℕ → ProgramLine
catalogue_row n id = row id (kind_at n (root n) id) (constant_at n (root n) id) (named_terms n (coef_at n (root n) id))

abbrev pub group_rows : Net → Group → List ProgramLine
group_rows n group = tabulate (λ i. catalogue_row n (first_of n group + i)) (exact_count n group)

-- a mixed variable is its pool's quality times its out's flow
abbrev pub mixed_product : Net → ℕ → ProgramLine
mixed_product n i =
    let o = i / n.qualities in
    product (named symbols.Mixed i) (named symbols.Quality (n.out_pool o * n.qualities + i % n.qualities)) (named symbols.Out o) 1

-- the flow along a path is its feed's proportion times its out's flow
abbrev pub path_product : Net → ℕ → ProgramLine
path_product n a = product (named symbols.Path a) (named symbols.Proportion (path_feed n a)) (named symbols.Out (path_out n a)) grain

-- ---- programs

-- what a form has beside the rows of the network
abbrev pub form_rows : Net → Form → List ProgramLine
form_rows n P = group_rows n groups.P ++ tabulate (mixed_product n) (n.outs * n.qualities)
form_rows n Q = group_rows n groups.Q ++ tabulate (path_product n) (path_count n)
form_rows n Pq = (group_rows n groups.Q ++ tabulate (path_product n) (path_count n)) ++ group_rows n groups.Further

-- the exact program of a form
abbrev pub program_lines : Net → Form → List ProgramLine
program_lines n form =
    of_form form
    ∷ least (named_terms n (by_number n (costs n)))
    ∷ (variable_lines n form ++ (group_rows n groups.Network ++ (form_rows n form ++ finish ∷ [])))
