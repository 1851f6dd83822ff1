-- The lines of an exact program, each with one line feed.
use Rattle.std.specs.Prelude.{ℕ, ◌+◌, ◌*◌, ◌/◌, ◌%◌, List, [], ◌∷◌, ◌++◌, codes, ◌==◌, if◌then◌else◌, ℤ, pos, unsigned_abs}
use Rattle.std.specs.Fmt.{signed_decimal}
use Rattle.pool_model.specs.Network.{Net}
use Rattle.row_model.specs.Boxes.{Box, grain}
use Rattle.row_model.specs.Variables.{variables, by_number, costs, lows, highs, path_feed, path_out}
use Rattle.row_model.specs.Catalogue.{Kind, at_least, equal}
use Rattle.row_book.specs.PartRows.{kind_at, coef_at, constant_at}
use Rattle.box_space.specs.declared.coordinates.Form.{Form}
use Rattle.text_pieces.specs.Pieces.{joined, each_below}
use Rattle.program_text.specs.Names.{letter_of, name_of, has_symbol}
use Rattle.program_text.specs.declared.names.Symbol.{Symbol}
use Rattle.program_text.specs.declared.names.Symbol.TheVariants as symbols

-- ---- terms

-- a variable and its coefficient, with a space before each; nothing where the coefficient is 0
abbrev pub written_term : Net → ℕ → ℤ → List ℕ
written_term n v c = joined (codes " " ∷ (letter_of (name_of n v).symbol ∷ []) ∷ signed_decimal (pos (name_of n v).number) ∷ codes " " ∷ signed_decimal c ∷ [])

abbrev pub term_text : Net → ℕ → ℤ → List ℕ
term_text n v c = if unsigned_abs c == 0 then [] else written_term n v c

-- the terms of coefficients, by variable number
abbrev pub terms_text : Net → (ℕ → ℤ) → List ℕ
terms_text n c = each_below (λ v. term_text n v (c v)) (variables n)

-- ---- lines

-- what is made as small as it can be
abbrev pub cost_line : Net → List ℕ
cost_line n = codes "min" ++ (terms_text n (by_number n (costs n)) ++ codes "\n")

-- a variable's ends
abbrev pub ends_line : Net → ℕ → ℤ → ℤ → List ℕ
ends_line n v low high = joined (codes "ends " ∷ (letter_of (name_of n v).symbol ∷ []) ∷ signed_decimal
    (pos (name_of n v).number) ∷ codes " " ∷ signed_decimal low ∷ codes " " ∷ signed_decimal high ∷ codes "\n" ∷ [])

-- the line of a variable in a box, where the form has it
abbrev pub ends_text : Net → Box → Form → ℕ → List ℕ
ends_text n b form v = if has_symbol form (name_of n v).symbol then ends_line n v (by_number n (lows n b) v) (by_number n (highs n b) v) else []

-- the lines of the variables that a form has
abbrev pub ends_lines : Net → Box → Form → List ℕ
ends_lines n b form = each_below (ends_text n b form) (variables n)

abbrev pub kind_text : Kind → List ℕ
kind_text at_least = codes " ge "
kind_text equal = codes " eq "

-- what stands before a row's terms
abbrev pub row_head : ℕ → Kind → ℤ → List ℕ
row_head id kind constant = joined (codes "row " ∷ signed_decimal (pos id) ∷ kind_text kind ∷ signed_decimal constant ∷ [])

-- a row of the catalogue: its number, whether it is at least 0 or equal to 0, its constant and its terms
abbrev pub row_line : Net → Box → ℕ → List ℕ
row_line n b id = row_head id (kind_at n b id) (constant_at n b id) ++ (terms_text n (coef_at n b id) ++ codes "\n")

-- so many rows from a first one on
abbrev pub row_lines : Net → Box → ℕ → ℕ → List ℕ
row_lines n b first count = each_below (λ i. row_line n b (first + i)) count

-- a product: its variable, its two factors, and the scale of the variable
abbrev pub product_line : Symbol → ℕ → Symbol → ℕ → ℕ → ℕ → List ℕ
product_line symbol number factor of out scale =
    joined (codes "prod " ∷ (letter_of symbol ∷ []) ∷ signed_decimal (pos number) ∷ codes " " ∷ (letter_of factor ∷ []) ∷ signed_decimal (pos of)
    ∷ codes " y" ∷ signed_decimal (pos out) ∷ codes " " ∷ signed_decimal (pos scale) ∷ codes "\n" ∷ [])

-- a mixed variable is its pool's quality times its out's flow
abbrev pub mixed_line : Net → ℕ → List ℕ
mixed_line n i = product_line symbols.Mixed i symbols.Quality (n.out_pool (i / n.qualities) * n.qualities + i % n.qualities) (i / n.qualities) 1

-- the flow along a path is its feed's proportion times its out's flow
abbrev pub path_line : Net → ℕ → List ℕ
path_line n a = product_line symbols.Path a symbols.Proportion (path_feed n a) (path_out n a) grain
