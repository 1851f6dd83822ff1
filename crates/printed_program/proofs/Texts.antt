-- The text of a program is that of its lines.
use Rattle.std.proofs.Common.{◌≡◌, ℕ, ◌+◌, ◌*◌, Bool, true, false, ◌==◌, if◌then◌else◌, List, [], ◌∷◌, ◌++◌, ℤ, unsigned_abs, append_assoc, refl, sym, ap, ◌∙◌}
use Rattle.std.specs.Prelude.{codes}
use Rattle.std.specs.List.{flat_map}
use Rattle.std.proofs.lemmas.List.{append-nil}
use Rattle.std.proofs.lemmas.List.Concat.{flat_map-append}
use Rattle.integers.specs.Numbers.{tabulate}
use Rattle.pool_model.specs.Network.{Net}
use Rattle.row_model.specs.Boxes.{root}
use Rattle.row_model.specs.Variables.{variables, by_number, costs, lows, highs, path_count}
use Rattle.row_book.specs.declared.catalogue.Group.{Group}
use Rattle.row_book.specs.declared.catalogue.Group.TheVariants as groups
use Rattle.row_book.specs.Exact.{first_of, exact_count}
use Rattle.row_book.specs.PartRows.{kind_at, coef_at, constant_at}
use Rattle.box_space.specs.declared.coordinates.Form.{Form}
use Rattle.box_space.specs.declared.coordinates.Form.TheVariants.{P, Q, Pq}
use Rattle.text_pieces.specs.Pieces.{each_below}
use Rattle.text_pieces.proofs.Each.{each_below-same}
use Rattle.program_text.specs.Names.{name_of, has_symbol}
use Rattle.program_text.specs.Lines.{written_term, term_text, terms_text, cost_line, ends_line, ends_text, ends_lines, row_head, row_line, mixed_line, path_line}
use Rattle.program_text.specs.Programs.{group_lines, q_lines, family_lines, head_line, program_text}
use Rattle.printed_program.specs.ProgramLines.{ProgramLine, least, ends, finish, named_term_text, line_text, lines_text}
use Rattle.printed_program.specs.Printed.{named_term, named_terms, variable_line, variable_lines, catalogue_row, group_rows, mixed_product, path_product, form_rows, program_lines}
use Rattle.printed_program.proofs.Lists.{flat_map-lists_below, flat_map-tabulate}

-- ---- terms

one-term : (n : Net) (v : ℕ) (c : ℤ) → flat_map named_term_text (named_term n v c) ≡ term_text n v c
one-term n v c = cases (unsigned_abs c == 0)
  where
    cases : (test : Bool) → flat_map named_term_text (if test then [] else record { name = name_of n v; coef = c } ∷ []) ≡ (if test then [] else written_term n v c)
    cases true = refl
    cases false = append-nil (written_term n v c)

terms-same : (n : Net) (c : ℕ → ℤ) → flat_map named_term_text (named_terms n c) ≡ terms_text n c
terms-same n c =
    flat_map-lists_below named_term_text (λ v. named_term n v (c v)) (variables n)
    ∙ each_below-same (λ v. flat_map named_term_text (named_term n v (c v))) (λ v. term_text n v (c v)) (variables n) (λ v lt. one-term n v (c v))

-- ---- lines

cost-same : (n : Net) → line_text (least (named_terms n (by_number n (costs n)))) ≡ cost_line n
cost-same n = ap (λ (w : List ℕ). codes "min" ++ (w ++ codes "\n")) (terms-same n (by_number n (costs n)))

variables-same : (n : Net) (form : Form) → lines_text (variable_lines n form) ≡ ends_lines n (root n) form
variables-same n form =
    flat_map-lists_below line_text (variable_line n form) (variables n)
    ∙ each_below-same (λ v. flat_map line_text (variable_line n form v)) (ends_text n (root n) form) (variables n) (λ v lt. one v (has_symbol form (name_of n v).symbol))
  where
    one : (v : ℕ) (test : Bool)
        → flat_map line_text (if test then ends (name_of n v) (by_number n (lows n (root n)) v) (by_number n (highs n (root n)) v) ∷ [] else [])
        ≡ (if test then ends_line n v (by_number n (lows n (root n)) v) (by_number n (highs n (root n)) v) else [])
    one v true = append-nil (ends_line n v (by_number n (lows n (root n)) v) (by_number n (highs n (root n)) v))
    one v false = refl

row-same : (n : Net) (id : ℕ) → line_text (catalogue_row n id) ≡ row_line n (root n) id
row-same n id = ap (λ (w : List ℕ). row_head id (kind_at n (root n) id) (constant_at n (root n) id) ++ (w ++ codes "\n")) (terms-same n (coef_at n (root n) id))

group-same : (n : Net) (group : Group) → lines_text (group_rows n group) ≡ group_lines n (root n) group
group-same n group =
    flat_map-tabulate line_text (λ i. catalogue_row n (first_of n group + i)) (exact_count n group)
    ∙ each_below-same (λ i. line_text (catalogue_row n (first_of n group + i))) (λ i. row_line n (root n) (first_of n group + i)) (exact_count n group)
    (λ i lt. row-same n (first_of n group + i))

mixed-same : (n : Net) → lines_text (tabulate (mixed_product n) (n.outs * n.qualities)) ≡ each_below (mixed_line n) (n.outs * n.qualities)
mixed-same n =
    flat_map-tabulate line_text (mixed_product n) (n.outs * n.qualities)
    ∙ each_below-same (λ i. line_text (mixed_product n i)) (mixed_line n) (n.outs * n.qualities) (λ i lt. refl)

paths-same : (n : Net) → lines_text (tabulate (path_product n) (path_count n)) ≡ each_below (path_line n) (path_count n)
paths-same n = flat_map-tabulate line_text (path_product n) (path_count n) ∙ each_below-same (λ a. line_text (path_product n a)) (path_line n) (path_count n) (λ a lt. refl)

-- ---- lists of lines, one behind the other

two-same : (xs ys : List ProgramLine) (a b : List ℕ) → lines_text xs ≡ a → lines_text ys ≡ b → lines_text (xs ++ ys) ≡ a ++ b
two-same xs ys a b e f = flat_map-append line_text xs ys ∙ ap (λ (w : List ℕ). w ++ lines_text ys) e ∙ ap (λ (w : List ℕ). a ++ w) f

q-same : (n : Net) → lines_text (group_rows n groups.Q ++ tabulate (path_product n) (path_count n)) ≡ q_lines n (root n)
q-same n =
    two-same (group_rows n groups.Q) (tabulate (path_product n) (path_count n)) (group_lines n (root n) groups.Q) (each_below (path_line n) (path_count n)) (group-same n groups.Q) (paths-same n)

form-same : (n : Net) (form : Form) → lines_text (form_rows n form) ≡ family_lines n (root n) form
form-same n P =
    two-same (group_rows n groups.P) (tabulate (mixed_product n) (n.outs * n.qualities)) (group_lines n (root n) groups.P) (each_below (mixed_line n) (n.outs * n.qualities))
    (group-same n groups.P) (mixed-same n)
form-same n Q = q-same n
form-same n Pq =
    two-same (group_rows n groups.Q ++ tabulate (path_product n) (path_count n)) (group_rows n groups.Further) (q_lines n (root n)) (group_lines n (root n) groups.Further)
    (q-same n) (group-same n groups.Further)

pub text-same : (n : Net) (form : Form) → lines_text (program_lines n form) ≡ program_text n form
text-same n form =
    let network = group_lines n (root n) groups.Network in
    let own = family_lines n (root n) form in
    let variables = ends_lines n (root n) form in
    let rest = network ++ (own ++ codes "end\n") in
    let own_lines = form_rows n form ++ finish ∷ [] in
    let body = variable_lines n form ++ (group_rows n groups.Network ++ own_lines) in
    ap (λ (w : List ℕ). head_line form ++ (w ++ lines_text body)) (cost-same n)
    ∙ ap (λ (w : List ℕ). head_line form ++ (cost_line n ++ w))
    (two-same (variable_lines n form) (group_rows n groups.Network ++ own_lines) variables rest (variables-same n form)
    (two-same (group_rows n groups.Network) own_lines network (own ++ codes "end\n") (group-same n groups.Network)
    (two-same (form_rows n form) (finish ∷ []) own (codes "end\n") (form-same n form) refl)))
    ∙ ap (λ (w : List ℕ). head_line form ++ w) (sym (append_assoc (cost_line n) variables rest))
    ∙ sym (append_assoc (head_line form) (cost_line n ++ variables) rest)
