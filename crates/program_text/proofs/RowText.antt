-- A row that is held is written as the row of the catalogue.
use Rattle.std.proofs.Common.{◌≡◌, ℕ, ◌++◌, List, ℤ, ap, ◌∙◌}
use Rattle.std.specs.Prelude.{codes}
use Rattle.std.specs.List.{flat_map}
use Rattle.pool_model.specs.Network.{Net}
use Rattle.row_model.specs.Boxes.{Box}
use Rattle.row_model.specs.Variables.{variables}
use Rattle.row_model.specs.Catalogue.{Kind}
use Rattle.row_book.specs.PartRows.{kind_at, coef_at, constant_at, IsRow}
use Rattle.box_space.specs.Lines.{Line}
use Rattle.linear_program.specs.declared.terms.Term.{Term}
use Rattle.program_text.specs.Lines.{row_head, row_line, written_term}
use Rattle.program_text.specs.Written.{line_text}
use Rattle.program_text.proofs.TermTexts.{terms_from-text}

pub row-whole : (n : Net) (b : Box) (id : ℕ) (kind : Kind) (line : Line) → kind ≡ kind_at n b id → IsRow n b id line → line_text n id kind line ≡ row_line n b id
row-whole n b id kind line said row =
    let text = λ (ts : List Term). flat_map (λ (t : Term). written_term n t.var t.coef) ts in
    ap (λ (k : Kind). row_head id k line.constant ++ (text line.terms ++ codes "\n")) said
    ∙ ap (λ (z : ℤ). row_head id (kind_at n b id) z ++ (text line.terms ++ codes "\n")) row.constant
    ∙ ap (λ (w : List ℕ). row_head id (kind_at n b id) (constant_at n b id) ++ (w ++ codes "\n")) (ap text row.terms ∙ terms_from-text n (coef_at n b id) (variables n))
