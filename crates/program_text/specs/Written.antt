-- Rows as code holds them, written as lines.
use Rattle.std.specs.Prelude.{ℕ, ◌<◌, List, ◌++◌, codes, All}
use Rattle.std.specs.List.{flat_map}
use Rattle.pool_model.specs.Network.{Net}
use Rattle.row_model.specs.Variables.{variables}
use Rattle.row_model.specs.Catalogue.{Kind}
use Rattle.box_space.specs.Lines.{Line}
use Rattle.linear_program.specs.declared.terms.Term.{Term}
use Rattle.program_text.specs.Lines.{row_head, written_term}

-- terms of variables of the network
abbrev pub AreVariables : Net → List Term → Type 0
AreVariables n terms = All (λ t. t.var < variables n) terms

-- a row that is held, as a line
abbrev pub line_text : Net → ℕ → Kind → Line → List ℕ
line_text n id kind line = row_head id kind line.constant ++ (flat_map (λ t. written_term n t.var t.coef) line.terms ++ codes "\n")
