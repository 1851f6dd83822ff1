-- The lines of a program as data, and the text of each.
use Rattle.std.specs.Prelude.{ℕ, ◌^◌, ◌<◌, List, [], ◌∷◌, ◌++◌, All, codes, ℤ, pos, unsigned_abs}
use Rattle.std.specs.List.{flat_map}
use Rattle.std.specs.Fmt.{signed_decimal}
use Rattle.row_model.specs.Catalogue.{Kind}
use Rattle.box_space.specs.declared.coordinates.Form.{Form}
use Rattle.text_pieces.specs.Pieces.{joined}
use Rattle.program_text.specs.Names.{letter_of}
use Rattle.program_text.specs.Lines.{row_head}
use Rattle.program_text.specs.Programs.{head_line}
use Rattle.program_text.specs.declared.names.Name.{Name}

-- a coefficient and the variable that it stands before
pub record NamedTerm : Type 0 where
  pub name : Name
  pub coef : ℤ

-- A line: the form; what is made as small as it can be; a variable's ends; a row with its number, whether it is at least 0 or equal
-- to 0, its constant and its terms; a variable that, times a scale, is the product of two others; the end.
pub data ProgramLine : Type 0 where
  of_form : (form : Form) → ProgramLine
  least : (terms : List NamedTerm) → ProgramLine
  ends : (name : Name) (low high : ℤ) → ProgramLine
  row : (id : ℕ) (kind : Kind) (constant : ℤ) (terms : List NamedTerm) → ProgramLine
  product : (name factor flow : Name) (scale : ℕ) → ProgramLine
  finish : ProgramLine

-- a letter and a number
abbrev pub name_text : Name → List ℕ
name_text name = letter_of name.symbol ∷ signed_decimal (pos name.number)

abbrev pub named_term_text : NamedTerm → List ℕ
named_term_text t = joined (codes " " ∷ name_text t.name ∷ codes " " ∷ signed_decimal t.coef ∷ [])

-- each line ends with one line feed
abbrev pub line_text : ProgramLine → List ℕ
line_text (of_form form) = head_line form
line_text (least terms) = codes "min" ++ (flat_map named_term_text terms ++ codes "\n")
line_text (ends name low high) =
    joined (codes "ends " ∷ name_text name ∷ codes " " ∷ signed_decimal low ∷ codes " " ∷ signed_decimal high ∷ codes "\n" ∷ [])
line_text (row id kind constant terms) = row_head id kind constant ++ (flat_map named_term_text terms ++ codes "\n")
line_text (product name factor flow scale) =
    joined (codes "prod " ∷ name_text name ∷ codes " " ∷ name_text factor ∷ codes " " ∷ name_text flow ∷ codes " "
    ∷ signed_decimal (pos scale) ∷ codes "\n" ∷ [])
line_text finish = codes "end\n"

-- the text of lines
abbrev pub lines_text : List ProgramLine → List ℕ
lines_text lines = flat_map line_text lines

-- ---- lines whose numbers are below 10^64 in size: decimal digits are defined for these

abbrev pub IsShortName : Name → Type 0
IsShortName name = name.number < 10 ^ 64

abbrev pub IsShortNumber : ℤ → Type 0
IsShortNumber z = unsigned_abs z < 10 ^ 64

abbrev pub IsShortTerm : NamedTerm → Type 0
IsShortTerm t = IsShortName t.name × IsShortNumber t.coef

abbrev pub IsShort : ProgramLine → Type 0
IsShort (of_form form) = Unit {0}
IsShort (least terms) = All IsShortTerm terms
IsShort (ends name low high) = IsShortName name × IsShortNumber low × IsShortNumber high
IsShort (row id kind constant terms) = (id < 10 ^ 64) × IsShortNumber constant × All IsShortTerm terms
IsShort (product name factor flow scale) = IsShortName name × IsShortName factor × IsShortName flow × (scale < 10 ^ 64)
IsShort finish = Unit {0}
