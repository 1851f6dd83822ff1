-- The one text of what is said of the leaves of a tree, line by line.
use Rattle.std.specs.Prelude.{ℕ, ◌<◌, ◌^◌, List, [], ◌∷◌, ◌++◌, length, map, decimal, codes, All, Option, None, Some, ℤ, FitsSigned}
use Rattle.std.specs.Option.{ForSome}
use Rattle.std.specs.Int.{w128}
use Rattle.std.specs.List.{flat_map}
use Rattle.std.specs.Fmt.{signed_decimal}
use Rattle.exact_num.specs.Fraction.{Fraction, IsInRange, IsLowest}
use Rattle.exact_run.specs.declared.operations.Operation.{Operation}
use Rattle.exact_run.specs.declared.operations.Operation.TheVariants as operations
use Rattle.row_model.specs.Multipliers.{Proof}
use Rattle.box_space.specs.declared.coordinates.Form.{Form}
use Rattle.box_space.specs.declared.coordinates.Form.TheVariants as forms
use Rattle.cert_writing.specs.Cert.{IsPartInRange}
use Rattle.cert_writing.specs.Text.{line, part_fields}

-- ---- what is said

-- the values of a point, in order, over a base
pub record Values : Type 0 where
  pub base : ℕ
  pub values : List ℤ

-- an operation on two fractions
pub record Operated : Type 0 where
  pub operation : Operation
  pub left : Fraction
  pub right : Fraction

-- why nothing is said of a leaf
pub data Reason : Type 0 where
  unended : ℕ → Reason
  wide : Operated → Reason
  coarse : ℕ → Fraction → Reason
  heavy_proof : Proof → Reason
  heavy_point : Values → Reason

-- what is said of a leaf
pub data Mark : Type 0 where
  tight : Values → Mark
  raised : Proof → Values → Mark
  empty : Proof → Mark
  loose : Reason → Mark

-- a leaf, by its node, and its mark
pub record LeafMark : Type 0 where
  pub node : ℕ
  pub mark : Mark

-- what is said of the leaves by a form, asked with so many pivots, and the bound that this comes to, where a leaf may hold a plan
pub record Marks : Type 0 where
  pub form : Form
  pub pivots : ℕ
  pub marks : List LeafMark
  pub bound : Option ℤ

-- ---- what has a text

-- the numbers of a point lie in the ranges of their types, and its values can be counted in 32 bits
pub record AreValues (q : Values) : Type 0 where
  pub base : q.base < 2 ^ 64
  pub few : length q.values < 2 ^ 32
  pub values : All (FitsSigned w128) q.values

-- the numbers of a proof lie in the ranges of their types, and its parts can be counted in 32 bits
pub record IsProof (p : Proof) : Type 0 where
  pub scale : p.scale < 2 ^ 64
  pub few : length p.parts < 2 ^ 32
  pub parts : All IsPartInRange p.parts

-- a fraction of 128 bits, in lowest terms, its denominator above 0
pub record IsFraction (x : Fraction) : Type 0 where
  pub range : IsInRange x
  pub lowest : IsLowest x

abbrev pub IsReason : Reason → Type 0
IsReason (unended n) = n < 2 ^ 32
IsReason (wide w) = IsFraction w.left × IsFraction w.right
IsReason (coarse n x) = (n < 2 ^ 64) × IsFraction x
IsReason (heavy_proof p) = IsProof p
IsReason (heavy_point q) = AreValues q

abbrev pub IsMark : Mark → Type 0
IsMark (tight q) = AreValues q
IsMark (raised p q) = IsProof p × AreValues q
IsMark (empty p) = IsProof p
IsMark (loose r) = IsReason r

pub record IsLeafMark (m : LeafMark) : Type 0 where
  pub node : m.node < 2 ^ 32
  pub mark : IsMark m.mark

-- What has a text: marks that can be counted in 32 bits, and every number in the range of its type.
pub record AreMarks (t : Marks) : Type 0 where
  pub pivots : t.pivots < 2 ^ 32
  pub few : length t.marks < 2 ^ 32
  pub marks : All IsLeafMark t.marks
  pub bound : ForSome t.bound (FitsSigned w128)

-- ---- fields

-- a point: its base, how many values it has, and these
abbrev pub point_fields : Values → List (List ℕ)
point_fields q = decimal q.base ∷ decimal (length q.values) ∷ map signed_decimal q.values

-- a proof: its scale, how many parts it has, and these
abbrev pub proof_fields : Proof → List (List ℕ)
proof_fields p = decimal p.scale ∷ decimal (length p.parts) ∷ flat_map part_fields p.parts

-- a fraction: its numerator and its denominator
abbrev pub fraction_fields : Fraction → List (List ℕ)
fraction_fields x = signed_decimal x.num ∷ decimal x.den ∷ []

-- the number of an operation
abbrev pub operation_word : Operation → List ℕ
operation_word operations.Add = codes "1"
operation_word operations.Sub = codes "2"
operation_word operations.Mul = codes "3"
operation_word operations.Div = codes "4"

-- an operation on two fractions: its number, and these
abbrev pub wide_fields : Operated → List (List ℕ)
wide_fields w = operation_word w.operation ∷ (fraction_fields w.left ++ fraction_fields w.right)

-- a reason: its number, and what it tells
abbrev pub reason_fields : Reason → List (List ℕ)
reason_fields (unended n) = codes "1" ∷ decimal n ∷ []
reason_fields (wide w) = codes "2" ∷ wide_fields w
reason_fields (coarse n x) = codes "3" ∷ decimal n ∷ fraction_fields x
reason_fields (heavy_proof p) = codes "4" ∷ proof_fields p
reason_fields (heavy_point q) = codes "5" ∷ point_fields q

-- ---- lines

-- the word of a mark
abbrev pub mark_word : Mark → List ℕ
mark_word (tight q) = codes "tight"
mark_word (raised p q) = codes "raised"
mark_word (empty p) = codes "empty"
mark_word (loose r) = codes "loose"

-- what a mark carries
abbrev pub mark_fields : Mark → List (List ℕ)
mark_fields (tight q) = point_fields q
mark_fields (raised p q) = proof_fields p ++ point_fields q
mark_fields (empty p) = proof_fields p
mark_fields (loose r) = reason_fields r

-- the line of a mark: its word, its node, and what it carries
abbrev pub mark_line : LeafMark → List ℕ
mark_line m = line (mark_word m.mark) (decimal m.node ∷ mark_fields m.mark)

-- the count of the marks, and their lines
abbrev pub mark_lines : List LeafMark → List ℕ
mark_lines marks = line (codes "leaves") (decimal (length marks) ∷ []) ++ flat_map mark_line marks

-- the word of a form
abbrev pub form_word : Form → List ℕ
form_word forms.P = codes "p"
form_word forms.Q = codes "q"
form_word forms.Pq = codes "pq"

-- the line of the form
abbrev pub form_line : Form → List ℕ
form_line form = line (codes "form") (form_word form ∷ [])

-- the bound, or the word for none
abbrev pub bound_text : Option ℤ → List ℕ
bound_text None = codes "none"
bound_text (Some b) = signed_decimal b

-- the line of the bound
abbrev pub bound_line : Option ℤ → List ℕ
bound_line bound = line (codes "bound") (bound_text bound ∷ [])

-- the first lines: what text this is, the form, and the pivots
abbrev pub head_lines : Form → ℕ → List ℕ
head_lines form pivots = line (codes "pooltight") (codes "1" ∷ []) ++ (form_line form ++ line (codes "pivots") (decimal pivots ∷ []))

-- the text of marks
abbrev pub marks_text : Marks → List ℕ
marks_text t = head_lines t.form t.pivots ++ (mark_lines t.marks ++ (bound_line t.bound ++ line (codes "end") []))
