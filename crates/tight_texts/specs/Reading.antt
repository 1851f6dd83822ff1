-- Reading marks from left to right, line by line.
use Rattle.std.specs.Prelude.{ℕ, zero, suc, ◌+◌, ◌-◌, ◌%◌, ◌^◌, Bool, true, not, ◌&&◌, List, [], ◌∷◌, ◌++◌, Option, Some, None, Result, Ok, ◌==◌, nat_lt, if◌then◌else◌, codes, ℤ, unsigned_abs}
use Rattle.exact_num.specs.Fraction.{Fraction}
use Rattle.exact_run.specs.declared.operations.Operation.{Operation}
use Rattle.exact_run.specs.declared.operations.Operation.TheVariants as operations
use Rattle.row_model.specs.Multipliers.{Proof}
use Rattle.box_space.specs.declared.coordinates.Form.{Form}
use Rattle.box_space.specs.declared.coordinates.Form.TheVariants as forms
use Rattle.cert_text.specs.declared.pieces.Ends.{Ends}
use Rattle.cert_text.specs.declared.pieces.Ends.TheVariants.{Space, Line, LineIfZero}
use Rattle.cert_text.specs.Reading.{At, ◌>>=◌, piece_at, after_word, number_from, number_spelling, int_from, int_spelling, kept, word_at, each_at, end_of, ends_before, u32_at, u64_at, i128_at}
use Rattle.cert_format.specs.Reading.{part_at}
use Rattle.tight_texts.specs.Texts.{Values, Operated, Reason, unended, wide, coarse, heavy_proof, heavy_point, Mark, tight, raised, empty, loose, LeafMark, Marks, operation_word, form_word, bound_text}
use Rattle.tight_texts.specs.declared.kinds.MarkKind.{MarkKind}
use Rattle.tight_texts.specs.declared.kinds.MarkKind.TheVariants as kinds
use Rattle.tight_texts.specs.declared.kinds.ReasonKind.{ReasonKind}
use Rattle.tight_texts.specs.declared.kinds.ReasonKind.TheVariants as causes

-- ---- one of some words

-- a value, where its word was found
abbrev pub as_word : {X : Type 0} → X → Option (List ℕ) → Option (X × List ℕ)
as_word x None = None
as_word x (Some r) = Some (x, r)

-- the first of two that was found
abbrev pub or_else : {X : Type 0} → Option (X × List ℕ) → Option (X × List ℕ) → Option (X × List ℕ)
or_else None o = o
or_else (Some p) o = Some p

-- the first of some values whose word stands at the front of the bytes
abbrev pub choice_from : {X : Type 0} → (X → List ℕ) → List X → List ℕ → Option (X × List ℕ)
choice_from spell [] b = None
choice_from spell (x ∷ xs) b = or_else (as_word x (after_word (spell x) b)) (choice_from spell xs b)

abbrev pub choice_at : {X : Type 0} → (X → List ℕ) → List X → At → Result (X × At) ℕ
choice_at spell xs = piece_at spell (choice_from spell xs)

-- the word of a form, and the end of its line
abbrev pub form_spelling : Form → List ℕ
form_spelling form = form_word form ++ 10 ∷ []

abbrev pub form_word_at : At → Result (Form × At) ℕ
form_word_at = choice_at form_spelling (forms.P ∷ forms.Q ∷ forms.Pq ∷ [])

-- the line of the form
unfoldable pub form_at : At → Result (Form × At) ℕ
form_at a = do
  w ← word_at (codes "form ") a
  form_word_at w.1

-- the word of a kind of mark, and the space behind it
abbrev pub kind_spelling : MarkKind → List ℕ
kind_spelling kinds.Tight = codes "tight "
kind_spelling kinds.Raised = codes "raised "
kind_spelling kinds.Empty = codes "empty "
kind_spelling kinds.Loose = codes "loose "

abbrev pub kind_at : At → Result (MarkKind × At) ℕ
kind_at = choice_at kind_spelling (kinds.Tight ∷ kinds.Raised ∷ kinds.Empty ∷ kinds.Loose ∷ [])

-- the number of a kind of reason, and the space behind it
abbrev pub cause_spelling : ReasonKind → List ℕ
cause_spelling causes.Pivots = codes "1 "
cause_spelling causes.Wide = codes "2 "
cause_spelling causes.Coarse = codes "3 "
cause_spelling causes.HeavyProof = codes "4 "
cause_spelling causes.HeavyPoint = codes "5 "

abbrev pub cause_at : At → Result (ReasonKind × At) ℕ
cause_at = choice_at cause_spelling (causes.Pivots ∷ causes.Wide ∷ causes.Coarse ∷ causes.HeavyProof ∷ causes.HeavyPoint ∷ [])

-- the number of an operation, and the space behind it
abbrev pub operation_spelling : Operation → List ℕ
operation_spelling op = operation_word op ++ 32 ∷ []

abbrev pub operation_at : At → Result (Operation × At) ℕ
operation_at = choice_at operation_spelling (operations.Add ∷ operations.Sub ∷ operations.Mul ∷ operations.Div ∷ [])

-- ---- a bound

-- a number, where one was found
abbrev pub as_some : Option (ℤ × List ℕ) → Option (Option ℤ × List ℕ)
as_some None = None
as_some (Some p) = Some (Some p.0, p.1)

abbrev pub bound_spelling : Option ℤ → List ℕ
bound_spelling bound = bound_text bound ++ 10 ∷ []

-- the word for no bound, or a bound
abbrev pub bound_from : List ℕ → Option (Option ℤ × List ℕ)
bound_from b = or_else (as_word None (after_word (codes "none\n") b)) (as_some (int_from (2 ^ 127 - 1) (end_of Line) b))

abbrev pub bound_word_at : At → Result (Option ℤ × At) ℕ
bound_word_at = piece_at bound_spelling bound_from

-- the line of the bound
unfoldable pub bound_at : At → Result (Option ℤ × At) ℕ
bound_at a = do
  w ← word_at (codes "bound ") a
  bound_word_at w.1

-- ---- fractions

-- the number is at most 2^127 - 1 and at least its negative
abbrev pub is_short : ℤ → Bool
is_short z = nat_lt (unsigned_abs z) (2 ^ 127)

-- a numerator
abbrev pub num_at : At → Result (ℤ × At) ℕ
num_at = piece_at (int_spelling (end_of Space)) (λ b. kept is_short (int_from (2 ^ 127 - 1) (end_of Space) b))

-- no number from 2 up to so many and 1 divides both
abbrev pub none_divides : ℕ → ℕ → ℕ → Bool
none_divides a b zero = true
none_divides a b (suc k) = not (a % suc (suc k) == 0 && b % suc (suc k) == 0) && none_divides a b k

-- the number is a denominator, above 0, of a fraction in lowest terms with this numerator
abbrev pub is_lowest : ℤ → ℕ → Bool
is_lowest num den = nat_lt 0 den && none_divides (unsigned_abs num) den den

-- the denominator for a numerator
abbrev pub den_at : Ends → ℤ → At → Result (ℕ × At) ℕ
den_at ends num = piece_at (number_spelling (end_of ends)) (λ b. kept (is_lowest num) (number_from (2 ^ 127 - 1) (end_of ends) b))

-- a fraction in lowest terms
unfoldable pub fraction_at : Ends → At → Result (Fraction × At) ℕ
fraction_at ends a = do
  num ← num_at a
  den ← den_at ends num.0 num.1
  Ok (record { num = num.0; den = den.0 }, den.1)

-- ---- points and proofs

-- a point, to the end of its line
unfoldable pub point_at : At → Result (Values × At) ℕ
point_at a = do
  base ← u64_at Space a
  count ← u32_at LineIfZero base.1
  values ← each_at (λ k. i128_at (ends_before k)) count.0 count.1
  Ok (record { base = base.0; values = values.0 }, values.1)

-- how a count ends, where so many fields follow its items
abbrev pub count_ends : ℕ → Ends
count_ends more = if more == 0 then LineIfZero else Space

-- a proof that so many fields follow in its line
unfoldable pub proof_at : ℕ → At → Result (Proof × At) ℕ
proof_at more a = do
  scale ← u64_at Space a
  count ← u32_at (count_ends more) scale.1
  parts ← each_at (λ k. part_at (k + more)) count.0 count.1
  Ok (record { scale = scale.0; parts = parts.0 }, parts.1)

-- ---- marks

-- an operation on two fractions
unfoldable pub wide_at : At → Result (Operated × At) ℕ
wide_at a = do
  op ← operation_at a
  x ← fraction_at Space op.1
  y ← fraction_at Line x.1
  Ok (record { operation = op.0; left = x.0; right = y.0 }, y.1)

-- what a reason tells
unfoldable pub told_at : ReasonKind → At → Result (Reason × At) ℕ
told_at causes.Pivots a = do
  n ← u32_at Line a
  Ok (unended n.0, n.1)
told_at causes.Wide a = do
  w ← wide_at a
  Ok (wide w.0, w.1)
told_at causes.Coarse a = do
  n ← u64_at Space a
  x ← fraction_at Line n.1
  Ok (coarse n.0 x.0, x.1)
told_at causes.HeavyProof a = do
  p ← proof_at 0 a
  Ok (heavy_proof p.0, p.1)
told_at causes.HeavyPoint a = do
  q ← point_at a
  Ok (heavy_point q.0, q.1)

-- a reason
unfoldable pub reason_at : At → Result (Reason × At) ℕ
reason_at a = do
  kind ← cause_at a
  told_at kind.0 kind.1

-- what a mark carries
unfoldable pub carried_at : MarkKind → At → Result (Mark × At) ℕ
carried_at kinds.Tight a = do
  q ← point_at a
  Ok (tight q.0, q.1)
carried_at kinds.Raised a = do
  p ← proof_at 1 a
  q ← point_at p.1
  Ok (raised p.0 q.0, q.1)
carried_at kinds.Empty a = do
  p ← proof_at 0 a
  Ok (empty p.0, p.1)
carried_at kinds.Loose a = do
  r ← reason_at a
  Ok (loose r.0, r.1)

-- the line of a mark
unfoldable pub leaf_at : At → Result (LeafMark × At) ℕ
leaf_at a = do
  kind ← kind_at a
  node ← u32_at Space kind.1
  mark ← carried_at kind.0 node.1
  Ok (record { node = node.0; mark = mark.0 }, mark.1)

-- the count of the marks, and their lines
unfoldable pub leaves_at : At → Result (List LeafMark × At) ℕ
leaves_at a = do
  w ← word_at (codes "leaves ") a
  n ← u32_at Line w.1
  each_at (λ _. leaf_at) n.0 n.1

-- the line of the pivots
unfoldable pub pivots_at : At → Result (ℕ × At) ℕ
pivots_at a = do
  w ← word_at (codes "pivots ") a
  u32_at Line w.1

-- marks
unfoldable pub marks_at : At → Result (Marks × At) ℕ
marks_at a = do
  w ← word_at (codes "pooltight 1\n") a
  form ← form_at w.1
  pivots ← pivots_at form.1
  leaves ← leaves_at pivots.1
  bound ← bound_at leaves.1
  e ← word_at (codes "end\n") bound.1
  Ok (record { form = form.0; pivots = pivots.0; marks = leaves.0; bound = bound.0 }, e.1)
