-- How long a text of marks is.
use Rattle.std.proofs.Common.{◌≡◌, ℕ, suc, ◌+◌, ◌*◌, ◌^◌, ◌<◌, ◌≤◌, List, [], ◌∷◌, ◌++◌, length, map, All, Option, None, Some, refl, arith, lit<, length-append}
use Rattle.std.specs.Prelude.{ℤ, pos, negsuc, FitsSigned, decimal, codes, unsigned_abs}
use Rattle.std.specs.List.{flat_map}
use Rattle.std.specs.Int.{w128}
use Rattle.std.specs.Fmt.{signed_decimal}
use Rattle.std.specs.Option.{ForSome}
use Rattle.std.proofs.lemmas.Fmt.{length-decimal-le_wide}
use Rattle.std.proofs.lemmas.Int.{ints}
use Rattle.std.proofs.lemmas.List.Elements.{All-head, All-tail}
use Rattle.exact_num.specs.Fraction.{Fraction, IsShort}
use Rattle.exact_run.specs.declared.operations.Operation.{Operation}
use Rattle.exact_run.specs.declared.operations.Operation.TheVariants as operations
use Rattle.row_model.specs.Multipliers.{Proof}
use Rattle.box_space.specs.declared.coordinates.Form.{Form}
use Rattle.box_space.specs.declared.coordinates.Form.TheVariants as forms
use Rattle.cert_writing.specs.Text.{line, part_fields}
use Rattle.cert_lengths.proofs.Lines.{field_bytes, length-i128, length-line, length-parts, length-u32, length-u64}
use Rattle.tight_texts.specs.Texts.{AreMarks, AreValues, IsFraction, IsLeafMark, IsMark, IsProof, IsReason, LeafMark, Mark, Marks, Operated, Reason, Values}
use Rattle.tight_texts.specs.Texts.{unended, wide, coarse, heavy_proof, heavy_point, tight, raised, empty, loose}
use Rattle.tight_texts.specs.Texts.{bound_line, bound_text, form_line, form_word, fraction_fields, head_lines, mark_fields, mark_line, mark_lines, mark_word, marks_text}
use Rattle.tight_texts.specs.Texts.{operation_word, point_fields, proof_fields, reason_fields, wide_fields}
use Rattle.tight_commands.specs.Ranges.{IsReasonWithin, IsWithin}

-- ---- fields

fields-append : (fs gs : List (List ℕ)) → field_bytes (fs ++ gs) ≡ field_bytes fs + field_bytes gs
fields-append [] gs = omega arith
fields-append (f ∷ fs) gs = omega (arith, fields-append fs gs)

length-values : (zs : List ℤ) → All (FitsSigned w128) zs → field_bytes (map signed_decimal zs) ≤ 41 * length zs
length-values [] h = omega arith
length-values (z ∷ zs) h = omega (arith, length-i128 z (All-head (FitsSigned w128) z zs h), length-values zs (All-tail (FitsSigned w128) z zs h))

length-point : (q : Values) → AreValues q → field_bytes (point_fields q) ≤ 32 + 41 * length q.values
length-point q is = omega (arith, length-u64 q.base is.base, length-u32 (length q.values) is.few, length-values q.values is.values)

length-proof : (p : Proof) → IsProof p → field_bytes (proof_fields p) ≤ 32 + 32 * length p.parts
length-proof p is = omega (arith, length-u64 p.scale is.scale, length-u32 (length p.parts) is.few, length-parts p.parts is.parts)

length-short : (z : ℤ) → IsShort z → length (signed_decimal z) ≤ 40
length-short (pos n) h = omega (arith, length-decimal-le_wide 39 n (lit< tt) (omega (arith, ints)) (omega (arith, ints)))
length-short (negsuc n) h = omega (arith, length-decimal-le_wide 39 (suc n) (lit< tt) (omega (arith, ints)) (omega (arith, ints)))

length-den : (n : ℕ) → IsShort (pos n) → length (decimal n) ≤ 39
length-den n h = length-decimal-le_wide 39 n (lit< tt) (omega (arith, ints)) (omega (arith, ints))

length-fraction : (x : Fraction) → IsFraction x → field_bytes (fraction_fields x) ≤ 81
length-fraction x is = omega (arith, length-short x.num is.range.num, length-den x.den is.range.den)

length-operation : (o : Operation) → length (operation_word o) ≤ 1
length-operation operations.Add = omega arith
length-operation operations.Sub = omega arith
length-operation operations.Mul = omega arith
length-operation operations.Div = omega arith

length-wide : (w : Operated) → IsFraction w.left → IsFraction w.right → field_bytes (wide_fields w) ≤ 164
length-wide w left right =
    omega (
      arith,
      length-operation w.operation,
      fields-append (fraction_fields w.left) (fraction_fields w.right),
      length-fraction w.left left,
      length-fraction w.right right,
    )

-- ---- lines, by how many parts and values there may be

length-reason : (r v : ℕ) (reason : Reason) → IsReason reason → IsReasonWithin r v reason → field_bytes (reason_fields reason) ≤ 166 + 32 * r + 41 * v
length-reason r v (unended n) is within = omega (arith, length-u32 n is)
length-reason r v (wide w) is within = omega (arith, length-wide w is.0 is.1)
length-reason r v (coarse n x) is within = omega (arith, length-u64 n is.0, length-fraction x is.1)
length-reason r v (heavy_proof p) is within = omega (arith, length-proof p is, within)
length-reason r v (heavy_point q) is within = omega (arith, length-point q is, within)

length-mark : (r v : ℕ) (mark : Mark) → IsMark mark → IsWithin r v mark → field_bytes (mark_fields mark) ≤ 166 + 32 * r + 41 * v
length-mark r v (tight q) is within = omega (arith, length-point q is, within)
length-mark r v (raised p q) is within =
    omega (arith, fields-append (proof_fields p) (point_fields q), length-proof p is.0, length-point q is.1, within.0, within.1)
length-mark r v (empty p) is within = omega (arith, length-proof p is, within)
length-mark r v (loose reason) is within = length-reason r v reason is within

length-word : (mark : Mark) → length (mark_word mark) ≤ 6
length-word (tight q) = omega arith
length-word (raised p q) = omega arith
length-word (empty p) = omega arith
length-word (loose r) = omega arith

length-mark_line : (r v : ℕ) (m : LeafMark) → IsLeafMark m → IsWithin r v m.mark → length (mark_line m) ≤ 184 + 32 * r + 41 * v
length-mark_line r v m is within =
    omega (
      arith,
      length-line (mark_word m.mark) (decimal m.node ∷ mark_fields m.mark),
      length-word m.mark,
      length-u32 m.node is.node,
      length-mark r v m.mark is.mark within,
    )

length-lines : (r v : ℕ) (marks : List LeafMark) → All IsLeafMark marks → All (λ m. IsWithin r v m.mark) marks
    → length (flat_map mark_line marks) ≤ (184 + 32 * r + 41 * v) * length marks
length-lines r v [] h within = omega arith
length-lines r v (m ∷ ms) h within =
    let one = length-mark_line r v m (All-head IsLeafMark m ms h) (All-head (λ (x : LeafMark). IsWithin r v x.mark) m ms within) in
    let rest = length-lines r v ms (All-tail IsLeafMark m ms h) (All-tail (λ (x : LeafMark). IsWithin r v x.mark) m ms within) in
    omega (arith, length-append (mark_line m) (flat_map mark_line ms), one, rest)

-- ---- the whole

length-form : (form : Form) → length (form_word form) ≤ 2
length-form forms.P = omega arith
length-form forms.Q = omega arith
length-form forms.Pq = omega arith

length-head : (form : Form) (pivots : ℕ) → pivots < 2 ^ 32 → length (head_lines form pivots) ≤ 40
length-head form pivots small =
    omega (
      arith,
      length-append (line (codes "pooltight") (codes "1" ∷ [])) (form_line form ++ line (codes "pivots") (decimal pivots ∷ [])),
      length-append (form_line form) (line (codes "pivots") (decimal pivots ∷ [])),
      length-line (codes "form") (form_word form ∷ []),
      length-form form,
      length-line (codes "pivots") (decimal pivots ∷ []),
      length-u32 pivots small,
    )

length-bound_text : (bound : Option ℤ) → ForSome bound (FitsSigned w128) → length (bound_text bound) ≤ 40
length-bound_text None is = omega arith
length-bound_text (Some b) is = length-i128 b (is b refl)

-- the text of marks that carry no more parts and values than this
pub length-marks : (r v : ℕ) (t : Marks) → AreMarks t → All (λ m. IsWithin r v m.mark) t.marks → length (marks_text t) ≤ 109 + (184 + 32 * r + 41 * v) * length t.marks
length-marks r v t is within =
    omega (
      arith,
      length-append (head_lines t.form t.pivots) (mark_lines t.marks ++ (bound_line t.bound ++ line (codes "end") [])),
      length-append (mark_lines t.marks) (bound_line t.bound ++ line (codes "end") []),
      length-append (line (codes "leaves") (decimal (length t.marks) ∷ [])) (flat_map mark_line t.marks),
      length-append (bound_line t.bound) (line (codes "end") []),
      length-head t.form t.pivots is.pivots,
      length-line (codes "leaves") (decimal (length t.marks) ∷ []),
      length-u32 (length t.marks) is.few,
      length-lines r v t.marks is.marks within,
      length-line (codes "bound") (bound_text t.bound ∷ []),
      length-bound_text t.bound is.bound,
    )
