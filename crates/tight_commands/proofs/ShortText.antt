-- What is said of a certificate that is not too large has a text that is not too long.
use Rattle.std.proofs.Common.{◌≡◌, ℕ, ◌+◌, ◌*◌, ◌<◌, ◌≤◌, ◌↔◌, inl, inr, Bool, true, false, IsTrue, List, length, map, All, ap, arith}
use Rattle.std.proofs.lemmas.Bool.{cases_lt}
use Rattle.std.proofs.Math.Nat.{mul-le-mul}
use Rattle.std.proofs.lemmas.List.{length-map}
use Rattle.std.proofs.lemmas.List.Elements.{All-map}
use Rattle.pool_model.specs.Network.{Net}
use Rattle.row_model.specs.Catalogue.{rows}
use Rattle.row_model.specs.Trees.{most_splits, nodes}
use Rattle.row_model.specs.Variables.{variables}
use Rattle.box_space.specs.declared.coordinates.Form.{Form}
use Rattle.cert_format.specs.Cert.{Cert}
use Rattle.cert_format.specs.Valid.{IsValid, tree_of}
use Rattle.tight_texts.specs.Texts.{LeafMark, marks_text}
use Rattle.tight_texts.specs.Views.{shown_leaf, shown_marks, shown_mark}
use Rattle.tight_texts.specs.declared.marks.TightText.{TightText}
use Rattle.tight_checks.specs.Refusals.{Spells}
use Rattle.tight_commands.specs.Marked.{AreMarksOf, IsTextOf, most_size, most_text, size_of}
use Rattle.tight_commands.specs.Ranges.{IsWithin}
use Rattle.tight_commands.proofs.Lengths.{length-marks}
use Rattle.tight_commands.proofs.MarkedLeaves.{few-lines}
use Rattle.tight_commands.proofs.Within.{lines-within}

-- so many lines of so many bytes, by the size of the tree
room-within : (splits lines r v : ℕ) → splits ≤ 200000 → lines ≤ 2 * splits + 1 → (splits + 1) * (v + r) ≤ 8000000 → 109 + (184 + 32 * r + 41 * v) * lines ≤ 1073741824
room-within splits lines r v few count size =
    let line : 184 + 32 * r + 41 * v ≤ 184 + 41 * (v + r) = omega arith in
    let most : lines ≤ 2 * (splits + 1) = omega arith in
    let all : (184 + 32 * r + 41 * v) * lines ≤ (184 + 41 * (v + r)) * (2 * (splits + 1)) = mul-le-mul line most in
    omega (arith, all, size, few)

text-within : (n : Net) (c : Cert) (bytes : List ℕ) (text : TightText) (form : Form) (pivots : ℕ) → IsValid n c → size_of n c ≤ most_size → AreMarksOf n form pivots c text → Spells bytes text
    → length bytes ≤ most_text
text-within n c bytes text form pivots valid size are spelled =
    let lines = text.marks.items in
    let within = All-map (λ (m : LeafMark). IsWithin (rows n) (variables n) m.mark) shown_leaf lines (lines-within n (tree_of c) text.form text.pivots lines are.holds.marks) in
    let long = length-marks (rows n) (variables n) (shown_marks text) spelled.are within in
    let few = few-lines n (tree_of c) lines are.holds.leaves in
    let room = room-within (length c.splits) (length lines) (rows n) (variables n) valid.tree.few few size in
    let same = ap (λ (k : ℕ). (184 + 32 * rows n + 41 * variables n) * k) (length-map lines shown_leaf) in
    omega (arith, long, room, same, ap (λ (b : List ℕ). length b) spelled.text_is)

-- the text of what is said of a certificate
pub text-of : (n : Net) (c : Cert) (text : TightText) (form : Form) (pivots : ℕ) → IsValid n c → size_of n c ≤ most_size → AreMarksOf n form pivots c text
    → Spells (marks_text (shown_marks text)) text → IsTextOf n form pivots c (marks_text (shown_marks text))
text-of n c text form pivots valid size are spelled =
    record { text = text; are = are; spelled = spelled; short = text-within n c (marks_text (shown_marks text)) text form pivots valid size are spelled }

-- what is told not to be too large is not
pub not-large : (n : Net) (c : Cert) (large : Bool) → IsTrue large ↔ (most_size < size_of n c) → large ≡ false → size_of n c ≤ most_size
not-large n c large is off = elim (cases_lt most_size (size_of n c)) [ inl above ↦ absurd (false-not large off (is.1 above)) | inr within ↦ within ]
  where
    false-not : (b : Bool) → b ≡ false → ¬ IsTrue b
    false-not true e h = cc
    false-not false e h = cc
