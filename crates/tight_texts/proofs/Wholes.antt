-- All of the bytes are read exactly where they are the text of marks.
use Rattle.std.proofs.Common.{◌≡◌, ℕ, List, [], ◌++◌, Ok, Err, ◌∙◌}
use Rattle.std.specs.Prelude.{◌↔◌}
use Rattle.std.proofs.lemmas.List.{append-nil}
use Rattle.cert_text.specs.Lines.{IsFaultyLine}
use Rattle.cert_text.specs.Reading.{whole}
use Rattle.cert_text.proofs.Laws.{whole_found, whole_again, whole_fault, one_spelling}
use Rattle.tight_texts.specs.Texts.{Marks, AreMarks, marks_text}
use Rattle.tight_texts.specs.Reading.{marks_at}
use Rattle.tight_texts.proofs.MarkLaws.{marks_reads}

pub marks-whole : (bytes : List ℕ) (t : Marks) → (whole marks_at bytes ≡ Ok t) ↔ (AreMarks t × (bytes ≡ marks_text t))
marks-whole bytes t = (λ e. whole_found Marks AreMarks marks_text marks_at marks_reads bytes t e, λ h. whole_again Marks AreMarks marks_text marks_at marks_reads bytes t h.0 h.1)

pub marks-fault : (bytes : List ℕ) (line : ℕ) → whole marks_at bytes ≡ Err line → IsFaultyLine Marks AreMarks marks_text bytes line
marks-fault bytes line e = whole_fault Marks AreMarks marks_text marks_at marks_reads bytes line e

pub one-marks : (s t : Marks) (more : List ℕ) → AreMarks s → AreMarks t → marks_text s ≡ marks_text t ++ more → s ≡ t
one-marks s t more is other e = (one_spelling Marks AreMarks marks_text marks_at marks_reads s t [] more is other (append-nil (marks_text s) ∙ e)).0
