-- The answer on a text, by what was judged of the marks that were read.
use Rattle.std.proofs.Common.{◌≡◌, ℕ, ◌⊎◌, inl, inr, List, refl, sym, subst}
use Rattle.std.specs.Prelude.{Result, Ok, Err, IfOk, IfErr, OnOk}
use Rattle.faults.proofs.First.{one-rank}
use Rattle.pool_model.specs.Network.{Net, IsLimited}
use Rattle.row_model.specs.Trees.{Tree}
use Rattle.tight_texts.specs.Texts.{Marks, AreMarks, marks_text}
use Rattle.tight_texts.specs.Views.{shown_marks}
use Rattle.cert_text.specs.Results.{IsReadAs, IsFaultIn}
use Rattle.cert_text.specs.declared.fault.ReadFault.{ReadFault}
use Rattle.cert_text.specs.declared.fault.ReadFault.TheVariants as reading
use Rattle.tight_texts.specs.declared.marks.TightText.{TightText}
use Rattle.tight_checks.specs.declared.refusal.TightRefusal.{TightRefusal}
use Rattle.tight_checks.specs.declared.refusal.TightRefusal.TheVariants.{Text, Leaves, BadMark, WrongBound, Memory}
use Rattle.tight_checks.specs.declared.verdict.TightVerdict.{TightVerdict}
use Rattle.tight_checks.specs.Holding.{LineHolds, Holds, IsVerdict}
use Rattle.tight_checks.specs.Refusals.{Refuses, IsFirstRefusal, IsRefused, IsRefusedFor, IsTakenAs, IsAccepted, Spells, rank, read_refusal}
use Rattle.tight_checks.specs.Showing.{AreBest, HoldsForPlans}
use Rattle.tight_checks.proofs.Said.{holds-same, first-same, verdict-same}

-- marks that hold give no cause
none_holds : (n : Net) (tree : Tree) (text : TightText) → Holds n tree text → (r : TightRefusal) → ¬ Refuses n tree text r
none_holds n tree text h (Text line) r = r
none_holds n tree text h Leaves r = r h.leaves
none_holds n tree text h (BadMark node) r = r.wrong (subst (LineHolds n tree text.form text.pivots) r.here.2 (h.marks r.here.0 r.line r.here.1))
none_holds n tree text h WrongBound r = r h.bound
none_holds n tree text h Memory r = r

-- ranks tell causes that marks give apart
pub one-cause : (n : Net) (tree : Tree) (text : TightText) (r s : TightRefusal) → IsFirstRefusal n tree text r → IsFirstRefusal n tree text s → r ≡ s
one-cause n tree text r s h k = same r s h.holds k.holds (one-rank rank (Refuses n tree text) r s h k)
  where
    same : (r s : TightRefusal) → Refuses n tree text r → Refuses n tree text s → rank r ≡ rank s → r ≡ s
    same (Text line) s h k e = absurd h
    same Memory s h k e = absurd h
    same Leaves (Text line) h k e = absurd k
    same Leaves Memory h k e = absurd k
    same Leaves Leaves h k e = refl
    same Leaves (BadMark node) h k e = cc
    same Leaves WrongBound h k e = cc
    same (BadMark node) (Text line) h k e = absurd k
    same (BadMark node) Memory h k e = absurd k
    same (BadMark node) Leaves h k e = cc
    same (BadMark node) (BadMark other) h k e = cc
    same (BadMark node) WrongBound h k e = cc
    same WrongBound (Text line) h k e = absurd k
    same WrongBound Memory h k e = absurd k
    same WrongBound Leaves h k e = cc
    same WrongBound (BadMark node) h k e = cc
    same WrongBound WrongBound h k e = refl

-- the first cause that marks of this text give
pub refused-by : (n : Net) (tree : Tree) (bytes : List ℕ) (text : TightText) (r : TightRefusal) → Spells bytes text → (r ≡ Memory) ⊎ IsFirstRefusal n tree text r → IsRefused n tree bytes r
refused-by n tree bytes text (Text line) spelled (inl e) = cc
refused-by n tree bytes text (Text line) spelled (inr first) = absurd first.holds
refused-by n tree bytes text Leaves spelled (inl e) = cc
refused-by n tree bytes text Leaves spelled (inr first) = record { text = text; spelled = spelled; first = first }
refused-by n tree bytes text (BadMark node) spelled (inl e) = cc
refused-by n tree bytes text (BadMark node) spelled (inr first) = record { text = text; spelled = spelled; first = first }
refused-by n tree bytes text WrongBound spelled (inl e) = cc
refused-by n tree bytes text WrongBound spelled (inr first) = record { text = text; spelled = spelled; first = first }
refused-by n tree bytes text Memory spelled h = tt

-- what is taken and what is told, for each text in memory that is shown as the one that was read
module _ (n : Net) (tree : Tree) (read text : TightText) (same : shown_marks read ≡ shown_marks text) where
  pub taken-by : (r : Result TightVerdict TightRefusal) → IfOk r (IsVerdict read) → IfErr r (λ e. (e ≡ Memory) ⊎ IsFirstRefusal n tree read e) → Holds n tree text → IsTakenAs text r
  taken-by (Ok verdict) is refused holds = verdict-same read text same verdict is
  taken-by (Err r) is (inl e) holds = e
  taken-by (Err r) is (inr first) holds = absurd (none_holds n tree read (holds-same n tree text read (sym same) holds) r first.holds)

  pub told-by : (r : Result TightVerdict TightRefusal) → IfOk r (λ _. Holds n tree read) → IfErr r (λ e. (e ≡ Memory) ⊎ IsFirstRefusal n tree read e)
      → (cause : TightRefusal) → IsFirstRefusal n tree text cause → IsRefusedFor cause r
  told-by (Ok verdict) holds refused cause first = none_holds n tree text (holds-same n tree read text same holds) cause first.holds
  told-by (Err r) holds (inl e) cause first = inr e
  told-by (Err r) holds (inr is) cause first = inl (one-cause n tree text r cause (first-same n tree read text same r is) first)

-- ---- the answer on a text

-- marks that couldn't be read are refused at their first faulty line
module _ (n : Net) (tree : Tree) (bytes : List ℕ) where
  pub unread-refused : (e : ReadFault) → ((t : Marks) → AreMarks t → bytes ≡ marks_text t → IsReadAs shown_marks t (Err e)) → IsFaultIn Marks AreMarks marks_text bytes e
      → IsRefused n tree bytes (read_refusal e)
  unread-refused (reading.Line line) only fault = record { none = only; first = fault }
  unread-refused reading.Memory only fault = tt

  -- and no marks have their text, unless memory ran out
  module _ (text : TightText) (spelled : Spells bytes text) where
    pub unread-taken : (e : ReadFault) → ((t : Marks) → AreMarks t → bytes ≡ marks_text t → IsReadAs shown_marks t (Err e)) → IsTakenAs text (Err (read_refusal e))
    unread-taken (reading.Line line) only = absurd (only (shown_marks text) spelled.are spelled.text_is)
    unread-taken reading.Memory only = refl

    pub unread-told : (e : ReadFault) → ((t : Marks) → AreMarks t → bytes ≡ marks_text t → IsReadAs shown_marks t (Err e)) → (cause : TightRefusal) → IsRefusedFor cause (Err (read_refusal e))
    unread-told (reading.Line line) only cause = absurd (only (shown_marks text) spelled.are spelled.text_is)
    unread-told reading.Memory only cause = inr refl

-- marks that were read, by what was judged of them
module _ (n : Net) (tree : Tree) (bytes : List ℕ) (read : TightText) where
  pub accepted-by : (r : Result TightVerdict TightRefusal) → Spells bytes read → IfOk r (λ _. Holds n tree read) → IfOk r (IsVerdict read) → IfOk r (IsAccepted n tree bytes)
  accepted-by (Ok verdict) spelled holds is = record { text = read; spelled = spelled; holds = holds; verdict_is = is }
  accepted-by (Err r) spelled holds is = tt

  pub plans-by : (r : Result TightVerdict TightRefusal) → (IsLimited n → Holds n tree read → HoldsForPlans n read.bound) → OnOk r (IsLimited n) → IfOk r (λ _. Holds n tree read) → IfOk r (IsVerdict read)
      → IfOk r (λ verdict. HoldsForPlans n verdict.bound)
  plans-by (Ok verdict) law limited holds is = subst (HoldsForPlans n) (sym is.bound) (law limited holds)
  plans-by (Err r) law limited holds is = tt

  pub best-by : (text : TightText) → shown_marks read ≡ shown_marks text → (r : Result TightVerdict TightRefusal) → (Holds n tree text → AreBest n tree text) → IfOk r (λ _. Holds n tree read)
      → OnOk r (AreBest n tree text)
  best-by text same (Ok verdict) law holds = law (holds-same n tree read text same holds)
  best-by text same (Err r) law holds = tt

  pub refused-for : (r : Result TightVerdict TightRefusal) → Spells bytes read → IfErr r (λ e. (e ≡ Memory) ⊎ IsFirstRefusal n tree read e) → IfErr r (IsRefused n tree bytes)
  refused-for (Ok verdict) spelled refused = tt
  refused-for (Err r) spelled refused = refused-by n tree bytes read r spelled refused
