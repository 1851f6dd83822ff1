-- The answer of a stream, from what was walked.
use Rattle.std.proofs.Common.{◌≡◌, ◌≢◌, ℕ, zero, suc, ◌≤◌, ◌<◌, inl, inr, List, [], ◌∷◌, ◌++◌, length, Option, None, Some, Result, Ok, Err, refl, sym, ap, subst, ◌∙◌, arith}
use Rattle.std.proofs.lemmas.Bool.{cases_lt}
use Rattle.std.proofs.lemmas.List.{append-nil}
use Rattle.pool_model.specs.Network.{Net, IsLimited}
use Rattle.pool_model.specs.Claim.{Follows}
use Rattle.cert_text.specs.declared.fault.TextFault.{TextFault}
use Rattle.cert_text.specs.Lines.{IsFaultyLine, line_feeds, first_lines}
use Rattle.cert_text.proofs.LineLemmas.{first_lines-front}
use Rattle.cert_format.specs.Cert.{Cert, IsCert}
use Rattle.cert_format.specs.Text.{text_of}
use Rattle.cert_format.specs.Valid.{IsValid}
use Rattle.cert_format.proofs.Outcomes.{one_text}
use Rattle.cert_stream.specs.Items.{Field}
use Rattle.cert_stream.specs.Streams.{Reader, fresh, IsRest, IsTextOf, IsMore, FailsLater}
use Rattle.cert_stream.proofs.Runs.{run-fails}
use Rattle.cert_checker.specs.Answers.{Spells, GivesFirst, IsRefused}
use Rattle.proof_lines.specs.declared.refusal.Refusal.{Refusal}
use Rattle.proof_lines.specs.declared.refusal.Refusal.TheVariants.{Text, Memory as NoMemory}
use Rattle.proof_lines.specs.declared.stream_refusal.StreamRefusal.{StreamRefusal}
use Rattle.proof_lines.specs.declared.stream_refusal.StreamRefusal.TheVariants.{Read, TooLong, Refused, Memory}
use Rattle.cert_writing.specs.declared.certificate.Claim.{Claim}
use Rattle.cert_format.specs.Views.{shown_claim}
use Rattle.proof_lines.specs.Refusals.{IsFirstRefusal}
use Rattle.cert_checker.specs.Streams.{IsAnswer, IsStreamAnswer, IsStreamedAs}
use Rattle.cert_checker.proofs.Followed.{valid-follows}
use Rattle.cert_checker.proofs.Order.{valid-clear}

-- ---- one text has one certificate

pub spelled-same : (bytes : List ℕ) (c d : Cert) → Spells bytes c → Spells bytes d → c ≡ d
spelled-same bytes c d h k = one_text c d [] h.is k.is (sym h.text ∙ k.text ∙ sym (append-nil (text_of d)))

-- a text with a faulty line is no certificate's
no-cert : (bytes : List ℕ) (line : ℕ) (c : Cert) → IsFaultyLine Cert IsCert text_of bytes line → ¬ Spells bytes c
no-cert bytes line c faulty spelled = elim (cases_lt (line_feeds bytes) line) [
  | inl lt ↦ (faulty.at_the_rest lt).1 (c, spelled.is, spelled.text)
  | inr le ↦ let m = first_lines-front line bytes [] le in faulty.here le (c, m.0, spelled.is, sym spelled.text ∙ m.1 ∙ ap (λ (b : List ℕ). first_lines line b ++ m.0) (append-nil bytes))
]

-- ---- answers

-- the text was read to its end, and what it claims is valid
pub answer-valid : (n : Net) (most : ℕ) (rest : Option (List ℕ)) (bytes : List ℕ) (items : List Field) (claim : Claim) → IsLimited n → (t : IsTextOf most rest bytes items)
    → IsValid n t.cert → shown_claim claim ≡ t.cert.claim → IsStreamAnswer n rest most (Ok claim)
answer-valid n most rest bytes items claim limited t valid claims = record {
  bytes = bytes;
  are = t.are;
  answer_is = (
    record { cert = t.cert; spelled = record { is = t.is; text = t.text }; valid = valid; claims = claims },
    λ c spelled. subst (λ (x : Cert). Follows n x.claim) (spelled-same bytes t.cert c record { is = t.is; text = t.text } spelled) (valid-follows n t.cert limited valid),
    t.short,
  );
}

refused-by : (n : Net) (bytes : List ℕ) (c : Cert) (r : Refusal) → Spells bytes c → IsFirstRefusal n c r → IsRefused n bytes r
refused-by n bytes c (Text f) spelled first = absurd first.holds
refused-by n bytes c NoMemory spelled first = tt
refused-by n bytes c _ spelled first = record { cert = c; spelled = spelled; first = first }

-- the text was read to its end, and this is the first cause to refuse it
pub answer-refused : (n : Net) (most : ℕ) (rest : Option (List ℕ)) (bytes : List ℕ) (items : List Field) (r : Refusal) → (t : IsTextOf most rest bytes items)
    → IsFirstRefusal n t.cert r → IsStreamAnswer n rest most (Err (Refused r))
answer-refused n most rest bytes items r t first = record {
  bytes = bytes;
  are = t.are;
  answer_is = (refused-by n bytes t.cert r record { is = t.is; text = t.text } first, t.short);
}

-- no certificate has the text
pub answer-faulty : (n : Net) (most : ℕ) (rest : Option (List ℕ)) (s : Reader) (now : Option (List ℕ)) (f : TextFault) → FailsLater (fresh most) rest s now f
    → IsStreamAnswer n rest most (Err (Refused (Text f)))
answer-faulty n most rest s now f later =
    let bytes = later.ran.took.taken ++ later.fault_is.took.taken in
    let faulty = run-fails most rest later.before later.rest_before later.items s now f later.ran later.fault_is in
    record {
      bytes = bytes;
      are = faulty.are;
      answer_is = (record { none = λ c spelled. no-cert bytes f.line c faulty.faulty spelled; first = faulty.faulty }, faulty.short);
    }

-- ---- files that can't be read to their end

any-rest : (rest : Option (List ℕ)) → (bytes : List ℕ) × IsRest rest bytes
any-rest None = ([], λ x e. absurd cc)
any-rest (Some r) = (r, λ x e. cc)

pub answer-read : (n : Net) (most : ℕ) (rest : Option (List ℕ)) → IsStreamAnswer n rest most (Err Read)
answer-read n most rest = let a = any-rest rest in record { bytes = a.0; are = a.1; answer_is = tt }

pub answer-memory : (n : Net) (most : ℕ) (rest : Option (List ℕ)) → IsStreamAnswer n rest most (Err Memory)
answer-memory n most rest = let a = any-rest rest in record { bytes = a.0; are = a.1; answer_is = tt }

pub answer-long : (n : Net) (most : ℕ) (rest : Option (List ℕ)) → IsMore most rest → IsStreamAnswer n rest most (Err TooLong)
answer-long n most None more = let long = longer most in record { bytes = long.0; are = λ x e. absurd cc; answer_is = long.1 }
  where
    longer : (m : ℕ) → (bytes : List ℕ) × (m < length bytes)
    longer zero = (0 ∷ [], omega arith)
    longer (suc m) = let l = longer m in (0 ∷ l.0, omega (arith, l.1))
answer-long n most (Some r) more = record { bytes = r; are = λ x e. cc; answer_is = more r refl }

-- ---- a valid certificate

pub streamed : (n : Net) (most : ℕ) (rest : Option (List ℕ)) (bytes : List ℕ) (c : Cert) (result : Result Claim StreamRefusal) → IsStreamAnswer n rest most result
    → rest ≡ Some bytes → length bytes ≤ most
    → Spells bytes c → IsValid n c → result ≢ Err (Refused NoMemory) → IsStreamedAs c.claim result
streamed n most rest bytes c result checked told short spelled valid other = cases result checked.answer_is other
  where
    refusing : Refusal → Result Claim StreamRefusal
    refusing r = Err (Refused r)

    same : bytes ≡ checked.bytes
    same = checked.are bytes told

    here : Spells checked.bytes c
    here = subst (λ (b : List ℕ). Spells b c) same spelled

    not_first : (r : Refusal) → GivesFirst n checked.bytes r → ⊥
    not_first r is = valid-clear n is.cert r (subst (IsValid n) (spelled-same checked.bytes c is.cert here is.spelled) valid) is.first.holds

    refused : (r : Refusal) → IsRefused n checked.bytes r → r ≢ NoMemory → ⊥
    refused (Text f) is some = is.none c here
    refused NoMemory is some = some refl
    refused _ is some = not_first _ is

    cases : (result : Result Claim StreamRefusal) → IsAnswer n checked.bytes most result → result ≢ Err (Refused NoMemory) → IsStreamedAs c.claim result
    cases (Ok claim) is some = is.0.claims ∙ ap (λ (x : Cert). x.claim) (spelled-same checked.bytes is.0.cert c is.0.spelled here)
    cases (Err Read) is some = inl refl
    cases (Err TooLong) is some = absurd (omega (arith, is, short, ap length same))
    cases (Err Memory) is some = inr refl
    cases (Err (Refused r)) is some = absurd (refused r is.0 (λ e. some (ap (λ (x : Refusal). refusing x) e)))
