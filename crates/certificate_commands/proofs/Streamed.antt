-- What the check of an opened file says of the file under its name.
use Rattle.std.proofs.Common.{◌≡◌, ◌≢◌, ℕ, ◌<◌, inl, inr, List, length, Option, None, Some, Result, Ok, Err, refl, sym, ap, subst, ◌∙◌, arith}
use Rattle.edge_io.specs.Counts.{Grows}
use Rattle.shelf_calls.specs.Files.{IsTooLong}
use Rattle.shelf_calls.specs.Opened.{IsOpened}
use Rattle.pool_model.specs.Network.{Net, Network, net_of}
use Rattle.cert_format.specs.Cert.{Cert}
use Rattle.cert_format.specs.Valid.{IsValid}
use Rattle.cert_checker.specs.Answers.{GivesFirst, IsRefused, Spells}
use Rattle.proof_lines.specs.declared.refusal.Refusal.{Refusal}
use Rattle.proof_lines.specs.declared.refusal.Refusal.TheVariants.{Text, Memory}
use Rattle.proof_lines.specs.declared.stream_refusal.StreamRefusal.{StreamRefusal}
use Rattle.proof_lines.specs.declared.stream_refusal.StreamRefusal.TheVariants as streams
use Rattle.cert_format.specs.Views.{shown_claim}
use Rattle.cert_writing.specs.declared.certificate.Claim.{Claim}
use Rattle.pool_report.specs.Report.{IsReported}
use Rattle.certificate_commands.specs.declared.judging.Telling.{Telling}
use Rattle.certificate_commands.proofs.Reported.{valid-reported}
use Rattle.cert_checker.specs.Streams.{IsStreamAnswer}
use Rattle.cert_checker.proofs.Order.{valid-clear}
use Rattle.cert_checker.proofs.Streaming.{spelled-same}
use Rattle.cert_lengths.specs.Lengths.{most_bytes}
use Rattle.certificate_commands.specs.CheckEnds.{AreRead, CheckEnds, JudgedUnder, JudgesAs, told_text}
use Rattle.certificate_commands.specs.OpenedEnds.{AreRest, IsLongRest, JudgedRest, LineOnRest, OpenedEnds}
use Rattle.run_status.specs.Reads.{Files, ReadsUnder}
use Rattle.run_status.specs.Took.{printed_by, Took}
use Rattle.run_status.proofs.Parts.{took-part}
use Rattle.printed_lines.specs.Verdicts.{refused_line}
use Rattle.run_status.specs.declared.status.Status.{Status}
use Rattle.run_status.specs.declared.status.Status.TheVariants as statuses

-- ---- a text that is refused is that of no valid certificate

clear-first : (n : Net) (bytes : List ℕ) (r : Refusal) → GivesFirst n bytes r → (c : Cert) → Spells bytes c → ¬ IsValid n c
clear-first n bytes r is c spelled valid =
    valid-clear n is.cert r (subst (λ (x : Cert). IsValid n x) (spelled-same bytes c is.cert spelled is.spelled) valid) is.first.holds

pub refused-invalid : (n : Net) (bytes : List ℕ) (r : Refusal) → IsRefused n bytes r → r ≢ Memory → (c : Cert) → Spells bytes c → ¬ IsValid n c
refused-invalid n bytes (Text fault) is own c spelled = absurd (is.none c spelled)
refused-invalid n bytes Memory is own c spelled = absurd (own refl)
refused-invalid n bytes r is own c spelled = clear-first n bytes r is c spelled

-- ---- what was answered on an opened file

abbrev Answered : Net → Option (List ℕ) → Result Claim StreamRefusal → Type 0
Answered n rest answer = IsStreamAnswer n rest most_bytes answer

-- what is accepted can be reported
pub accepted-reported : (network : Network) (rest : Option (List ℕ)) (claim : Claim) → Answered (net_of network) rest (Ok claim) → IsReported (net_of network) (shown_claim claim)
accepted-reported network rest claim h =
    let is = h.answer_is.0 in subst (IsReported (net_of network)) (sym is.claims) (valid-reported (net_of network) is.cert is.valid)

pub accepted-told : (telling : Telling) (network : Network) (rest : Option (List ℕ)) (claim : Claim) → Answered (net_of network) rest (Ok claim)
    → LineOnRest telling network rest statuses.Accepted (told_text telling network (shown_claim claim))
accepted-told telling network rest claim h =
    let is = h.answer_is.0 in (
      h.bytes,
      record { are = h.are; short = h.answer_is.2 },
      record { certificate = is.cert; spelled = is.spelled; valid = is.valid; follows = h.answer_is.1 is.cert is.spelled; told = ap (told_text telling network) is.claims },
    )

abbrev refusing : StreamRefusal → Result Claim StreamRefusal
refusing s = Err s

module _ (n : Net) (rest : Option (List ℕ)) (s : StreamRefusal) (r : Refusal) (is : s ≡ streams.Refused r) (other : s ≢ streams.Refused Memory) (checked : Answered n rest (refusing s)) where
  own : r ≢ Memory
  own e = other (is ∙ ap (λ (x : Refusal). streams.Refused x) e)

  here : Answered n rest (refusing (streams.Refused r))
  here = subst (λ (x : StreamRefusal). Answered n rest (refusing x)) is checked

  pub refused-judged : JudgedRest n rest (statuses.Refused r)
  refused-judged = (here.bytes, record { are = here.are; short = here.answer_is.1 }, refused-invalid n here.bytes r here.answer_is.0 own)

pub refused-line : (telling : Telling) (network : Network) (rest : Option (List ℕ)) (s : StreamRefusal) (r : Refusal) (is : s ≡ streams.Refused r) (other : s ≢ streams.Refused Memory)
    (checked : Answered (net_of network) rest (refusing s)) → LineOnRest telling network rest (statuses.Refused r) (refused_line r)
refused-line telling network rest s r is other checked =
    let h = here (net_of network) rest s r is other checked in
    (h.bytes, record { are = h.are; short = h.answer_is.1 }, record { refused = h.answer_is.0; own = own (net_of network) rest s r is other checked; spelled = refl })

-- ---- the file under a name is what is read of it

has-file : (files : Option Files) (net cert : List ℕ) (network : Network) (rest : Option (List ℕ)) (bytes : List ℕ) → IsOpened files cert rest → ReadsUnder files net network → AreRest rest bytes
    → AreRead files net cert network bytes
has-file None net cert network rest bytes opened reads r = record { reads = reads; file = tt; short = r.short }
has-file (Some told) net cert network rest bytes opened reads r =
    record { reads = reads; file = opened.are ∙ ap (λ (b : List ℕ). Some b) (r.are opened.bytes opened.rest_is); short = r.short }

too-long : (files : Option Files) (cert : List ℕ) (rest : Option (List ℕ)) (start before after : ℕ) → IsOpened files cert rest → Grows start before → IsLongRest rest before after
    → IsTooLong files cert most_bytes start after
too-long None cert rest start before after opened grows l = elim l.taken [ inl lt ↦ inl (omega (arith, lt, grows.grown)) | inr top ↦ inr top ]
too-long (Some told) cert rest start before after opened grows l =
    record { bytes = opened.bytes; are = opened.are; more = subst (λ (b : List ℕ). most_bytes < length b) (sym (l.are opened.bytes opened.rest_is)) l.more }

module _ (files : Option Files) (net cert : List ℕ) (network : Network) (rest : Option (List ℕ)) (opened : IsOpened files cert rest) (reads : ReadsUnder files net network) where
  pub took-file : (telling : Telling) (status : Status) (old new : Option (List ℕ)) → Took (LineOnRest telling network rest) status old new → Took (JudgesAs telling files net cert) status old new
  took-file telling status old new took =
      took-part (LineOnRest telling network rest) (JudgesAs telling files net cert) (λ s text line. (network, (line.0, has-file files net cert network rest line.0 opened reads line.1, line.2)))
      (printed_by status) status old new took

  judged-file : (status : Status) → JudgedRest (net_of network) rest status → JudgedUnder files net cert status
  judged-file status j = record { network = network; bytes = j.0; read = has-file files net cert network rest j.0 opened reads j.1; judged = j.2 }

  pub ends-file : (start before after : ℕ) (status : Status) → Grows start before → OpenedEnds (net_of network) rest before after status → CheckEnds files net cert start after status
  ends-file start before after statuses.Accepted grows h = judged-file statuses.Accepted h
  ends-file start before after (statuses.Refused refusal) grows h = judged-file (statuses.Refused refusal) h
  ends-file start before after statuses.WriteFault grows h = judged-file statuses.WriteFault h
  ends-file start before after statuses.CertTooLong grows h = record { network = network; reads = reads; more = too-long files cert rest start before after opened grows h }
  ends-file start before after statuses.ReadFault grows h = tt
  ends-file start before after statuses.OutOfMemory grows h = tt
  ends-file start before after status grows h = absurd h
