-- What is answered at the end of a stream.
use Rattle.std.proofs.Common.{◌≡◌, ◌≢◌, ℕ, ◌*◌, ◌^◌, ◌≤◌, ◌⊎◌, inl, inr, List, ◌++◌, Result, Ok, Err, unsigned_abs, refl, sym, ap, subst, ◌∙◌}
use Rattle.std.specs.Prelude.{OnOk}
use Rattle.edge_io.specs.Counts.{Rose}
use Rattle.pool_model.specs.Network.{Net, IsLimited, counts_of}
use Rattle.pool_model.specs.Starting.{reach_bound}
use Rattle.cert_text.specs.declared.fault.TextFault.{TextFault}
use Rattle.cert_format.specs.Cert.{Cert}
use Rattle.cert_format.specs.Valid.{IsValid}
use Rattle.cert_format.specs.Views.{shown_claim}
use Rattle.cert_stream.specs.declared.fault.ItemFault.{ItemFault}
use Rattle.cert_stream.specs.declared.fault.ItemFault.TheVariants as faults
use Rattle.cert_stream.specs.Items.{Field}
use Rattle.cert_stream.specs.Streams.{Reader, Ran, Finished, FailsLater, IsTextOf, IsMore, TookMore, fresh}
use Rattle.cert_stream.proofs.Calls.{ran-then, told-quiet, fault-quiet}
use Rattle.cert_stream.proofs.Runs.{run-ends}
use Rattle.proof_lines.specs.declared.refusal.Refusal.{Refusal}
use Rattle.proof_lines.specs.declared.refusal.Refusal.TheVariants.{Text, WrongKind, WrongCost, WrongBound, WrongGap, Memory as NoMemory}
use Rattle.proof_lines.specs.declared.stream_refusal.StreamRefusal.{StreamRefusal}
use Rattle.proof_lines.specs.declared.stream_refusal.StreamRefusal.TheVariants.{Read, TooLong, Refused, Memory}
use Rattle.cert_writing.specs.declared.certificate.Claim.{Claim}
use Rattle.cert_checker.specs.declared.walk.Walked.{Walked}
use Rattle.cert_checker.specs.Claims.{AreClaimed, IsClaimRefusal, HasRoom}
use Rattle.cert_checker.specs.Parts.{IsRefusedFront, IsWalked}
use Rattle.proof_lines.specs.Refusals.{IsFirstRefusal}
use Rattle.proof_lines.specs.Runs.{Moment, IsWhy, Found, IsCause, Halts, of_fault, of_refusal}
use Rattle.cert_checker.specs.Streams.{IsAnswered}
use Rattle.proof_lines.specs.Trees.{tree_with}
use Rattle.cert_checker.proofs.Openings.{items-same}
use Rattle.cert_checker.proofs.Order.{claim-refused, valid-is}
use Rattle.cert_checker.proofs.Room.{has-room}
use Rattle.shelf_calls.specs.Told.{Keeps}
use Rattle.shelf_calls.proofs.Keeping.{keeps-then}
use Rattle.proof_lines.proofs.Running.{failed-then, failed-halts, not-read}
use Rattle.cert_checker.proofs.Streaming.{answer-valid, answer-refused, answer-faulty, answer-read, answer-memory, answer-long}

-- ---- what is answered at once

-- a cause that does not wait for the end
abbrev pub IsAtOnce : StreamRefusal → Type 0
IsAtOnce (Refused (Text f)) = Unit {0}
IsAtOnce (Refused r) = ⊥
IsAtOnce _ = Unit {0}

pub halts-answered : (n : Net) (most : ℕ) (m k : Moment) (r : StreamRefusal) → m.reader ≡ fresh most → Halts (IsRefusedFront n) m k r → IsAtOnce r → IsAnswered n most m k (Err r)
halts-answered n most m k Read new halts once =
    record { kept = halts.kept; checked = answer-read n most m.shelf.rest; too_long = λ e. absurd cc; read = λ e. halts.cause; quiet = inl refl; no_memory_refusal = λ e. cc }
halts-answered n most m k TooLong new halts once =
    let left : m.reader.left ≡ most = ap (λ (r : Reader). r.left) new in
    record {
      kept = halts.kept;
      checked = answer-long n most m.shelf.rest (subst (λ (i : ℕ). IsMore i m.shelf.rest) left halts.cause.0);
      too_long = λ e. subst (λ (i : ℕ). TookMore i m.shelf.taken k.shelf.taken) left halts.cause.1;
      read = λ e. absurd cc;
      quiet = inr (not-read (λ e. cc) halts.quiet);
      no_memory_refusal = λ e. cc;
    }
halts-answered n most m k Memory new halts once =
    record { kept = halts.kept; checked = answer-memory n most m.shelf.rest; too_long = λ e. absurd cc; read = λ e. absurd cc; quiet = inr (not-read (λ e. cc) halts.quiet); no_memory_refusal = λ e. cc }
halts-answered n most m k (Refused (Text f)) new halts once = record {
  kept = halts.kept;
  checked = answer-faulty n most m.shelf.rest k.reader k.shelf.rest f (subst (λ (r : Reader). FailsLater r m.shelf.rest k.reader k.shelf.rest f) new halts.cause);
  too_long = λ e. absurd cc;
  read = λ e. absurd cc;
  quiet = inr (not-read (λ e. cc) halts.quiet);
  no_memory_refusal = λ e. cc;
}
halts-answered n most m k (Refused _) new halts once = absurd once

-- ---- what waits for the end

-- a cause that a certificate gives
pub cause-found : (P : List Field → Refusal → Type 0) (m k : Moment) (r : Refusal) → ((f : TextFault) → r ≢ Text f) → IsCause P m k (Refused r) → Found P m k r × (r ≢ NoMemory)
cause-found P m k (Text f) other cause = absurd (other f refl)
cause-found P m k NoMemory other cause = absurd cause
cause-found P m k _ other cause = (cause, λ e. cc)

abbrev refusing : Refusal → Result Claim StreamRefusal
refusing r = Err (Refused r)

memory-free : (r : Refusal) → r ≢ NoMemory → refusing r ≢ refusing NoMemory
memory-free r other e = let same : r ≡ NoMemory = cc in other same

-- any answer but a cause that a certificate gives comes at once
pub other-at-once : (r : StreamRefusal) → ((c : Refusal) → r ≢ Refused c) → IsAtOnce r
other-at-once Read other = tt
other-at-once TooLong other = tt
other-at-once Memory other = tt
other-at-once (Refused c) other = absurd (other c refl)

pub found-answered : (n : Net) (most : ℕ) (m k q : Moment) (r : Refusal) → m.reader ≡ fresh most → Found (IsRefusedFront n) m k r → r ≢ NoMemory → Keeps k.shelf q.shelf
    → q.shelf.faults ≡ k.shelf.faults → Finished k.reader k.shelf.rest q.reader q.shelf.rest → IsAnswered n most m q (Err (Refused r))
found-answered n most m k q r new found other kept quiet done =
    let items : List Field = found.items ++ done.items in
    let ran : Ran (fresh most) m.shelf.rest q.reader q.shelf.rest items = subst (λ (x : Reader). Ran x m.shelf.rest q.reader q.shelf.rest items) new (ran-then found.items done.items found.run.ran done.ran) in
    let text : IsTextOf most m.shelf.rest ran.took.taken items = run-ends most m.shelf.rest q.reader q.shelf.rest items ran done.state (done.whole (λ over. absurd (found.going over))) in
    let going = memory-free r other in
    record {
      kept = keeps-then found.run.kept kept;
      checked = answer-refused n most m.shelf.rest ran.took.taken items r text (found.found text.cert done.items text.is text.items_are);
      too_long = λ e. absurd cc;
      read = λ e. absurd cc;
      quiet = inr (quiet ∙ found.run.quiet);
      no_memory_refusal = going;
    }

fault-at-once : (fault : ItemFault) → IsAtOnce (of_fault fault)
fault-at-once faults.Read = tt
fault-at-once faults.TooLong = tt
fault-at-once (faults.Text f) = tt

-- what was answered once the reader was to read to the end
abbrev pub after : Refusal → Result (Unit {0}) ItemFault → StreamRefusal
after r (Ok x) = Refused r
after r (Err fault) = of_fault fault

pub finish-answered : (n : Net) (most : ℕ) (m k q : Moment) (r : Refusal) (result : Result (Unit {0}) ItemFault) → m.reader ≡ fresh most
    → Halts (IsRefusedFront n) m k (Refused r) → ((f : TextFault) → r ≢ Text f) → Keeps k.shelf q.shelf
    → OnOk result (Finished k.reader k.shelf.rest q.reader q.shelf.rest) → ((f : TextFault) → result ≡ Err (faults.Text f) → FailsLater k.reader k.shelf.rest q.reader q.shelf.rest f)
    → (result ≡ Err faults.TooLong → IsMore k.reader.left k.shelf.rest)
    → (result ≡ Err faults.TooLong → TookMore k.reader.left k.shelf.taken q.shelf.taken) → (result ≡ Err faults.Read → Rose k.shelf.faults q.shelf.faults)
    → (result ≡ Err faults.Read) ⊎ (q.shelf.faults ≡ k.shelf.faults) → IsAnswered n most m q (Err (after r result))
finish-answered n most m k q r (Ok x) new halts other kept finished text long more read quiet =
    let found = cause-found (IsRefusedFront n) m k r other halts.cause in
    found-answered n most m k q r new found.0 found.1 kept (told-quiet quiet) finished
finish-answered n most m k q r (Err fault) new halts other kept finished text long more read quiet =
    let found = cause-found (IsRefusedFront n) m k r other halts.cause in
    halts-answered n most m q (of_fault fault) new
    (failed-halts (IsRefusedFront n) m q fault (failed-then m k q found.0.items fault found.0.run
    record {
      kept = kept;
      why = why fault (λ f e. text f (ap (λ (x : ItemFault). failing x) e)) (λ e. long (ap (λ (x : ItemFault). failing x) e))
          (λ e. more (ap (λ (x : ItemFault). failing x) e)) (λ e. read (ap (λ (x : ItemFault). failing x) e));
      quiet = fault-quiet quiet;
    }))
    (fault-at-once fault)
  where
    failing : ItemFault → Result (Unit {0}) ItemFault
    failing x = Err x

    why : (fault : ItemFault) → ((f : TextFault) → fault ≡ faults.Text f → FailsLater k.reader k.shelf.rest q.reader q.shelf.rest f) → (fault ≡ faults.TooLong → IsMore k.reader.left k.shelf.rest)
        → (fault ≡ faults.TooLong → TookMore k.reader.left k.shelf.taken q.shelf.taken) → (fault ≡ faults.Read → Rose k.shelf.faults q.shelf.faults) → IsWhy k q fault
    why faults.Read text long more read = read refl
    why faults.TooLong text long more read = (long refl, more refl)
    why (faults.Text f) text long more read = text f refl

-- ---- a whole certificate

pub walked-room : (n : Net) (m k : Moment) (w : Walked) → IsWalked n m k w → IsLimited n → unsigned_abs (reach_bound n) ≤ 256 * 10 ^ 24 → HasRoom w.cost w.bound
walked-room n m k w is limited reach =
    has-room n (tree_with is.is.list is.is.lines) (shown_claim w.claim) w.cost w.bound limited reach is.is.tree.tree is.is.tree.bound_is is.is.cost_is

module _ (n : Net) (most : ℕ) (m k : Moment) (w : Walked) (new : m.reader ≡ fresh most) (is : IsWalked n m k w) where
  -- the certificate that was read
  abbrev cert : Cert
  cert = record { shape = counts_of n; claim = shown_claim w.claim; splits = is.is.list; proofs = is.is.lines }

  ran_all : Ran (fresh most) m.shelf.rest k.reader k.shelf.rest is.items
  ran_all = subst (λ (x : Reader). Ran x m.shelf.rest k.reader k.shelf.rest is.items) new is.run.ran

  text_all : IsTextOf most m.shelf.rest ran_all.took.taken is.items
  text_all = run-ends most m.shelf.rest k.reader k.shelf.rest is.items ran_all is.over is.at_end

  same_cert : text_all.cert ≡ cert
  same_cert = items-same text_all.cert cert text_all.is is.is.fits (text_all.items_are ∙ is.is.items_are)

  pub valid-answered : IsLimited n → AreClaimed w.cost w.bound (shown_claim w.claim) → IsAnswered n most m k (Ok w.claim)
  valid-answered limited right =
      let valid : IsValid n cert = valid-is n cert w.cost w.bound refl is.is.cost_is is.is.tree right in
      record {
        kept = is.run.kept;
        checked = answer-valid n most m.shelf.rest ran_all.took.taken is.items w.claim limited text_all (subst (IsValid n) (sym same_cert) valid) (ap (λ (c : Cert). c.claim) (sym same_cert));
        too_long = λ e. absurd cc;
        read = λ e. absurd cc;
        quiet = inr is.run.quiet;
        no_memory_refusal = λ e. cc;
      }

  wrong_answered : (r : Refusal) → IsFirstRefusal n cert r → refusing r ≢ refusing NoMemory → IsAnswered n most m k (Err (Refused r))
  wrong_answered r first other = record {
    kept = is.run.kept;
    checked = answer-refused n most m.shelf.rest ran_all.took.taken is.items r text_all (subst (λ (c : Cert). IsFirstRefusal n c r) (sym same_cert) first);
    too_long = λ e. absurd cc;
    read = λ e. absurd cc;
    quiet = inr is.run.quiet;
    no_memory_refusal = other;
  }

  pub claim-answered : (r : Refusal) → IsClaimRefusal w.cost w.bound (shown_claim w.claim) r → IsAnswered n most m k (Err (of_refusal r))
  claim-answered r wrong = cases r wrong (claim-refused n cert w.cost w.bound r refl is.is.cost_is is.is.tree wrong)
    where
      cases : (r : Refusal) → IsClaimRefusal w.cost w.bound (shown_claim w.claim) r → IsFirstRefusal n cert r → IsAnswered n most m k (Err (of_refusal r))
      cases WrongKind wrong first = wrong_answered WrongKind first (λ e. cc)
      cases WrongCost wrong first = wrong_answered WrongCost first (λ e. cc)
      cases WrongBound wrong first = wrong_answered WrongBound first (λ e. cc)
      cases WrongGap wrong first = wrong_answered WrongGap first (λ e. cc)
      cases _ wrong first = absurd wrong
