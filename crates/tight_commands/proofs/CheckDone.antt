-- From the check of a text of marks to what `checktight` prints, and how it ends.
use Rattle.std.proofs.Common.{◌≡◌, ◌≢◌, ◌⊎◌, ℕ, ◌<◌, ◌≤◌, inl, inr, List, length, Option, Result, Ok, Err, refl, sym, ap, subst, ◌∙◌, arith}
use Rattle.edge_io.specs.Counts.{Grows, Rose}
use Rattle.shelf_calls.specs.Files.{HasFile, IsTooLong}
use Rattle.shelf_calls.specs.Told.{ShelfTold}
use Rattle.shelf_calls.specs.declared.fault.ShelfFault.{ShelfFault}
use Rattle.shelf_calls.specs.declared.fault.ShelfFault.TheVariants as shelf
use Rattle.pool_model.specs.Network.{Net, Network, net_of}
use Rattle.cert_format.specs.Cert.{Cert}
use Rattle.cert_format.specs.Valid.{tree_of}
use Rattle.cert_lengths.specs.Lengths.{most_bytes}
use Rattle.run_status.specs.Reads.{Files, ReadsUnder}
use Rattle.run_status.specs.Took.{printed_by, Took}
use Rattle.run_status.specs.declared.status.Status.{Status}
use Rattle.run_status.specs.declared.status.Status.TheVariants as statuses
use Rattle.run_status.proofs.Parts.{took-part}
use Rattle.tight_texts.specs.declared.marks.TightText.{TightText}
use Rattle.tight_checks.specs.Holding.{Holds}
use Rattle.tight_checks.specs.Refusals.{IsAccepted, Spells}
use Rattle.tight_checks.specs.Showing.{AreBest, HoldsForPlans}
use Rattle.tight_checks.specs.declared.refusal.TightRefusal.{TightRefusal}
use Rattle.tight_checks.specs.declared.refusal.TightRefusal.TheVariants as refusals
use Rattle.tight_checks.specs.declared.verdict.TightVerdict.{TightVerdict}
use Rattle.tight_commands.specs.Certified.{CertifiedIn, IsUncertified, RefusedTextIn, RefusesIn, uncertified_status}
use Rattle.tight_commands.specs.Marked.{most_text}
use Rattle.tight_commands.specs.CheckTightEnds.{AcceptsMarks, CheckTightEnds, CheckTightWants, ChecksTightAs, HoldsIn, MarksLineOn, TextIn, TextUnder}
use Rattle.tight_commands.specs.CheckTightEnds.{check_tight_status, unread_text_status}
use Rattle.tight_commands.specs.Lines.{accepted_tight_line}
use Rattle.tight_commands.specs.TextEnds.{IsFileJudged, IsTextJudged, IsToldAs, TextEnds, TextLineIn}
use Rattle.tight_commands.specs.declared.certified.Uncertified.{Uncertified}
use Rattle.tight_commands.specs.declared.certified.Uncertified.TheVariants.{Refused, TooLong, Failed, Memory, Unwritten}
use Rattle.tight_commands.specs.declared.checking.CheckTightOutcome.{CheckTightOutcome}
use Rattle.tight_commands.specs.declared.checking.CheckTightOutcome.TheVariants as outcomes
use Rattle.tight_commands.proofs.Certificates.{checks-as, long-from, memory-is, refuses-under, under}

-- ---- a text that is judged

-- marks that are refused, for another cause than want of memory, don't hold
refused-fail : (n : Net) (c : Cert) (bytes : List ℕ) (refusal : TightRefusal) → refusal ≢ refusals.Memory
    → ((text : TightText) → Spells bytes text → Holds n (tree_of c) text → refusal ≡ refusals.Memory) → ¬ HoldsIn n c bytes
refused-fail n c bytes refusal own taken h = own (taken h.0 h.1 h.2)

pub told-judged : (n : Net) (c : Cert) (bytes : List ℕ) (refusal : TightRefusal) (outcome : CheckTightOutcome)
    → ((text : TightText) → Spells bytes text → Holds n (tree_of c) text → refusal ≡ refusals.Memory) → IsToldAs refusal outcome → IsTextJudged n c bytes outcome
told-judged n c bytes refusal outcomes.Accepted taken told = absurd told
told-judged n c bytes refusal (outcomes.Refused other) taken told = refused-fail n c bytes refusal told.1 taken
told-judged n c bytes refusal (outcomes.Unread why) taken told = absurd told
told-judged n c bytes refusal (outcomes.Uncertified why) taken told = absurd told
told-judged n c bytes refusal (outcomes.TextUnread fault) taken told = absurd told
told-judged n c bytes refusal outcomes.Memory taken told = tt
told-judged n c bytes refusal outcomes.WriteFault taken told = tt

-- the line of marks that are accepted
pub accepts : (n : Net) (c : Cert) (bytes : List ℕ) (verdict : TightVerdict) → IsAccepted n (tree_of c) bytes verdict → HoldsForPlans n verdict.bound
    → ((text : TightText) → Spells bytes text → AreBest n (tree_of c) text) → AcceptsMarks n c bytes (accepted_tight_line verdict)
accepts n c bytes verdict is plans best = record {
  marks = is.text;
  spelled = is.spelled;
  holds = is.holds;
  verdict = verdict;
  counted = is.verdict_is;
  plans = plans;
  best = best is.text is.spelled;
  told = refl;
}

pub judged-not-read : (n : Net) (c : Cert) (bytes : List ℕ) (outcome : CheckTightOutcome) → IsTextJudged n c bytes outcome → check_tight_status outcome ≢ statuses.ReadFault
judged-not-read n c bytes outcomes.Accepted h e = cc
judged-not-read n c bytes (outcomes.Refused refusal) h e = cc
judged-not-read n c bytes (outcomes.Unread why) h e = absurd h
judged-not-read n c bytes (outcomes.Uncertified why) h e = absurd h
judged-not-read n c bytes (outcomes.TextUnread fault) h e = absurd h
judged-not-read n c bytes outcomes.Memory h e = cc
judged-not-read n c bytes outcomes.WriteFault h e = cc

-- ---- the text in a file

pub judged-ends : (files : Option Files) (name : List ℕ) (n : Net) (c : Cert) (bytes : List ℕ) (before after : ℕ) (outcome : CheckTightOutcome) → TextIn files name bytes
    → IsTextJudged n c bytes outcome → TextEnds files name n c before after outcome
judged-ends files name n c bytes before after outcomes.Accepted file h = (bytes, file, h)
judged-ends files name n c bytes before after (outcomes.Refused refusal) file h = (bytes, file, h)
judged-ends files name n c bytes before after (outcomes.Unread why) file h = absurd h
judged-ends files name n c bytes before after (outcomes.Uncertified why) file h = absurd h
judged-ends files name n c bytes before after (outcomes.TextUnread fault) file h = absurd h
judged-ends files name n c bytes before after outcomes.Memory file h = (bytes, file, h)
judged-ends files name n c bytes before after outcomes.WriteFault file h = (bytes, file, h)

pub unread-ends : (files : Option Files) (name : List ℕ) (n : Net) (c : Cert) (before after : ℕ) (fault : ShelfFault) → (fault ≡ shelf.TooLong → IsTooLong files name most_text before after)
    → TextEnds files name n c before after (outcomes.TextUnread fault)
unread-ends files name n c before after shelf.Failed long = tt
unread-ends files name n c before after shelf.TooLong long = long refl
unread-ends files name n c before after shelf.Memory long = tt

-- nothing was printed
pub took-unread : (Answer : Status → List ℕ → Type 0) (fault : ShelfFault) (taken : Option (List ℕ)) → Took Answer (unread_text_status fault) taken taken
took-unread Answer shelf.Failed taken = refl
took-unread Answer shelf.TooLong taken = refl
took-unread Answer shelf.Memory taken = refl

pub failed-is : (fault : ShelfFault) → unread_text_status fault ≡ statuses.ReadFault → fault ≡ shelf.Failed
failed-is shelf.Failed e = refl
failed-is shelf.TooLong e = absurd (cc)
failed-is shelf.Memory e = absurd (cc)

pub want-is : (fault : ShelfFault) → unread_text_status fault ≡ statuses.OutOfMemory → fault ≡ shelf.Memory
want-is shelf.Failed e = absurd (cc)
want-is shelf.TooLong e = absurd (cc)
want-is shelf.Memory e = refl

pub unread-not-written : (fault : ShelfFault) → unread_text_status fault ≢ statuses.WriteFault
unread-not-written shelf.Failed e = cc
unread-not-written shelf.TooLong e = cc
unread-not-written shelf.Memory e = cc

pub took-text : (files : Option Files) (name : List ℕ) (n : Net) (c : Cert) (bytes : List ℕ) (status : Status) (old new : Option (List ℕ)) → TextIn files name bytes
    → Took (MarksLineOn n c bytes) status old new → Took (TextLineIn files name n c) status old new
took-text files name n c bytes status old new file took =
    took-part (MarksLineOn n c bytes) (TextLineIn files name n c) (λ s text line. (bytes, file, line)) (printed_by status) status old new took

-- ---- under the names of a network, a certificate and a text

module _ (files : Option Files) (net cert tight : List ℕ) (network : Network) (reads : ReadsUnder files net network) where
  text-under : (c : Cert) (bytes : List ℕ) → CertifiedIn files cert (net_of network) c → TextIn files tight bytes → TextUnder files net cert tight network c bytes
  text-under c bytes h file = record { certified = under files net cert network reads c h; text = file }

  -- what was printed of a text of marks
  pub took-certified : (c : Cert) (status : Status) (old new : Option (List ℕ)) → CertifiedIn files cert (net_of network) c → Took (TextLineIn files tight (net_of network) c) status old new
      → Took (ChecksTightAs files net cert tight) status old new
  took-certified c status old new h took = took-part (TextLineIn files tight (net_of network) c) (ChecksTightAs files net cert tight) line (printed_by status) status old new took
    where
      line : (status : Status) (text : List ℕ) → TextLineIn files tight (net_of network) c status text → ChecksTightAs files net cert tight status text
      line (statuses.Refused refusal) text is = absurd is.2
      line status text is = (network, (c, (is.0, text-under c is.0 h is.1, is.2)))

  -- what was printed of a certificate that is refused
  pub took-uncertified : (status : Status) (old new : Option (List ℕ)) → Took (RefusedTextIn files cert (net_of network)) status old new → Took (ChecksTightAs files net cert tight) status old new
  took-uncertified status old new took = took-part (RefusedTextIn files cert (net_of network)) (ChecksTightAs files net cert tight) line (printed_by status) status old new took
    where
      line : (status : Status) (text : List ℕ) → RefusedTextIn files cert (net_of network) status text → ChecksTightAs files net cert tight status text
      line (statuses.Refused refusal) text is = checks-as files net cert network reads refusal text is.0 is.1
      line status text is = absurd is

  unread-under : (c : Cert) (start before after : ℕ) (fault : ShelfFault) → CertifiedIn files cert (net_of network) c → Grows start before
      → TextEnds files tight (net_of network) c before after (outcomes.TextUnread fault) → CheckTightEnds files net cert tight start after (unread_text_status fault)
  unread-under c start before after shelf.Failed h grows ends = tt
  unread-under c start before after shelf.TooLong h grows ends = inr record {
    network = network;
    certificate = c;
    certified = under files net cert network reads c h;
    more = long-from files tight most_text start before after grows ends;
  }
  unread-under c start before after shelf.Memory h grows ends = tt

  pub ends-certified : (c : Cert) (start before after : ℕ) (outcome : CheckTightOutcome) → CertifiedIn files cert (net_of network) c → Grows start before
      → TextEnds files tight (net_of network) c before after outcome → CheckTightEnds files net cert tight start after (check_tight_status outcome)
  ends-certified c start before after outcomes.Accepted h grows ends =
      record { network = network; certificate = c; bytes = ends.0; read = text-under c ends.0 h ends.1; hold = ends.2 }
  ends-certified c start before after (outcomes.Refused refusal) h grows ends =
      record { network = network; certificate = c; bytes = ends.0; read = text-under c ends.0 h ends.1; fail = ends.2 }
  ends-certified c start before after (outcomes.Unread why) h grows ends = absurd ends.2
  ends-certified c start before after (outcomes.Uncertified why) h grows ends = absurd ends.2
  ends-certified c start before after (outcomes.TextUnread fault) h grows ends = unread-under c start before after fault h grows ends
  ends-certified c start before after outcomes.Memory h grows ends = tt
  ends-certified c start before after outcomes.WriteFault h grows ends =
      inr record { network = network; certificate = c; bytes = ends.0; read = text-under c ends.0 h ends.1 }

  pub ends-uncertified : (start : ℕ) (before after : ShelfTold) (why : Uncertified) → files ≡ before.files → Grows start before.taken → IsUncertified (net_of network) cert before after why
      → CheckTightEnds files net cert tight start after.taken (uncertified_status why)
  ends-uncertified start before after (Refused refusal) is grows h =
      refuses-under files net cert network reads refusal (subst (λ f. RefusesIn f cert (net_of network) refusal) (sym is) h)
  ends-uncertified start before after TooLong is grows h = inl record {
    network = network;
    reads = reads;
    more = long-from files cert most_bytes start before.taken after.taken grows (subst (λ f. IsTooLong f cert most_bytes before.taken after.taken) (sym is) h);
  }
  ends-uncertified start before after Failed is grows h = tt
  ends-uncertified start before after Memory is grows h = tt
  ends-uncertified start before after Unwritten is grows h =
      inl (refuses-under files net cert network reads h.0 (subst (λ f. RefusesIn f cert (net_of network) h.0) (sym is) h.1))

  pub wants-certified : (c : Cert) (before after : ℕ) (outcome : CheckTightOutcome) → CertifiedIn files cert (net_of network) c
      → TextEnds files tight (net_of network) c before after outcome → check_tight_status outcome ≡ statuses.OutOfMemory → CheckTightWants files net cert tight outcome
  wants-certified c before after outcomes.Accepted h ends e = absurd (cc)
  wants-certified c before after (outcomes.Refused refusal) h ends e = absurd (cc)
  wants-certified c before after (outcomes.Unread why) h ends e = absurd ends.2
  wants-certified c before after (outcomes.Uncertified why) h ends e = absurd ends.2
  wants-certified c before after (outcomes.TextUnread fault) h ends e = (want-is fault e, (network, (c, under files net cert network reads c h)))
  wants-certified c before after outcomes.Memory h ends e =
      record { network = network; certificate = c; bytes = ends.0; read = text-under c ends.0 h ends.1 }
  wants-certified c before after outcomes.WriteFault h ends e = absurd (cc)

  pub wants-uncertified : (why : Uncertified) → uncertified_status why ≡ statuses.OutOfMemory → CheckTightWants files net cert tight (outcomes.Uncertified why)
  wants-uncertified why e = (memory-is why e, record { network = network; reads = reads })
