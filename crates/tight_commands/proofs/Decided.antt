-- What the told files decide of `tight` and of `checktight`.
use Rattle.std.proofs.Common.{◌≡◌, ◌⊎◌, ℕ, ◌<◌, ◌≤◌, inl, inr, List, length, Option, Some, refl, sym, ap, subst, arith}
use Rattle.shelf_calls.specs.Files.{file_of}
use Rattle.pool_model.specs.Network.{Network, net_of}
use Rattle.cert_format.specs.Cert.{Cert}
use Rattle.json_walk.specs.declared.fault.ReadNet.{ReadNet}
use Rattle.certificate_commands.specs.CheckEnds.{IsAcceptance, IsDenial, LongUnder}
use Rattle.run_status.specs.Reads.{Files, IsRefusedAs, ReadsNone, ReadsUnder}
use Rattle.run_status.specs.Took.{IsCutShort, IsNetworkRefused}
use Rattle.run_status.specs.declared.status.Status.{Status}
use Rattle.run_status.specs.declared.status.Status.TheVariants as statuses
use Rattle.run_status.proofs.Networks.{refused_unread, some_same}
use Rattle.tight_commands.specs.Certified.{CertifiedUnder, UncertifiedUnder}
use Rattle.tight_commands.specs.CheckTightEnds.{CheckTightDecided, CheckTightEnds, HoldsIn, IsTightDenial, LongTextUnder, MarksFailUnder, MarksHoldUnder, SomeTextUnder, TextUnder}
use Rattle.tight_commands.specs.Marked.{most_pivots, most_size, size_of}
use Rattle.tight_commands.specs.TightEnds.{IsWritten, LargeUnder, MarkEnds, MarksUnder, TightDecided, TightEnds}
use Rattle.tight_commands.proofs.Certificates.{certified-not-long, certified-or-not, one-certified, uncertified-not-long}

-- what is decided where no more pivots are asked for than may be
record MarkDecided (told : Files) (net cert : List ℕ) (status : Status) : Type 0 where
  no_network : ReadsNone told net → IsNetworkRefused status ⊎ IsCutShort status
  too_long : (before after : ℕ) → LongUnder (Some told) net cert before after → (status ≡ statuses.CertTooLong) ⊎ IsCutShort status
  invalid : UncertifiedUnder (Some told) net cert → IsDenial status ⊎ IsCutShort status
  large : LargeUnder (Some told) net cert → (status ≡ statuses.BudgetTooLarge) ⊎ IsCutShort status
  marked : MarksUnder (Some told) net cert → IsWritten status ⊎ IsCutShort status

module _ (told : Files) (net cert : List ℕ) where
  refused : (cause : ReadNet) (before after : ℕ) (n : Network) → IsRefusedAs (Some told) net before after cause → ReadsUnder (Some told) net n → ⊥
  refused cause before after n h reads = refused_unread told net cause n h.own (h.told told refl) reads

  -- a tree is too large, or it is not
  large-or-not : LargeUnder (Some told) net cert → MarksUnder (Some told) net cert → ⊥
  large-or-not l m =
      let one = one-certified told net cert l.network m.network l.certificate m.certificate l.certified m.certified in
      let above : most_size < size_of (net_of m.network) m.certificate =
      subst (λ c. most_size < size_of (net_of m.network) c) one.1 (subst (λ k. most_size < size_of (net_of k) l.certificate) one.0 l.above) in
      omega (arith, above, m.within)

  cut : (status : Status) → IsCutShort status → MarkDecided told net cert status
  cut status h = record { no_network = λ _. inr h; too_long = λ b a _. inr h; invalid = λ _. inr h; large = λ _. inr h; marked = λ _. inr h }

  -- marks were printed, or the sink failed
  written : (status : Status) → IsWritten status → MarksUnder (Some told) net cert → MarkDecided told net cert status
  written status is h = record {
    no_network = λ none. absurd (none h.network h.certified.reads);
    too_long = λ b a l. absurd (certified-not-long told net cert h.network h.certificate b a h.certified l);
    invalid = λ u. absurd (certified-or-not told net cert h.network h.certificate h.certified u);
    large = λ l. absurd (large-or-not l h);
    marked = λ _. inl is;
  }

  -- the certificate was refused, or the sink failed
  denied : (status : Status) → IsDenial status → UncertifiedUnder (Some told) net cert → MarkDecided told net cert status
  denied status is h = record {
    no_network = λ none. absurd (none h.network h.read.reads);
    too_long = λ b a l. absurd (uncertified-not-long told net cert b a h l);
    invalid = λ _. inl is;
    large = λ l. absurd (certified-or-not told net cert l.network l.certificate l.certified h);
    marked = λ m. absurd (certified-or-not told net cert m.network m.certificate m.certified h);
  }

  mark-decided : (before after : ℕ) (status : Status) → MarkEnds (Some told) net cert before after status → MarkDecided told net cert status
  mark-decided before after statuses.Done h = written statuses.Done tt h
  mark-decided before after (statuses.Refused refusal) h = denied (statuses.Refused refusal) tt h
  mark-decided before after statuses.WriteFault (inl h) = denied statuses.WriteFault tt h
  mark-decided before after statuses.WriteFault (inr h) = written statuses.WriteFault tt h
  mark-decided before after statuses.BudgetTooLarge h = record {
    no_network = λ none. absurd (none h.network h.certified.reads);
    too_long = λ b a l. absurd (certified-not-long told net cert h.network h.certificate b a h.certified l);
    invalid = λ u. absurd (certified-or-not told net cert h.network h.certificate h.certified u);
    large = λ _. inl refl;
    marked = λ m. absurd (large-or-not h m);
  }
  mark-decided before after statuses.CertTooLong h = record {
    no_network = λ none. absurd (none h.network h.reads);
    too_long = λ b a l. inl refl;
    invalid = λ u. absurd (uncertified-not-long told net cert before after u h);
    large = λ l. absurd (certified-not-long told net cert l.network l.certificate before after l.certified h);
    marked = λ m. absurd (certified-not-long told net cert m.network m.certificate before after m.certified h);
  }
  mark-decided before after (statuses.NetworkRefused cause) h = record {
    no_network = λ none. inl tt;
    too_long = λ b a l. absurd (refused cause before after l.network h l.reads);
    invalid = λ u. absurd (refused cause before after u.network h u.read.reads);
    large = λ l. absurd (refused cause before after l.network h l.certified.reads);
    marked = λ m. absurd (refused cause before after m.network h m.certified.reads);
  }
  mark-decided before after statuses.ReadFault h = cut statuses.ReadFault tt
  mark-decided before after statuses.OutOfMemory h = cut statuses.OutOfMemory tt
  mark-decided before after status h = absurd h

  decided-tight : (pivots before after : ℕ) (status : Status) → TightEnds (Some told) net cert pivots before after status → TightDecided told net cert pivots status
  decided-tight pivots before after status h = record {
    above = h.above;
    no_network = λ le. (mark-decided before after status (h.within le)).no_network;
    too_long = λ le. (mark-decided before after status (h.within le)).too_long;
    invalid = λ le. (mark-decided before after status (h.within le)).invalid;
    large = λ le. (mark-decided before after status (h.within le)).large;
    marked = λ le. (mark-decided before after status (h.within le)).marked;
  }

pub tight_decided : (files : Option Files) (told : Files) (net cert : List ℕ) (pivots before after : ℕ) (status : Status) → files ≡ Some told
    → TightEnds files net cert pivots before after status → TightDecided told net cert pivots status
tight_decided files told net cert pivots before after status is h =
    decided-tight told net cert pivots before after status (subst (λ f. TightEnds f net cert pivots before after status) is h)

-- ---- of `checktight`

module _ (told : Files) (net cert tight : List ℕ) where
  -- two readings of the files are of one network, one certificate and one text
  text-not-long : (m : Network) (c : Cert) (bytes : List ℕ) (before after : ℕ) → TextUnder (Some told) net cert tight m c bytes → LongTextUnder (Some told) net cert tight before after → ⊥
  text-not-long m c bytes before after h l =
      let same = some_same (file_of told tight) bytes l.more.bytes h.text.file l.more.are in
      omega (arith, l.more.more, h.text.short, ap (λ (b : List ℕ). length b) same)

  hold-or-fail : MarksHoldUnder (Some told) net cert tight → MarksFailUnder (Some told) net cert tight → ⊥
  hold-or-fail h f =
      let one = one-certified told net cert h.network f.network h.certificate f.certificate h.read.certified f.read.certified in
      let bytes = some_same (file_of told tight) h.bytes f.bytes h.read.text.file f.read.text.file in
      f.fail (subst (λ b. HoldsIn (net_of f.network) f.certificate b) bytes
      (subst (λ c. HoldsIn (net_of f.network) c h.bytes) one.1 (subst (λ k. HoldsIn (net_of k) h.certificate h.bytes) one.0 h.hold)))

  cut-check : (status : Status) → IsCutShort status → CheckTightDecided told net cert tight status
  cut-check status h = record { no_network = λ _. inr h; too_long = λ b a _. inr h; invalid = λ _. inr h; long_text = λ b a _. inr h; hold = λ _. inr h; fail = λ _. inr h }

  -- the certificate was refused, or the sink failed
  denied-check : (status : Status) → IsDenial status → UncertifiedUnder (Some told) net cert → CheckTightDecided told net cert tight status
  denied-check status is h = record {
    no_network = λ none. absurd (none h.network h.read.reads);
    too_long = λ b a l. absurd (uncertified-not-long told net cert b a h l);
    invalid = λ _. inl is;
    long_text = λ b a l. absurd (certified-or-not told net cert l.network l.certificate l.certified h);
    hold = λ m. absurd (certified-or-not told net cert m.network m.certificate m.read.certified h);
    fail = λ m. absurd (certified-or-not told net cert m.network m.certificate m.read.certified h);
  }

  -- a text was read
  judged-check : (status : Status) (h : SomeTextUnder (Some told) net cert tight) → (MarksHoldUnder (Some told) net cert tight → IsAcceptance status ⊎ IsCutShort status)
      → (MarksFailUnder (Some told) net cert tight → IsTightDenial status ⊎ IsCutShort status) → CheckTightDecided told net cert tight status
  judged-check status h hold fail = record {
    no_network = λ none. absurd (none h.network h.read.certified.reads);
    too_long = λ b a l. absurd (certified-not-long told net cert h.network h.certificate b a h.read.certified l);
    invalid = λ u. absurd (certified-or-not told net cert h.network h.certificate h.read.certified u);
    long_text = λ b a l. absurd (text-not-long h.network h.certificate h.bytes b a h.read l);
    hold = hold;
    fail = fail;
  }

  decided-check : (before after : ℕ) (status : Status) → CheckTightEnds (Some told) net cert tight before after status → CheckTightDecided told net cert tight status
  decided-check before after statuses.Accepted h =
      judged-check statuses.Accepted record { network = h.network; certificate = h.certificate; bytes = h.bytes; read = h.read } (λ _. inl tt) (λ f. absurd (hold-or-fail h f))
  decided-check before after (statuses.TightRefused refusal) h =
      judged-check (statuses.TightRefused refusal) record { network = h.network; certificate = h.certificate; bytes = h.bytes; read = h.read }
      (λ k. absurd (hold-or-fail k h)) (λ _. inl tt)
  decided-check before after (statuses.Refused refusal) h = denied-check (statuses.Refused refusal) tt h
  decided-check before after statuses.WriteFault (inl h) = denied-check statuses.WriteFault tt h
  decided-check before after statuses.WriteFault (inr h) = judged-check statuses.WriteFault h (λ _. inl tt) (λ _. inl tt)
  decided-check before after statuses.CertTooLong (inl h) = record {
    no_network = λ none. absurd (none h.network h.reads);
    too_long = λ b a l. inl refl;
    invalid = λ u. absurd (uncertified-not-long told net cert before after u h);
    long_text = λ b a l. inl refl;
    hold = λ m. absurd (certified-not-long told net cert m.network m.certificate before after m.read.certified h);
    fail = λ m. absurd (certified-not-long told net cert m.network m.certificate before after m.read.certified h);
  }
  decided-check before after statuses.CertTooLong (inr h) = record {
    no_network = λ none. absurd (none h.network h.certified.reads);
    too_long = λ b a l. inl refl;
    invalid = λ u. absurd (certified-or-not told net cert h.network h.certificate h.certified u);
    long_text = λ b a l. inl refl;
    hold = λ m. absurd (text-not-long m.network m.certificate m.bytes before after m.read h);
    fail = λ m. absurd (text-not-long m.network m.certificate m.bytes before after m.read h);
  }
  decided-check before after (statuses.NetworkRefused cause) h = record {
    no_network = λ none. inl tt;
    too_long = λ b a l. absurd (refused told net cert cause before after l.network h l.reads);
    invalid = λ u. absurd (refused told net cert cause before after u.network h u.read.reads);
    long_text = λ b a l. absurd (refused told net cert cause before after l.network h l.certified.reads);
    hold = λ m. absurd (refused told net cert cause before after m.network h m.read.certified.reads);
    fail = λ m. absurd (refused told net cert cause before after m.network h m.read.certified.reads);
  }
  decided-check before after statuses.ReadFault h = cut-check statuses.ReadFault tt
  decided-check before after statuses.OutOfMemory h = cut-check statuses.OutOfMemory tt
  decided-check before after status h = absurd h

pub check_tight_decided : (files : Option Files) (told : Files) (net cert tight : List ℕ) (before after : ℕ) (status : Status) → files ≡ Some told
    → CheckTightEnds files net cert tight before after status → CheckTightDecided told net cert tight status
check_tight_decided files told net cert tight before after status is h =
    decided-check told net cert tight before after status (subst (λ f. CheckTightEnds f net cert tight before after status) is h)
