-- What the told files decide of `check`, and so of `report`.
use Rattle.std.proofs.Common.{◌≡◌, ℕ, ◌≤◌, inl, inr, List, length, Option, Some, refl, ap, subst, arith}
use Rattle.shelf_calls.specs.Files.{file_of, HasFile}
use Rattle.pool_model.specs.Network.{Network, net_of}
use Rattle.cert_format.specs.Cert.{Cert}
use Rattle.cert_format.specs.Valid.{IsValid}
use Rattle.cert_checker.specs.Answers.{Spells}
use Rattle.cert_lengths.specs.Lengths.{most_bytes}
use Rattle.json_walk.specs.declared.fault.ReadNet.{ReadNet}
use Rattle.run_status.specs.Reads.{Files, IsRefusedAs, ReadsNone, ReadsUnder}
use Rattle.certificate_commands.specs.CheckEnds.{AreRead, CheckDecided, CheckEnds, JudgedUnder, LongUnder}
use Rattle.certificate_commands.specs.ReportEnds.{ReportDecided, ReportEnds, as_check}
use Rattle.run_status.specs.declared.status.Status.{Status}
use Rattle.run_status.specs.declared.status.Status.TheVariants as statuses
use Rattle.run_status.proofs.Networks.{one_network, refused_unread, some_same}

module _ (told : Files) (net cert : List ℕ) where
  one_net : (n m : Network) → ReadsUnder (Some told) net n → ReadsUnder (Some told) net m → n ≡ m
  one_net n m = one_network told net n m

  not_long : (n : Network) (bytes : List ℕ) (before after : ℕ) → AreRead (Some told) net cert n bytes → LongUnder (Some told) net cert before after → ⊥
  not_long n bytes before after r l =
      let same = some_same (file_of told cert) bytes l.more.bytes r.file l.more.are in
      omega (arith, l.more.more, r.short, ap (λ (b : List ℕ). length b) same)

  -- a file that is short enough is not too long
  pub never_long : (bytes : List ℕ) (before after : ℕ) → HasFile (Some told) cert bytes → length bytes ≤ most_bytes → ¬ CheckEnds (Some told) net cert before after statuses.CertTooLong
  never_long bytes before after file short l =
      let same = some_same (file_of told cert) bytes l.more.bytes file l.more.are in
      omega (arith, l.more.more, short, ap (λ (b : List ℕ). length b) same)

  refused : (cause : ReadNet) (before after : ℕ) (n : Network) → IsRefusedAs (Some told) net before after cause → ReadsUnder (Some told) net n → ⊥
  refused cause before after n h reads = refused_unread told net cause n h.own (h.told told refl) reads

  -- two readings of the files are of one network and one text
  apart : (n m : Network) (b d : List ℕ) (c : Cert) → AreRead (Some told) net cert n b → AreRead (Some told) net cert m d → Spells b c → IsValid (net_of n) c
      → ((c : Cert) → Spells d c → ¬ IsValid (net_of m) c) → ⊥
  apart n m b d c r s spelled valid none =
      let same = some_same (file_of told cert) b d r.file s.file in
      none c (subst (λ x. Spells x c) same spelled) (subst (λ x. IsValid (net_of x) c) (one_net n m r.reads s.reads) valid)

  judged : (s : Status) → JudgedUnder (Some told) net cert s → (ReadsNone told net → ⊥) × ((before after : ℕ) → LongUnder (Some told) net cert before after → ⊥)
  judged s h = (λ none. none h.network h.read.reads, λ before after. not_long h.network h.bytes before after h.read)

  decided_check : (before after : ℕ) (status : Status) → CheckEnds (Some told) net cert before after status → CheckDecided told net cert status
  decided_check before after statuses.Accepted h =
      let j = judged statuses.Accepted h in
      record {
        no_network = λ none. absurd (j.0 none);
        too_long = λ b a l. absurd (j.1 b a l);
        valid = λ v. inl tt;
        invalid = λ v. absurd (apart h.network v.network h.bytes v.bytes h.judged.0 h.read v.read h.judged.1 h.judged.2 v.none);
      }
  decided_check before after (statuses.Refused refusal) h =
      let j = judged (statuses.Refused refusal) h in
      record {
        no_network = λ none. absurd (j.0 none);
        too_long = λ b a l. absurd (j.1 b a l);
        valid = λ v. absurd (apart v.network h.network v.bytes h.bytes v.certificate v.read h.read v.spelled v.valid h.judged);
        invalid = λ v. inl tt;
      }
  decided_check before after statuses.WriteFault h =
      let j = judged statuses.WriteFault h in
      record { no_network = λ none. absurd (j.0 none); too_long = λ b a l. absurd (j.1 b a l); valid = λ v. inl tt; invalid = λ v. inl tt }
  decided_check before after statuses.CertTooLong h = record {
    no_network = λ none. absurd (none h.network h.reads);
    too_long = λ b a l. inl refl;
    valid = λ v. absurd (not_long v.network v.bytes before after v.read h);
    invalid = λ v. absurd (not_long v.network v.bytes before after v.read h);
  }
  decided_check before after (statuses.NetworkRefused cause) h = record {
    no_network = λ none. inl tt;
    too_long = λ b a l. absurd (refused cause before after l.network h l.reads);
    valid = λ v. absurd (refused cause before after v.network h v.read.reads);
    invalid = λ v. absurd (refused cause before after v.network h v.read.reads);
  }
  decided_check before after statuses.ReadFault h = record { no_network = λ none. inr tt; too_long = λ b a l. inr tt; valid = λ v. inr tt; invalid = λ v. inr tt }
  decided_check before after statuses.OutOfMemory h = record { no_network = λ none. inr tt; too_long = λ b a l. inr tt; valid = λ v. inr tt; invalid = λ v. inr tt }
  decided_check before after status h = absurd h

pub check_decided : (files : Option Files) (told : Files) (net cert : List ℕ) (before after : ℕ) (status : Status) → files ≡ Some told →
    CheckEnds files net cert before after status → CheckDecided told net cert status
check_decided files told net cert before after status is h = decided_check told net cert before after status (subst (λ f. CheckEnds f net cert before after status) is h)

pub report_decided : (files : Option Files) (told : Files) (net cert : List ℕ) (before after : ℕ) (status : Status) → files ≡ Some told →
    ReportEnds files net cert before after status → ReportDecided told net cert status
report_decided files told net cert before after status is h = check_decided files told net cert before after (as_check status) is h
