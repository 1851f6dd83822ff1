-- What a file says of the certificate that is read from it.
use Rattle.std.proofs.Common.{◌≡◌, ℕ, ◌≤◌, List, length, Option, None, Some, Result, Ok, Err, IfOk, IfErr, inl, inr, refl, sym, ap, subst, arith}
use Rattle.edge_io.specs.Counts.{Grows, Rose}
use Rattle.shelf_calls.specs.Files.{file_of, HasFile, IsTooLong}
use Rattle.shelf_calls.specs.Told.{ShelfTold}
use Rattle.shelf_calls.specs.declared.fault.ShelfFault.{ShelfFault}
use Rattle.shelf_calls.specs.declared.fault.ShelfFault.TheVariants as shelf
use Rattle.pool_model.specs.Network.{Net, Network, net_of}
use Rattle.cert_format.specs.Cert.{Cert}
use Rattle.cert_format.specs.Valid.{IsValid}
use Rattle.cert_format.specs.Views.{shown_cert}
use Rattle.cert_writing.specs.declared.certificate.Certificate.{Certificate}
use Rattle.cert_checker.specs.Answers.{IsAccepted, Spells}
use Rattle.cert_checker.proofs.Streaming.{spelled-same}
use Rattle.cert_lengths.specs.Lengths.{most_bytes}
use Rattle.pool_model.specs.Claim.{Claimed}
use Rattle.proof_lines.specs.declared.refusal.Refusal.{Refusal}
use Rattle.proof_lines.specs.declared.refusal.Refusal.TheVariants as refusals
use Rattle.printed_lines.specs.Verdicts.{refused_line}
use Rattle.certificate_commands.specs.CheckEnds.{AreRead, ChecksAs, LongUnder}
use Rattle.certificate_commands.proofs.Streamed.{refused-invalid}
use Rattle.run_status.specs.Reads.{Files, ReadsUnder}
use Rattle.run_status.specs.Took.{printed_by, Took}
use Rattle.run_status.proofs.Networks.{one_network, some_same}
use Rattle.run_status.proofs.Parts.{took-part}
use Rattle.run_status.specs.declared.status.Status.{Status}
use Rattle.run_status.specs.declared.status.Status.TheVariants as statuses
use Rattle.tight_commands.specs.Certified.{CertifiedIn, CertifiedUnder, Certifies, IsRefusalOf, IsUncertified, RefusedTextIn, RefusedTextOn, RefusesBytes, RefusesIn}
use Rattle.tight_commands.specs.Certified.{UncertifiedUnder, uncertified_by, uncertified_status}
use Rattle.tight_commands.specs.declared.certified.Uncertified.{Uncertified}
use Rattle.tight_commands.specs.declared.certified.Uncertified.TheVariants.{Refused, TooLong, Failed, Memory, Unwritten}

-- ---- of bytes

-- what is spelled is valid where the accepted certificate is
accepted-certifies : (n : Net) (bytes : List ℕ) (claim : Claimed) (c : Cert) → IsAccepted n bytes claim → Spells bytes c → Certifies n bytes c
accepted-certifies n bytes claim c a s = record { spelled = s; valid = subst (IsValid n) (spelled-same bytes a.cert c a.spelled s) a.valid }

pub ok-certifies : (n : Net) (bytes : List ℕ) (claim : Claimed) → IsAccepted n bytes claim → (answer : Result Certificate Uncertified) → IfOk answer (λ c. Spells bytes (shown_cert c))
    → IfOk answer (λ c. Certifies n bytes (shown_cert c))
ok-certifies n bytes claim a (Ok c) s = accepted-certifies n bytes claim (shown_cert c) a s
ok-certifies n bytes claim a (Err why) s = tt

-- want of memory says nothing of the bytes, and has no line
pub want-refusal : (n : Net) (bytes : List ℕ) (answer : Result Certificate Uncertified) → IfErr answer (λ why. why ≡ Memory) → IfErr answer (IsRefusalOf n bytes)
want-refusal n bytes (Ok c) h = tt
want-refusal n bytes (Err why) h = subst (IsRefusalOf n bytes) (sym h) tt

pub want-took : (Answer : Status → List ℕ → Type 0) (taken : Option (List ℕ)) (answer : Result Certificate Uncertified) → IfErr answer (λ why. why ≡ Memory)
    → IfErr answer (λ why. Took Answer (uncertified_status why) taken taken)
want-took Answer taken (Ok c) h = tt
want-took Answer taken (Err why) h = subst (λ w. Took Answer (uncertified_status w) taken taken) (sym h) refl

-- what is refused is of no valid certificate
refuses-none : (n : Net) (bytes : List ℕ) (refusal : Refusal) → RefusesBytes n bytes refusal → (c : Cert) → ¬ Certifies n bytes c
refuses-none n bytes refusal r c h = refused-invalid n bytes refusal r.refused r.own c h.spelled h.valid

-- ---- under names

module _ (files : Option Files) (name : List ℕ) (n : Net) (bytes : List ℕ) (file : HasFile files name bytes) (short : length bytes ≤ most_bytes) where
  -- what the bytes certify the file does
  certified-in : (c : Cert) → Certifies n bytes c → CertifiedIn files name n c
  certified-in c h = record { bytes = bytes; file = file; short = short; certifies = h }

  refuses-in : (refusal : Refusal) → RefusesBytes n bytes refusal → RefusesIn files name n refusal
  refuses-in refusal h = record { bytes = bytes; file = file; short = short; refuses = h }

  took-in : (why : Uncertified) (old new : Option (List ℕ)) → Took (RefusedTextOn n bytes) (uncertified_status why) old new
      → Took (RefusedTextIn files name n) (uncertified_status why) old new
  took-in why old new t = took-part (RefusedTextOn n bytes) (RefusedTextIn files name n) line (printed_by (uncertified_status why)) (uncertified_status why) old new t
    where
      line : (status : Status) (text : List ℕ) → RefusedTextOn n bytes status text → RefusedTextIn files name n status text
      line (statuses.Refused refusal) text h = (refuses-in refusal h.0, h.1)
      line status text h = absurd h

-- why bytes are refused is why the file is
uncertified-in : (name : List ℕ) (n : Net) (bytes : List ℕ) (before after : ShelfTold) (why : Uncertified) → HasFile before.files name bytes → length bytes ≤ most_bytes
    → IsRefusalOf n bytes why → IsUncertified n name before after why
uncertified-in name n bytes before after (Refused refusal) file short h = refuses-in before.files name n bytes file short refusal h
uncertified-in name n bytes before after TooLong file short h = absurd h
uncertified-in name n bytes before after Failed file short h = absurd h
uncertified-in name n bytes before after Memory file short h = tt
uncertified-in name n bytes before after Unwritten file short h = (h.0, refuses-in before.files name n bytes file short h.0 h.1)

-- what was answered on bytes, on the file that they are
pub ok-certified : (files : Option Files) (name : List ℕ) (n : Net) (bytes : List ℕ) → HasFile files name bytes → length bytes ≤ most_bytes → (answer : Result Certificate Uncertified)
    → IfOk answer (λ c. Certifies n bytes (shown_cert c)) → IfOk answer (λ c. CertifiedIn files name n (shown_cert c))
ok-certified files name n bytes file short (Ok c) h = certified-in files name n bytes file short (shown_cert c) h
ok-certified files name n bytes file short (Err why) h = tt

pub err-uncertified : (name : List ℕ) (n : Net) (bytes : List ℕ) (before after : ShelfTold) → HasFile before.files name bytes → length bytes ≤ most_bytes
    → (answer : Result Certificate Uncertified) → IfErr answer (IsRefusalOf n bytes) → IfErr answer (IsUncertified n name before after)
err-uncertified name n bytes before after file short (Ok c) h = tt
err-uncertified name n bytes before after file short (Err why) h = uncertified-in name n bytes before after why file short h

pub err-took : (files : Option Files) (name : List ℕ) (n : Net) (bytes : List ℕ) → HasFile files name bytes → length bytes ≤ most_bytes → (old new : Option (List ℕ))
    → (answer : Result Certificate Uncertified) → IfErr answer (λ why. Took (RefusedTextOn n bytes) (uncertified_status why) old new)
    → IfErr answer (λ why. Took (RefusedTextIn files name n) (uncertified_status why) old new)
err-took files name n bytes file short old new (Ok c) h = tt
err-took files name n bytes file short old new (Err why) h = took-in files name n bytes file short why old new h

-- what a shelf says that gives no bytes
pub uncertified-shelf : (n : Net) (name : List ℕ) (before after : ShelfTold) (fault : ShelfFault) (why : Uncertified) → why ≡ uncertified_by fault
    → (fault ≡ shelf.Failed → Rose before.faults after.faults)
    → (fault ≡ shelf.TooLong → IsTooLong before.files name most_bytes before.taken after.taken)
    → IsUncertified n name before after why
uncertified-shelf n name before after fault why is failed long = subst (IsUncertified n name before after) (sym is) (by_fault fault failed long)
  where
    by_fault : (f : ShelfFault) → (f ≡ shelf.Failed → Rose before.faults after.faults)
        → (f ≡ shelf.TooLong → IsTooLong before.files name most_bytes before.taken after.taken) → IsUncertified n name before after (uncertified_by f)
    by_fault shelf.Failed rose more = rose refl
    by_fault shelf.TooLong rose more = more refl
    by_fault shelf.Memory rose more = tt

-- ---- outcomes

pub uncertified-failed : (n : Net) (name : List ℕ) (before after : ShelfTold) (why : Uncertified) → IsUncertified n name before after why → uncertified_status why ≡ statuses.ReadFault
    → Rose before.faults after.faults
uncertified-failed n name before after (Refused refusal) h e = absurd (cc)
uncertified-failed n name before after TooLong h e = absurd (cc)
uncertified-failed n name before after Failed h e = h
uncertified-failed n name before after Memory h e = absurd (cc)
uncertified-failed n name before after Unwritten h e = absurd (cc)

pub unwritten-is : (why : Uncertified) → uncertified_status why ≡ statuses.WriteFault → why ≡ Unwritten
unwritten-is (Refused refusal) e = absurd (cc)
unwritten-is TooLong e = absurd (cc)
unwritten-is Failed e = absurd (cc)
unwritten-is Memory e = absurd (cc)
unwritten-is Unwritten e = refl

pub memory-is : (why : Uncertified) → uncertified_status why ≡ statuses.OutOfMemory → why ≡ Memory
memory-is (Refused refusal) e = absurd (cc)
memory-is TooLong e = absurd (cc)
memory-is Failed e = absurd (cc)
memory-is Memory e = refl
memory-is Unwritten e = absurd (cc)

-- ---- under the names of a network and of a certificate

-- where a file is too long that is read after other files, it is so from the first count on
pub long-from : (files : Option Files) (name : List ℕ) (most start before after : ℕ) → Grows start before → IsTooLong files name most before after → IsTooLong files name most start after
long-from None name most start before after grows l = elim l [ inl lt ↦ inl (omega (arith, lt, grows.grown)) | inr top ↦ inr top ]
long-from (Some told) name most start before after grows l = l

module _ (files : Option Files) (net cert : List ℕ) (network : Network) (reads : ReadsUnder files net network) where
  pub under : (c : Cert) → CertifiedIn files cert (net_of network) c → CertifiedUnder files net cert network c
  under c h = record { reads = reads; certified = h }

  read-under : (refusal : Refusal) → (r : RefusesIn files cert (net_of network) refusal) → AreRead files net cert network r.bytes
  read-under refusal r = record { reads = reads; file = r.file; short = r.short }

  pub refuses-under : (refusal : Refusal) → RefusesIn files cert (net_of network) refusal → UncertifiedUnder files net cert
  refuses-under refusal r = record {
    network = network;
    bytes = r.bytes;
    read = read-under refusal r;
    none = refuses-none (net_of network) r.bytes refusal r.refuses;
  }

  -- the line on a certificate that is refused is that of `check`
  pub checks-as : (refusal : Refusal) (text : List ℕ) → RefusesIn files cert (net_of network) refusal → text ≡ refused_line refusal → ChecksAs files net cert (statuses.Refused refusal) text
  checks-as refusal text r is = (network, (r.bytes, read-under refusal r, record { refused = r.refuses.refused; own = r.refuses.own; spelled = is }))

-- ---- what the told files say

module _ (told : Files) (net cert : List ℕ) where
  -- two readings of the files are of one network and one certificate
  pub one-certified : (m k : Network) (c d : Cert) → CertifiedUnder (Some told) net cert m c → CertifiedUnder (Some told) net cert k d → (m ≡ k) × (c ≡ d)
  one-certified m k c d g h =
      let same = some_same (file_of told cert) g.certified.bytes h.certified.bytes g.certified.file h.certified.file in (
        one_network told net m k g.reads h.reads,
        spelled-same h.certified.bytes c d (subst (λ b. Spells b c) same g.certified.certifies.spelled) h.certified.certifies.spelled,
      )

  pub certified-not-long : (m : Network) (c : Cert) (before after : ℕ) → CertifiedUnder (Some told) net cert m c → LongUnder (Some told) net cert before after → ⊥
  certified-not-long m c before after h l =
      let same = some_same (file_of told cert) h.certified.bytes l.more.bytes h.certified.file l.more.are in
      omega (arith, l.more.more, h.certified.short, ap (λ (b : List ℕ). length b) same)

  pub uncertified-not-long : (before after : ℕ) → UncertifiedUnder (Some told) net cert → LongUnder (Some told) net cert before after → ⊥
  uncertified-not-long before after h l =
      let same = some_same (file_of told cert) h.bytes l.more.bytes h.read.file l.more.are in
      omega (arith, l.more.more, h.read.short, ap (λ (b : List ℕ). length b) same)

  pub certified-or-not : (m : Network) (c : Cert) → CertifiedUnder (Some told) net cert m c → UncertifiedUnder (Some told) net cert → ⊥
  certified-or-not m c h u =
      let bytes = some_same (file_of told cert) h.certified.bytes u.bytes h.certified.file u.read.file in
      let network = one_network told net m u.network h.reads u.read.reads in
      u.none c (subst (λ b. Certifies (net_of u.network) b c) bytes (subst (λ k. Certifies (net_of k) h.certified.bytes c) network h.certified.certifies))
