-- A certificate in a file that is valid for a network, and why there is none.
use Rattle.std.specs.Prelude.{◌≡◌, ◌≢◌, ℕ, ◌≤◌, List, length, Option}
use Rattle.edge_io.specs.Counts.{Rose}
use Rattle.shelf_calls.specs.Files.{HasFile, IsTooLong}
use Rattle.shelf_calls.specs.Told.{ShelfTold}
use Rattle.shelf_calls.specs.declared.fault.ShelfFault.{ShelfFault}
use Rattle.shelf_calls.specs.declared.fault.ShelfFault.TheVariants as shelf
use Rattle.pool_model.specs.Network.{Net, Network, net_of}
use Rattle.cert_format.specs.Cert.{Cert}
use Rattle.cert_format.specs.Valid.{IsValid}
use Rattle.cert_checker.specs.Answers.{IsRefused, Spells}
use Rattle.cert_lengths.specs.Lengths.{most_bytes}
use Rattle.proof_lines.specs.declared.refusal.Refusal.{Refusal}
use Rattle.proof_lines.specs.declared.refusal.Refusal.TheVariants as refusals
use Rattle.printed_lines.specs.Verdicts.{refused_line}
use Rattle.certificate_commands.specs.CheckEnds.{AreRead}
use Rattle.run_status.specs.Reads.{Files, ReadsUnder}
use Rattle.run_status.specs.declared.status.Status.{Status}
use Rattle.run_status.specs.declared.status.Status.TheVariants as statuses
use Rattle.tight_commands.specs.declared.certified.Uncertified.{Uncertified}
use Rattle.tight_commands.specs.declared.certified.Uncertified.TheVariants.{Refused, TooLong, Failed, Memory, Unwritten}

-- ---- valid certificates

-- the bytes are the text of this certificate, which is valid for the network
pub record Certifies (n : Net) (bytes : List ℕ) (c : Cert) : Type 0 where
  pub spelled : Spells bytes c
  pub valid : IsValid n c

-- the file of this name has at most so many bytes, and they are the text of this certificate, which is valid for the network
pub record CertifiedIn (files : Option Files) (name : List ℕ) (n : Net) (c : Cert) : Type 0 where
  pub bytes : List ℕ
  pub file : HasFile files name bytes
  pub short : length bytes ≤ most_bytes
  pub certifies : Certifies n bytes c

-- a network is read from the file of the first name, and such a certificate from that of the second
pub record CertifiedUnder (files : Option Files) (net cert : List ℕ) (network : Network) (c : Cert) : Type 0 where
  pub reads : ReadsUnder files net network
  pub certified : CertifiedIn files cert (net_of network) c

-- the same of some network and some certificate
abbrev pub CertifiesSome : Option Files → (net cert : List ℕ) → Type 0
CertifiesSome files net cert = (network : Network) × ((c : Cert) × CertifiedUnder files net cert network c)

-- ---- certificates that are not valid

-- the bytes under the second name are not too many, and are of no certificate that is valid for the network under the first
pub record UncertifiedUnder (files : Option Files) (net cert : List ℕ) : Type 0 where
  pub network : Network
  pub bytes : List ℕ
  pub read : AreRead files net cert network bytes
  pub none : (c : Cert) → ¬ Certifies (net_of network) bytes c

-- this is the first cause to refuse the bytes, and no want of memory
pub record RefusesBytes (n : Net) (bytes : List ℕ) (refusal : Refusal) : Type 0 where
  pub refused : IsRefused n bytes refusal
  pub own : refusal ≢ refusals.Memory

-- the file of this name has at most so many bytes, and this is the first cause to refuse them
pub record RefusesIn (files : Option Files) (name : List ℕ) (n : Net) (refusal : Refusal) : Type 0 where
  pub bytes : List ℕ
  pub file : HasFile files name bytes
  pub short : length bytes ≤ most_bytes
  pub refuses : RefusesBytes n bytes refusal

-- the bytes are refused, for some cause
abbrev pub RefusesSome : Option Files → List ℕ → Net → Type 0
RefusesSome files name n = (refusal : Refusal) × RefusesIn files name n refusal

-- Why there is none: the file is refused, it is too long, the shelf failed, memory ran out, or the file is refused and the sink failed. The
-- counts are of the bytes taken.
abbrev pub IsUncertified : Net → List ℕ → (before after : ShelfTold) → Uncertified → Type 0
IsUncertified n name before after (Refused refusal) = RefusesIn before.files name n refusal
IsUncertified n name before after TooLong = IsTooLong before.files name most_bytes before.taken after.taken
IsUncertified n name before after Failed = Rose before.faults after.faults
IsUncertified n name before after Memory = Unit {0}
IsUncertified n name before after Unwritten = RefusesSome before.files name n

-- why there is none in bytes that the shelf gave
abbrev pub IsRefusalOf : Net → List ℕ → Uncertified → Type 0
IsRefusalOf n bytes (Refused refusal) = RefusesBytes n bytes refusal
IsRefusalOf n bytes TooLong = ⊥
IsRefusalOf n bytes Failed = ⊥
IsRefusalOf n bytes Memory = Unit {0}
IsRefusalOf n bytes Unwritten = (refusal : Refusal) × RefusesBytes n bytes refusal

-- why there is none where the shelf gave no bytes
abbrev pub uncertified_by : ShelfFault → Uncertified
uncertified_by shelf.Failed = Failed
uncertified_by shelf.TooLong = TooLong
uncertified_by shelf.Memory = Memory

-- the status of a run that has none
abbrev pub uncertified_status : Uncertified → Status
uncertified_status (Refused refusal) = statuses.Refused refusal
uncertified_status TooLong = statuses.CertTooLong
uncertified_status Failed = statuses.ReadFault
uncertified_status Memory = statuses.OutOfMemory
uncertified_status Unwritten = statuses.WriteFault

-- ---- what is printed

-- the line of the first cause to refuse the bytes
abbrev pub RefusedTextOn : Net → List ℕ → Status → List ℕ → Type 0
RefusedTextOn n bytes (statuses.Refused refusal) text = RefusesBytes n bytes refusal × (text ≡ refused_line refusal)
RefusedTextOn n bytes status text = ⊥

-- the same of the bytes under this name
abbrev pub RefusedTextIn : Option Files → List ℕ → Net → Status → List ℕ → Type 0
RefusedTextIn files name n (statuses.Refused refusal) text = RefusesIn files name n refusal × (text ≡ refused_line refusal)
RefusedTextIn files name n status text = ⊥
