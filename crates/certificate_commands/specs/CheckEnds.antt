-- How `check` ends.
use Rattle.std.specs.Prelude.{◌≡◌, ◌≢◌, ◌⊎◌, ℕ, ◌≤◌, List, length, Option, Some}
use Rattle.shelf_calls.specs.Files.{HasFile, IsTooLong}
use Rattle.shelf_calls.specs.declared.fault.OpenFault.{OpenFault}
use Rattle.shelf_calls.specs.declared.fault.OpenFault.TheVariants as open_faults
use Rattle.pool_model.specs.Network.{Network, Net, net_of}
use Rattle.pool_model.specs.Claim.{Claimed, Follows}
use Rattle.cert_format.specs.Cert.{Cert}
use Rattle.cert_format.specs.Valid.{IsValid}
use Rattle.proof_lines.specs.declared.refusal.Refusal.{Refusal}
use Rattle.proof_lines.specs.declared.refusal.Refusal.TheVariants as refusals
use Rattle.cert_checker.specs.Answers.{Spells, IsRefused}
use Rattle.cert_lengths.specs.Lengths.{most_bytes}
use Rattle.run_status.specs.Reads.{Files, IsRefusedAs, ReadsNone, ReadsUnder}
use Rattle.run_status.specs.Took.{IsCutShort, IsNetworkRefused, unread_status}
use Rattle.printed_lines.specs.Verdicts.{accepted_line, refused_line}
use Rattle.pool_report.specs.Report.{report_text}
use Rattle.certificate_commands.specs.declared.judging.Telling.{Telling}
use Rattle.certificate_commands.specs.declared.judging.Telling.TheVariants as tellings
use Rattle.certificate_commands.specs.declared.checking.CheckOutcome.{CheckOutcome}
use Rattle.certificate_commands.specs.declared.checking.CheckOutcome.TheVariants as outcomes
use Rattle.run_status.specs.declared.status.Status.{Status}
use Rattle.run_status.specs.declared.status.Status.TheVariants as statuses

-- the status that it ends with
abbrev pub check_status : CheckOutcome → Status
check_status outcomes.Accepted = statuses.Accepted
check_status (outcomes.Refused refusal) = statuses.Refused refusal
check_status (outcomes.Unread why) = unread_status why
check_status outcomes.ReadFault = statuses.ReadFault
check_status outcomes.TooLong = statuses.CertTooLong
check_status outcomes.Memory = statuses.OutOfMemory
check_status outcomes.WriteFault = statuses.WriteFault

-- how it ends where the certificate's file is not opened
abbrev pub unopened : OpenFault → CheckOutcome
unopened open_faults.Failed = outcomes.ReadFault
unopened open_faults.Memory = outcomes.Memory

-- ---- what is printed

-- what is told of a claim: its line, or its report
abbrev pub told_text : Telling → Network → Claimed → List ℕ
told_text tellings.Line network claim = accepted_line claim
told_text tellings.Report network claim = report_text network claim

-- what is told of the bytes: they are a valid certificate of the network, and what it claims follows
-- Promise: The line `accepted ..` is that of a certificate that is valid for the network of NET, with its numbers, and all that it claims
--   follows for every plan
pub record Accepts (telling : Telling) (network : Network) (bytes : List ℕ) (text : List ℕ) : Type 0 where
  pub certificate : Cert
  pub spelled : Spells bytes certificate
  pub valid : IsValid (net_of network) certificate
  pub follows : Follows (net_of network) certificate.claim
  pub told : text ≡ told_text telling network certificate.claim

-- the line of the first cause to refuse the bytes
-- Promise: The line `refused ..` is that of the first cause to refuse the text
pub record Refuses (n : Net) (bytes : List ℕ) (refusal : Refusal) (text : List ℕ) : Type 0 where
  pub refused : IsRefused n bytes refusal
  pub own : refusal ≢ refusals.Memory
  pub spelled : text ≡ refused_line refusal

-- the texts that answer on the bytes, by the status
abbrev pub LineOn : Telling → Network → List ℕ → Status → List ℕ → Type 0
LineOn telling network bytes statuses.Accepted text = Accepts telling network bytes text
LineOn telling network bytes (statuses.Refused refusal) text = Refuses (net_of network) bytes refusal text
LineOn telling network bytes status text = ⊥

-- a network and a certificate of at most so many bytes are read from these files
pub record AreRead (files : Option Files) (net cert : List ℕ) (network : Network) (bytes : List ℕ) : Type 0 where
  pub reads : ReadsUnder files net network
  pub file : HasFile files cert bytes
  pub short : length bytes ≤ most_bytes

-- the texts that answer on the certificate under the second name, for the network under the first, by the status
abbrev pub JudgesAs : Telling → Option Files → (net cert : List ℕ) → Status → List ℕ → Type 0
JudgesAs telling files net cert status text = (network : Network) × ((bytes : List ℕ) × AreRead files net cert network bytes × LineOn telling network bytes status text)

-- the same, where lines are told
abbrev pub ChecksAs : Option Files → (net cert : List ℕ) → Status → List ℕ → Type 0
ChecksAs = JudgesAs tellings.Line

-- ---- when each status comes

-- what the bytes are, by the status
abbrev pub IsJudged : Net → List ℕ → Status → Type 0
IsJudged n bytes statuses.Accepted = (c : Cert) × Spells bytes c × IsValid n c
IsJudged n bytes (statuses.Refused refusal) = (c : Cert) → Spells bytes c → ¬ IsValid n c
IsJudged n bytes statuses.WriteFault = Unit {0}
IsJudged n bytes statuses.OutOfMemory = Unit {0}
IsJudged n bytes status = ⊥

-- they are read from these files
pub record JudgedUnder (files : Option Files) (net cert : List ℕ) (status : Status) : Type 0 where
  pub network : Network
  pub bytes : List ℕ
  pub read : AreRead files net cert network bytes
  pub judged : IsJudged (net_of network) bytes status

-- the certificate under the second name is longer than may be, and a network is read from the file of the first
pub record LongUnder (files : Option Files) (net cert : List ℕ) (before after : ℕ) : Type 0 where
  pub network : Network
  pub reads : ReadsUnder files net network
  pub more : IsTooLong files cert most_bytes before after

-- Each status comes only where its line holds of the files of these names; no other comes. The counts are of the bytes taken.
-- Promise: Each other status comes only where it says so of the files: 3 where no network is read from NET, with its first cause; 4 where
--   `--nodes` is above 200,000, or twice `--nodes` and one, times the rows of the network, is above 32,000,000; 0, 10 and 11 of `solve`
--   where a network is read and it is not so, 12 where no plan obeys it, 13 where no starting plan does; 0 of `check` where CERT is the
--   text of a valid certificate, and 1 where it is not; 5 where CERT has more than 1,073,741,824 bytes; 30 to 33 of `solve` where a network
--   is read, what is asked is within the budget and a journal is named
abbrev pub CheckEnds : Option Files → (net cert : List ℕ) → (before after : ℕ) → Status → Type 0
CheckEnds files net cert before after statuses.Accepted = JudgedUnder files net cert statuses.Accepted
CheckEnds files net cert before after (statuses.Refused refusal) = JudgedUnder files net cert (statuses.Refused refusal)
CheckEnds files net cert before after statuses.WriteFault = JudgedUnder files net cert statuses.WriteFault
CheckEnds files net cert before after statuses.CertTooLong = LongUnder files net cert before after
CheckEnds files net cert before after (statuses.NetworkRefused cause) = IsRefusedAs files net before after cause
CheckEnds files net cert before after statuses.ReadFault = Unit {0}
CheckEnds files net cert before after statuses.OutOfMemory = Unit {0}
CheckEnds files net cert before after status = ⊥

-- the certificate under the second name is valid for the network under the first, and not too long
pub record ValidUnder (told : Files) (net cert : List ℕ) : Type 0 where
  pub network : Network
  pub bytes : List ℕ
  pub certificate : Cert
  pub read : AreRead (Some told) net cert network bytes
  pub spelled : Spells bytes certificate
  pub valid : IsValid (net_of network) certificate

-- the bytes under the second name are not too many, and are of no certificate that is valid for the network under the first
pub record InvalidUnder (told : Files) (net cert : List ℕ) : Type 0 where
  pub network : Network
  pub bytes : List ℕ
  pub read : AreRead (Some told) net cert network bytes
  pub none : (c : Cert) → Spells bytes c → ¬ IsValid (net_of network) c

-- the certificate is accepted, or the sink failed
abbrev pub IsAcceptance : Status → Type 0
IsAcceptance statuses.Accepted = Unit {0}
IsAcceptance statuses.WriteFault = Unit {0}
IsAcceptance status = ⊥

-- the certificate is refused, or the sink failed
abbrev pub IsDenial : Status → Type 0
IsDenial (statuses.Refused refusal) = Unit {0}
IsDenial statuses.WriteFault = Unit {0}
IsDenial status = ⊥

-- which status comes, by what the told files say, where the run isn't cut short
pub record CheckDecided (told : Files) (net cert : List ℕ) (status : Status) : Type 0 where
  -- Promise: Where no network is read from NET, the status is 3, or shelf or memory failed
  pub no_network : ReadsNone told net → IsNetworkRefused status ⊎ IsCutShort status
  -- Promise: Of a CERT that is too long the status is 5, or shelf or memory failed
  pub too_long : (before after : ℕ) → LongUnder (Some told) net cert before after → (status ≡ statuses.CertTooLong) ⊎ IsCutShort status
  -- Promise: The text of a valid certificate is accepted, or shelf, sink or memory failed
  pub valid : ValidUnder told net cert → IsAcceptance status ⊎ IsCutShort status
  -- Promise: A text of CERT that is of no valid certificate is refused, or shelf, sink or memory failed
  pub invalid : InvalidUnder told net cert → IsDenial status ⊎ IsCutShort status
