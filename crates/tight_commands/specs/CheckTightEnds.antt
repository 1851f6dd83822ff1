-- How `checktight` ends.
use Rattle.std.specs.Prelude.{◌≡◌, ◌≢◌, ◌⊎◌, ℕ, ◌≤◌, List, length, Option, Some}
use Rattle.shelf_calls.specs.Files.{HasFile, IsTooLong}
use Rattle.shelf_calls.specs.declared.fault.ShelfFault.{ShelfFault}
use Rattle.shelf_calls.specs.declared.fault.ShelfFault.TheVariants as shelf
use Rattle.pool_model.specs.Network.{Net, Network, net_of}
use Rattle.cert_format.specs.Cert.{Cert}
use Rattle.cert_format.specs.Valid.{tree_of}
use Rattle.cert_lengths.specs.Lengths.{most_bytes}
use Rattle.certificate_commands.specs.CheckEnds.{ChecksAs, IsAcceptance, IsDenial, LongUnder}
use Rattle.run_status.specs.Reads.{Files, IsRefusedAs, ReadsNone, ReadsSome}
use Rattle.run_status.specs.Took.{IsCutShort, IsNetworkRefused, unread_status}
use Rattle.run_status.specs.declared.reading.Unread.TheVariants as unread
use Rattle.run_status.specs.declared.status.Status.{Status}
use Rattle.run_status.specs.declared.status.Status.TheVariants as statuses
use Rattle.tight_texts.specs.declared.marks.TightText.{TightText}
use Rattle.tight_checks.specs.Holding.{Holds, IsVerdict}
use Rattle.tight_checks.specs.Refusals.{IsRefused, Spells}
use Rattle.tight_checks.specs.Showing.{AreBest, HoldsForPlans}
use Rattle.tight_checks.specs.declared.refusal.TightRefusal.{TightRefusal}
use Rattle.tight_checks.specs.declared.refusal.TightRefusal.TheVariants as refusals
use Rattle.tight_checks.specs.declared.verdict.TightVerdict.{TightVerdict}
use Rattle.tight_commands.specs.Certified.{CertifiedUnder, CertifiesSome, UncertifiedUnder, uncertified_status}
use Rattle.tight_commands.specs.Lines.{accepted_tight_line, refused_tight_line}
use Rattle.tight_commands.specs.Marked.{most_text}
use Rattle.tight_commands.specs.declared.certified.Uncertified.TheVariants as uncertified
use Rattle.tight_commands.specs.declared.checking.CheckTightOutcome.{CheckTightOutcome}
use Rattle.tight_commands.specs.declared.checking.CheckTightOutcome.TheVariants as outcomes

-- the status of a run that was given no text of marks
abbrev pub unread_text_status : ShelfFault → Status
unread_text_status shelf.Failed = statuses.ReadFault
unread_text_status shelf.TooLong = statuses.CertTooLong
unread_text_status shelf.Memory = statuses.OutOfMemory

-- the status that it ends with
abbrev pub check_tight_status : CheckTightOutcome → Status
check_tight_status outcomes.Accepted = statuses.Accepted
check_tight_status (outcomes.Refused refusal) = statuses.TightRefused refusal
check_tight_status (outcomes.Unread why) = unread_status why
check_tight_status (outcomes.Uncertified why) = uncertified_status why
check_tight_status (outcomes.TextUnread fault) = unread_text_status fault
check_tight_status outcomes.Memory = statuses.OutOfMemory
check_tight_status outcomes.WriteFault = statuses.WriteFault

-- ---- what is printed

-- The text is the line of marks that have these bytes and hold of the certificate's leaves: how many there are of each kind, and their bound.
-- Every plan that obeys costs at least the bound, and none obeys where there is none; no multipliers on the form's rows show more of a leaf that
-- is marked tight or raised.
-- Promise: The line `accepted tight ..` comes of a text of marks that hold of the certificate's leaves, with how many there are of each kind
--   and their bound; every plan that obeys costs at least this bound, and none obeys where it is `none`
pub record AcceptsMarks (n : Net) (c : Cert) (bytes : List ℕ) (text : List ℕ) : Type 0 where
  pub marks : TightText
  pub spelled : Spells bytes marks
  pub holds : Holds n (tree_of c) marks
  pub verdict : TightVerdict
  pub counted : IsVerdict marks verdict
  pub plans : HoldsForPlans n verdict.bound
  pub best : AreBest n (tree_of c) marks
  pub told : text ≡ accepted_tight_line verdict

-- this is the first cause to refuse the bytes as marks of the certificate's leaves, and no want of memory
pub record RefusesBytes (n : Net) (c : Cert) (bytes : List ℕ) (refusal : TightRefusal) : Type 0 where
  pub refused : IsRefused n (tree_of c) bytes refusal
  pub own : refusal ≢ refusals.Memory

-- the text is the line of the first cause to refuse them
-- Promise: The line `refused tight ..` is that of the first cause to refuse the text of marks
abbrev pub RefusesMarks : Net → Cert → List ℕ → TightRefusal → List ℕ → Type 0
RefusesMarks n c bytes refusal text = RefusesBytes n c bytes refusal × (text ≡ refused_tight_line refusal)

-- the texts that answer on the bytes, by the status
abbrev pub MarksLineOn : Net → Cert → List ℕ → Status → List ℕ → Type 0
MarksLineOn n c bytes statuses.Accepted text = AcceptsMarks n c bytes text
MarksLineOn n c bytes (statuses.TightRefused refusal) text = RefusesMarks n c bytes refusal text
MarksLineOn n c bytes status text = ⊥

-- the file of this name has at most so many bytes, and these
pub record TextIn (files : Option Files) (name bytes : List ℕ) : Type 0 where
  pub file : HasFile files name bytes
  pub short : length bytes ≤ most_text

-- a network is read from the file of the first name, a certificate that is valid for it from that of the second, and a text of at most so
-- many bytes from that of the third
pub record TextUnder (files : Option Files) (net cert tight : List ℕ) (network : Network) (c : Cert) (bytes : List ℕ) : Type 0 where
  pub certified : CertifiedUnder files net cert network c
  pub text : TextIn files tight bytes

-- the texts that answer on the marks under the third name, by the status
abbrev pub MarksLineUnder : Option Files → (net cert tight : List ℕ) → Status → List ℕ → Type 0
MarksLineUnder files net cert tight status text =
    (network : Network) × ((c : Cert) × ((bytes : List ℕ) × TextUnder files net cert tight network c bytes × MarksLineOn (net_of network) c bytes status text))

-- the texts that answer on the marks under the third name, for the certificate under the second, by the status
-- Promise: What `checktight` prints is the line on the marks of TIGHT for a certificate that is valid for the network of NET, or, as `check`
--   does, the line of the first cause to refuse the text of CERT
abbrev pub ChecksTightAs : Option Files → (net cert tight : List ℕ) → Status → List ℕ → Type 0
ChecksTightAs files net cert tight (statuses.Refused refusal) text = ChecksAs files net cert (statuses.Refused refusal) text
ChecksTightAs files net cert tight status text = MarksLineUnder files net cert tight status text

-- ---- when each status comes

-- the bytes are a text of marks that hold of the certificate's leaves
abbrev pub HoldsIn : Net → Cert → List ℕ → Type 0
HoldsIn n c bytes = (marks : TightText) × Spells bytes marks × Holds n (tree_of c) marks

-- marks that hold are read from these files
pub record MarksHoldUnder (files : Option Files) (net cert tight : List ℕ) : Type 0 where
  pub network : Network
  pub certificate : Cert
  pub bytes : List ℕ
  pub read : TextUnder files net cert tight network certificate bytes
  pub hold : HoldsIn (net_of network) certificate bytes

-- a text that is not one of marks that hold is read from these files
pub record MarksFailUnder (files : Option Files) (net cert tight : List ℕ) : Type 0 where
  pub network : Network
  pub certificate : Cert
  pub bytes : List ℕ
  pub read : TextUnder files net cert tight network certificate bytes
  pub fail : ¬ HoldsIn (net_of network) certificate bytes

-- a text is read from these files
pub record SomeTextUnder (files : Option Files) (net cert tight : List ℕ) : Type 0 where
  pub network : Network
  pub certificate : Cert
  pub bytes : List ℕ
  pub read : TextUnder files net cert tight network certificate bytes

-- a network is read, and a certificate that is valid for it, and the text under the third name is longer than may be
pub record LongTextUnder (files : Option Files) (net cert tight : List ℕ) (before after : ℕ) : Type 0 where
  pub network : Network
  pub certificate : Cert
  pub certified : CertifiedUnder files net cert network certificate
  pub more : IsTooLong files tight most_text before after

-- Each status comes only where its line holds of the files of these names; no other comes. The counts are of the bytes taken.
-- Promise: Each status of `checktight` comes only where it says so of the files: 3 where no network is read from NET, with its first cause; 5
--   where CERT has more than 1,073,741,824 bytes, or TIGHT has, for a valid certificate; 1 where CERT is of no valid certificate, or TIGHT is
--   no text of marks that hold of the certificate's leaves; 0 where it is one
abbrev pub CheckTightEnds : Option Files → (net cert tight : List ℕ) → (before after : ℕ) → Status → Type 0
CheckTightEnds files net cert tight before after statuses.Accepted = MarksHoldUnder files net cert tight
CheckTightEnds files net cert tight before after (statuses.TightRefused refusal) = MarksFailUnder files net cert tight
CheckTightEnds files net cert tight before after (statuses.Refused refusal) = UncertifiedUnder files net cert
CheckTightEnds files net cert tight before after statuses.WriteFault = UncertifiedUnder files net cert ⊎ SomeTextUnder files net cert tight
CheckTightEnds files net cert tight before after statuses.CertTooLong =
    LongUnder files net cert before after ⊎ LongTextUnder files net cert tight before after
CheckTightEnds files net cert tight before after (statuses.NetworkRefused cause) = IsRefusedAs files net before after cause
CheckTightEnds files net cert tight before after statuses.ReadFault = Unit {0}
CheckTightEnds files net cert tight before after statuses.OutOfMemory = Unit {0}
CheckTightEnds files net cert tight before after status = ⊥

-- Memory ran out where the network was to be read, or the certificate for a network that was read, or the text of marks of a certificate that
-- is valid for one, or at a text that was read.
abbrev pub CheckTightWants : Option Files → (net cert tight : List ℕ) → CheckTightOutcome → Type 0
CheckTightWants files net cert tight (outcomes.Unread why) = why ≡ unread.Memory
CheckTightWants files net cert tight (outcomes.Uncertified why) = (why ≡ uncertified.Memory) × ReadsSome files net
CheckTightWants files net cert tight (outcomes.TextUnread fault) = (fault ≡ shelf.Memory) × CertifiesSome files net cert
CheckTightWants files net cert tight outcomes.Memory = SomeTextUnder files net cert tight
CheckTightWants files net cert tight outcome = ⊥

-- the marks are refused, or the sink failed
abbrev pub IsTightDenial : Status → Type 0
IsTightDenial (statuses.TightRefused refusal) = Unit {0}
IsTightDenial statuses.WriteFault = Unit {0}
IsTightDenial status = ⊥

-- which status comes, by what the told files say, where the run isn't cut short
pub record CheckTightDecided (told : Files) (net cert tight : List ℕ) (status : Status) : Type 0 where
  -- Promise: Where no network is read from NET, the status of `checktight` is 3, or shelf or memory failed
  pub no_network : ReadsNone told net → IsNetworkRefused status ⊎ IsCutShort status
  -- Promise: Of a CERT that is too long the status of `checktight` is 5, or shelf or memory failed
  pub too_long : (before after : ℕ) → LongUnder (Some told) net cert before after → (status ≡ statuses.CertTooLong) ⊎ IsCutShort status
  -- Promise: A text of CERT that is of no valid certificate is refused by `checktight`, or shelf, sink or memory failed
  pub invalid : UncertifiedUnder (Some told) net cert → IsDenial status ⊎ IsCutShort status
  -- Promise: Of a TIGHT that is too long the status of `checktight` is 5 where the certificate is valid, or shelf or memory failed
  pub long_text : (before after : ℕ) → LongTextUnder (Some told) net cert tight before after → (status ≡ statuses.CertTooLong) ⊎ IsCutShort status
  -- Promise: The text of marks that hold of the leaves of a valid certificate is accepted, or shelf, sink or memory failed
  pub hold : MarksHoldUnder (Some told) net cert tight → IsAcceptance status ⊎ IsCutShort status
  -- Promise: A text of TIGHT that is not of such marks is refused, or shelf, sink or memory failed
  pub fail : MarksFailUnder (Some told) net cert tight → IsTightDenial status ⊎ IsCutShort status
