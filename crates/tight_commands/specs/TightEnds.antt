-- How `tight` ends.
use Rattle.std.specs.Prelude.{◌≡◌, ◌⊎◌, ℕ, ◌<◌, ◌≤◌, List, Option, Some}
use Rattle.pool_model.specs.Network.{Network, net_of}
use Rattle.box_space.specs.declared.coordinates.Form.{Form}
use Rattle.cert_format.specs.Cert.{Cert}
use Rattle.certificate_commands.specs.CheckEnds.{ChecksAs, IsDenial, LongUnder}
use Rattle.run_status.specs.Reads.{Files, IsRefusedAs, ReadsNone, ReadsSome}
use Rattle.run_status.specs.Took.{IsCutShort, IsNetworkRefused, unread_status}
use Rattle.run_status.specs.declared.reading.Unread.TheVariants as unread
use Rattle.run_status.specs.declared.status.Status.{Status}
use Rattle.run_status.specs.declared.status.Status.TheVariants as statuses
use Rattle.tight_commands.specs.Certified.{CertifiedUnder, UncertifiedUnder, uncertified_status}
use Rattle.tight_commands.specs.Marked.{IsTextOf, most_pivots, most_size, size_of}
use Rattle.tight_commands.specs.declared.certified.Uncertified.TheVariants as uncertified
use Rattle.tight_commands.specs.declared.marking.TightOutcome.{TightOutcome}
use Rattle.tight_commands.specs.declared.marking.TightOutcome.TheVariants as outcomes

-- the status that it ends with
abbrev pub tight_status : TightOutcome → Status
tight_status outcomes.Done = statuses.Done
tight_status outcomes.TooLarge = statuses.BudgetTooLarge
tight_status (outcomes.Unread why) = unread_status why
tight_status (outcomes.Uncertified why) = uncertified_status why
tight_status outcomes.Memory = statuses.OutOfMemory
tight_status outcomes.WriteFault = statuses.WriteFault

-- ---- what is printed

-- the texts that answer on the certificate under the second name, for the network under the first, by the status
-- Promise: What `tight` prints is the text of the marks of a certificate that is valid for the network of NET, or, as `check` does, the line of
--   the first cause to refuse the text of CERT
abbrev pub TightsAs : Option Files → (net cert : List ℕ) → Form → (pivots : ℕ) → Status → List ℕ → Type 0
TightsAs files net cert form pivots statuses.Done text =
    (network : Network) × ((c : Cert) × CertifiedUnder files net cert network c × IsTextOf (net_of network) form pivots c text)
TightsAs files net cert form pivots (statuses.Refused refusal) text = ChecksAs files net cert (statuses.Refused refusal) text
TightsAs files net cert form pivots status text = ⊥

-- ---- when each status comes

-- a network is read from the file of the first name, and a certificate that is valid for it from that of the second, whose tree is not too
-- large
pub record MarksUnder (files : Option Files) (net cert : List ℕ) : Type 0 where
  pub network : Network
  pub certificate : Cert
  pub certified : CertifiedUnder files net cert network certificate
  pub within : size_of (net_of network) certificate ≤ most_size

-- the same, and its tree is too large
pub record LargeUnder (files : Option Files) (net cert : List ℕ) : Type 0 where
  pub network : Network
  pub certificate : Cert
  pub certified : CertifiedUnder files net cert network certificate
  pub above : most_size < size_of (net_of network) certificate

-- Each status comes only where its line holds of the files of these names; no other comes. The counts are of the bytes taken.
-- Promise: Where `--pivots` is at most 1,000,000, each status of `tight` comes only where it says so of the files: 3 where no network is read
--   from NET, with its first cause; 5 where CERT has more than 1,073,741,824 bytes; 1 where CERT is of no valid certificate; 4 where it is, and
--   its splits and one, times the variables and rows of the network, are above 8,000,000; 0 where they are not
abbrev pub MarkEnds : Option Files → (net cert : List ℕ) → (before after : ℕ) → Status → Type 0
MarkEnds files net cert before after statuses.Done = MarksUnder files net cert
MarkEnds files net cert before after (statuses.Refused refusal) = UncertifiedUnder files net cert
MarkEnds files net cert before after statuses.WriteFault = UncertifiedUnder files net cert ⊎ MarksUnder files net cert
MarkEnds files net cert before after statuses.BudgetTooLarge = LargeUnder files net cert
MarkEnds files net cert before after statuses.CertTooLong = LongUnder files net cert before after
MarkEnds files net cert before after (statuses.NetworkRefused cause) = IsRefusedAs files net before after cause
MarkEnds files net cert before after statuses.ReadFault = Unit {0}
MarkEnds files net cert before after statuses.OutOfMemory = Unit {0}
MarkEnds files net cert before after status = ⊥

-- the status by how many pivots are asked for, and by the files
pub record TightEnds (files : Option Files) (net cert : List ℕ) (pivots : ℕ) (before after : ℕ) (status : Status) : Type 0 where
  -- Promise: `tight` with `--pivots` above 1,000,000 ends with 4, whatever the files are
  pub above : most_pivots < pivots → status ≡ statuses.BudgetTooLarge
  pub within : pivots ≤ most_pivots → MarkEnds files net cert before after status

-- Memory ran out where the network was to be read, or the certificate for a network that was read, or at the marks of a certificate that is
-- valid for one and whose tree is not too large.
abbrev pub MarkWants : Option Files → (net cert : List ℕ) → TightOutcome → Type 0
MarkWants files net cert (outcomes.Unread why) = why ≡ unread.Memory
MarkWants files net cert (outcomes.Uncertified why) = (why ≡ uncertified.Memory) × ReadsSome files net
MarkWants files net cert outcomes.Memory = MarksUnder files net cert
MarkWants files net cert outcome = ⊥

-- the text was printed, or the sink failed
abbrev pub IsWritten : Status → Type 0
IsWritten statuses.Done = Unit {0}
IsWritten statuses.WriteFault = Unit {0}
IsWritten status = ⊥

-- which status comes, by what is asked and what the told files say, where the run isn't cut short
pub record TightDecided (told : Files) (net cert : List ℕ) (pivots : ℕ) (status : Status) : Type 0 where
  -- Promise: `tight` with `--pivots` above 1,000,000 ends with 4, whatever the files are
  pub above : most_pivots < pivots → status ≡ statuses.BudgetTooLarge
  -- Promise: Where no network is read from NET, the status of `tight` is 3, or shelf or memory failed
  pub no_network : pivots ≤ most_pivots → ReadsNone told net → IsNetworkRefused status ⊎ IsCutShort status
  -- Promise: Of a CERT that is too long the status of `tight` is 5, or shelf or memory failed
  pub too_long : pivots ≤ most_pivots → (before after : ℕ) → LongUnder (Some told) net cert before after → (status ≡ statuses.CertTooLong) ⊎ IsCutShort status
  -- Promise: A text of CERT that is of no valid certificate is refused by `tight`, or shelf, sink or memory failed
  pub invalid : pivots ≤ most_pivots → UncertifiedUnder (Some told) net cert → IsDenial status ⊎ IsCutShort status
  -- Promise: Where the splits of a valid certificate and one, times the variables and rows of the network, are above 8,000,000, the status of
  --   `tight` is 4, or shelf or memory failed
  pub large : pivots ≤ most_pivots → LargeUnder (Some told) net cert → (status ≡ statuses.BudgetTooLarge) ⊎ IsCutShort status
  -- Promise: Of every other valid certificate the marks are printed, or shelf, sink or memory failed
  pub marked : pivots ≤ most_pivots → MarksUnder (Some told) net cert → IsWritten status ⊎ IsCutShort status
