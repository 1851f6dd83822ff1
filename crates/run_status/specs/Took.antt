-- What the sink took, by the status.
use Rattle.std.specs.Prelude.{◌≡◌, List, Option, ℕ}
use Rattle.edge_io.specs.Writing.{behind, TookFront}
use Rattle.run_status.specs.declared.reading.Unread.{Unread}
use Rattle.run_status.specs.declared.reading.Unread.TheVariants as unread
use Rattle.run_status.specs.declared.status.Status.{Status}
use Rattle.run_status.specs.declared.status.Status.TheVariants as statuses

-- how much of a text
pub data Part : Type 0 where
  whole : Part
  front : Part
  nothing : Part

-- how much a run of this status prints
abbrev pub printed_by : Status → Part
printed_by statuses.Closed = whole
printed_by statuses.Accepted = whole
printed_by statuses.Done = whole
printed_by (statuses.Refused refusal) = whole
printed_by (statuses.TightRefused refusal) = whole
printed_by statuses.Stopped = whole
printed_by statuses.Stuck = whole
printed_by statuses.Infeasible = whole
printed_by statuses.Undecided = whole
printed_by statuses.WriteFault = front
printed_by status = nothing

-- so much of a text that answers
abbrev pub TookPart : Part → (Status → List ℕ → Type 0) → Status → Option (List ℕ) → Option (List ℕ) → Type 0
TookPart whole Answer status old new = (text : List ℕ) × Answer status text × (new ≡ behind old text)
TookPart front Answer status old new = (text : List ℕ) × ((other : Status) × Answer other text) × TookFront old text new
TookPart nothing Answer status old new = new ≡ old

-- what the sink took: all of a text that answers, a front of one, or nothing
abbrev pub Took : (Status → List ℕ → Type 0) → Status → Option (List ℕ) → Option (List ℕ) → Type 0
Took Answer status old new = TookPart (printed_by status) Answer status old new

-- the status of a run that read no network
abbrev pub unread_status : Unread → Status
unread_status (unread.Refused cause) = statuses.NetworkRefused cause
unread_status unread.Failed = statuses.ReadFault
unread_status unread.Memory = statuses.OutOfMemory

-- the shelf failed, or memory ran out
abbrev pub IsCutShort : Status → Type 0
IsCutShort statuses.ReadFault = Unit {0}
IsCutShort statuses.OutOfMemory = Unit {0}
IsCutShort status = ⊥

-- the file was refused
abbrev pub IsNetworkRefused : Status → Type 0
IsNetworkRefused (statuses.NetworkRefused cause) = Unit {0}
IsNetworkRefused status = ⊥
