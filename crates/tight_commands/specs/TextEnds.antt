-- How the check of a text of marks ends, for a certificate that is valid for a network.
use Rattle.std.specs.Prelude.{◌≡◌, ◌≢◌, ℕ, List, Option}
use Rattle.shelf_calls.specs.Files.{IsTooLong}
use Rattle.shelf_calls.specs.declared.fault.ShelfFault.{ShelfFault}
use Rattle.shelf_calls.specs.declared.fault.ShelfFault.TheVariants as shelf
use Rattle.pool_model.specs.Network.{Net}
use Rattle.cert_format.specs.Cert.{Cert}
use Rattle.run_status.specs.Reads.{Files}
use Rattle.run_status.specs.declared.status.Status.{Status}
use Rattle.tight_checks.specs.declared.refusal.TightRefusal.{TightRefusal}
use Rattle.tight_checks.specs.declared.refusal.TightRefusal.TheVariants as refusals
use Rattle.tight_commands.specs.Marked.{most_text}
use Rattle.tight_commands.specs.CheckTightEnds.{HoldsIn, MarksLineOn, TextIn}
use Rattle.tight_commands.specs.declared.checking.CheckTightOutcome.{CheckTightOutcome}
use Rattle.tight_commands.specs.declared.checking.CheckTightOutcome.TheVariants as outcomes

-- what the bytes are, by how the check of them ended
abbrev pub IsTextJudged : Net → Cert → List ℕ → CheckTightOutcome → Type 0
IsTextJudged n c bytes outcomes.Accepted = HoldsIn n c bytes
IsTextJudged n c bytes (outcomes.Refused refusal) = ¬ HoldsIn n c bytes
IsTextJudged n c bytes (outcomes.Unread why) = ⊥
IsTextJudged n c bytes (outcomes.Uncertified why) = ⊥
IsTextJudged n c bytes (outcomes.TextUnread fault) = ⊥
IsTextJudged n c bytes outcomes.Memory = Unit {0}
IsTextJudged n c bytes outcomes.WriteFault = Unit {0}

-- how a run ends whose text of marks is refused, by the cause
abbrev pub IsToldAs : TightRefusal → CheckTightOutcome → Type 0
IsToldAs refusal outcomes.Accepted = ⊥
IsToldAs refusal (outcomes.Refused told) = (told ≡ refusal) × (refusal ≢ refusals.Memory)
IsToldAs refusal (outcomes.Unread why) = ⊥
IsToldAs refusal (outcomes.Uncertified why) = ⊥
IsToldAs refusal (outcomes.TextUnread fault) = ⊥
IsToldAs refusal outcomes.Memory = refusal ≡ refusals.Memory
IsToldAs refusal outcomes.WriteFault = refusal ≢ refusals.Memory

-- the file of this name has at most so many bytes, and they are judged
abbrev pub IsFileJudged : Option Files → (name : List ℕ) → Net → Cert → CheckTightOutcome → Type 0
IsFileJudged files name n c outcome = (bytes : List ℕ) × TextIn files name bytes × IsTextJudged n c bytes outcome

-- why no text of marks was read; the counts are of the bytes taken
abbrev pub IsTextUnread : Option Files → (name : List ℕ) → (before after : ℕ) → ShelfFault → Type 0
IsTextUnread files name before after shelf.Failed = Unit {0}
IsTextUnread files name before after shelf.TooLong = IsTooLong files name most_text before after
IsTextUnread files name before after shelf.Memory = Unit {0}

-- what the file of this name is, by how the check of it ended
abbrev pub TextEnds : Option Files → (name : List ℕ) → Net → Cert → (before after : ℕ) → CheckTightOutcome → Type 0
TextEnds files name n c before after (outcomes.TextUnread fault) = IsTextUnread files name before after fault
TextEnds files name n c before after outcome = IsFileJudged files name n c outcome

-- the texts that answer on the marks in the file of this name, by the status
abbrev pub TextLineIn : Option Files → (name : List ℕ) → Net → Cert → Status → List ℕ → Type 0
TextLineIn files name n c status text = (bytes : List ℕ) × TextIn files name bytes × MarksLineOn n c bytes status text
