-- How the check of a certificate ends whose file is open and of which nothing was read.
use Rattle.std.specs.Prelude.{ℕ, ◌<◌, ◌≤◌, List, length, Option}
use Rattle.pool_model.specs.Network.{Net, Network}
use Rattle.cert_stream.specs.Streams.{IsRest, TookMore}
use Rattle.cert_lengths.specs.Lengths.{most_bytes}
use Rattle.certificate_commands.specs.CheckEnds.{IsJudged, LineOn}
use Rattle.certificate_commands.specs.declared.judging.Telling.{Telling}
use Rattle.run_status.specs.declared.status.Status.{Status}
use Rattle.run_status.specs.declared.status.Status.TheVariants as statuses

-- these bytes are the file, where it is told, and at most as many as may be
pub record AreRest (rest : Option (List ℕ)) (bytes : List ℕ) : Type 0 where
  pub are : IsRest rest bytes
  pub short : length bytes ≤ most_bytes

-- the texts that answer on the file, by the status
abbrev pub LineOnRest : Telling → Network → Option (List ℕ) → Status → List ℕ → Type 0
LineOnRest telling network rest status text = (bytes : List ℕ) × AreRest rest bytes × LineOn telling network bytes status text

-- what the file is, by the status
abbrev pub JudgedRest : Net → Option (List ℕ) → Status → Type 0
JudgedRest n rest status = (bytes : List ℕ) × AreRest rest bytes × IsJudged n bytes status

-- the file has more bytes than may be, where it is told, and more than that many were taken of it
pub record IsLongRest (rest : Option (List ℕ)) (before after : ℕ) : Type 0 where
  pub bytes : List ℕ
  pub are : IsRest rest bytes
  pub more : most_bytes < length bytes
  pub taken : TookMore most_bytes before after

-- Each status comes only where its line holds of the file; no other comes. The counts are of the bytes taken.
abbrev pub OpenedEnds : Net → Option (List ℕ) → (before after : ℕ) → Status → Type 0
OpenedEnds n rest before after statuses.Accepted = JudgedRest n rest statuses.Accepted
OpenedEnds n rest before after (statuses.Refused refusal) = JudgedRest n rest (statuses.Refused refusal)
OpenedEnds n rest before after statuses.WriteFault = JudgedRest n rest statuses.WriteFault
OpenedEnds n rest before after statuses.CertTooLong = IsLongRest rest before after
OpenedEnds n rest before after statuses.ReadFault = Unit {0}
OpenedEnds n rest before after statuses.OutOfMemory = Unit {0}
OpenedEnds n rest before after status = ⊥
