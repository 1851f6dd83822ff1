-- What the checker may answer on a file that it reads as a stream.
use Rattle.std.specs.Prelude.{◌≡◌, ◌≢◌, ℕ, ◌<◌, ◌≤◌, ◌⊎◌, List, length, Option, Result, Ok, Err}
use Rattle.pool_model.specs.Network.{Net}
use Rattle.pool_model.specs.Claim.{Claimed, Follows}
use Rattle.cert_format.specs.Cert.{Cert}
use Rattle.edge_io.specs.Counts.{Rose}
use Rattle.cert_stream.specs.Streams.{IsRest, TookMore}
use Rattle.proof_lines.specs.declared.refusal.Refusal.TheVariants.{Memory as NoMemory}
use Rattle.proof_lines.specs.declared.stream_refusal.StreamRefusal.{StreamRefusal}
use Rattle.proof_lines.specs.declared.stream_refusal.StreamRefusal.TheVariants.{Read, TooLong, Refused, Memory}
use Rattle.cert_writing.specs.declared.certificate.Claim.{Claim}
use Rattle.cert_format.specs.Views.{shown_claim}
use Rattle.cert_checker.specs.Answers.{Spells, IsAccepted, IsRefused}
use Rattle.shelf_calls.specs.Told.{Keeps}
use Rattle.proof_lines.specs.Runs.{Moment}

-- What was answered on the bytes of a file: they are accepted, and what their certificate claims follows, or they are refused as a
-- text is, and are at most so many; or they are more. Of a failed read and of want of memory nothing is said here.
abbrev pub IsAnswer : Net → List ℕ → ℕ → Result Claim StreamRefusal → Type 0
IsAnswer n bytes most (Ok claim) = IsAccepted n bytes (shown_claim claim) × ((c : Cert) → Spells bytes c → Follows n c.claim) × (length bytes ≤ most)
IsAnswer n bytes most (Err (Refused r)) = IsRefused n bytes r × (length bytes ≤ most)
IsAnswer n bytes most (Err TooLong) = most < length bytes
IsAnswer n bytes most (Err Read) = Unit {0}
IsAnswer n bytes most (Err Memory) = Unit {0}

-- the answer on some bytes that are the rest of a file, where it is told
pub record IsStreamAnswer (n : Net) (rest : Option (List ℕ)) (most : ℕ) (answer : Result Claim StreamRefusal) : Type 0 where
  pub bytes : List ℕ
  pub are : IsRest rest bytes
  pub answer_is : IsAnswer n bytes most answer

-- an answer on the rest of a file, of which nothing was read before; the count of faults is as it was, unless the shelf failed
pub record IsAnswered (n : Net) (most : ℕ) (m k : Moment) (answer : Result Claim StreamRefusal) : Type 0 where
  pub kept : Keeps m.shelf k.shelf
  pub checked : IsStreamAnswer n m.shelf.rest most answer
  pub too_long : answer ≡ Err TooLong → TookMore most m.shelf.taken k.shelf.taken
  pub read : answer ≡ Err Read → Rose m.shelf.faults k.shelf.faults
  pub quiet : (answer ≡ Err Read) ⊎ (k.shelf.faults ≡ m.shelf.faults)
  pub no_memory_refusal : answer ≢ Err (Refused NoMemory)

-- what is claimed, unless a read failed or memory ran out
abbrev pub IsStreamedAs : Claimed → Result Claim StreamRefusal → Type 0
IsStreamedAs claim (Ok c) = shown_claim c ≡ claim
IsStreamedAs claim (Err r) = (r ≡ Read) ⊎ (r ≡ Memory)
