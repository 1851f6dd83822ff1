-- The answer on a file that is told, as one on its text.
use Rattle.std.proofs.Common.{◌≡◌, ℕ, inl, inr, List, Option, Some, Result, Err, sym, subst}
use Rattle.pool_model.specs.Network.{Net}
use Rattle.pool_model.specs.Claim.{Claimed}
use Rattle.cert_checker.specs.Streams.{IsAnswer, IsStreamAnswer, IsStreamedAs}
use Rattle.proof_lines.specs.declared.refusal.Refusal.{Refusal}
use Rattle.proof_lines.specs.declared.stream_refusal.StreamRefusal.{StreamRefusal}
use Rattle.proof_lines.specs.declared.stream_refusal.StreamRefusal.TheVariants.{Refused}
use Rattle.cert_writing.specs.declared.certificate.Claim.{Claim}

-- the bytes that are told are those that were answered on
pub text-answer : (n : Net) (bytes : List ℕ) (rest : Option (List ℕ)) (most : ℕ) (answer : Result Claim StreamRefusal) → rest ≡ Some bytes → IsStreamAnswer n rest most answer
    → IsAnswer n bytes most answer
text-answer n bytes rest most answer told checked = subst (λ (b : List ℕ). IsAnswer n b most answer) (sym (checked.are bytes told)) checked.answer_is

-- a valid certificate is not refused
pub never-refused : (claim : Claimed) (r : Refusal) → IsStreamedAs claim (Err (Refused r)) → ⊥
never-refused claim r (inl e) = absurd cc
never-refused claim r (inr e) = absurd cc
