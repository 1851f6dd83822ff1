-- What the checker may answer on a text.
use Rattle.std.specs.Prelude.{◌≡◌, ℕ, List, Result, Ok, Err}
use Rattle.pool_model.specs.Network.{Net}
use Rattle.pool_model.specs.Claim.{Claimed}
use Rattle.cert_text.specs.Lines.{IsFaultyLine}
use Rattle.cert_format.specs.Cert.{Cert, IsCert}
use Rattle.cert_format.specs.Text.{text_of}
use Rattle.cert_format.specs.Valid.{IsValid}
use Rattle.proof_lines.specs.declared.refusal.Refusal.{Refusal}
use Rattle.proof_lines.specs.declared.refusal.Refusal.TheVariants.{Text, Memory}
use Rattle.cert_writing.specs.declared.certificate.Claim.{Claim}
use Rattle.cert_format.specs.Views.{shown_claim}
use Rattle.proof_lines.specs.Refusals.{IsFirstRefusal}

-- a certificate has this text
pub record Spells (bytes : List ℕ) (c : Cert) : Type 0 where
  pub is : IsCert c
  pub text : bytes ≡ text_of c

-- Some certificate has this text and is valid for the network, and this is what it claims.
pub record IsAccepted (n : Net) (bytes : List ℕ) (claim : Claimed) : Type 0 where
  pub cert : Cert
  pub spelled : Spells bytes cert
  pub valid : IsValid n cert
  pub claims : claim ≡ cert.claim

-- some certificate has this text, and this is the first cause to refuse it
pub record GivesFirst (n : Net) (bytes : List ℕ) (r : Refusal) : Type 0 where
  pub cert : Cert
  pub spelled : Spells bytes cert
  pub first : IsFirstRefusal n cert r

-- no certificate has this text, and this is its first faulty line
pub record IsNoText (bytes : List ℕ) (line : ℕ) : Type 0 where
  pub none : (c : Cert) → ¬ Spells bytes c
  pub first : IsFaultyLine Cert IsCert text_of bytes line

-- Why a text is refused. Want of memory says nothing of the text.
abbrev pub IsRefused : Net → List ℕ → Refusal → Type 0
IsRefused n bytes (Text fault) = IsNoText bytes fault.line
IsRefused n bytes Memory = Unit {0}
IsRefused n bytes r = GivesFirst n bytes r

-- what is claimed, unless memory ran out
abbrev pub IsTakenAs : Claimed → Result Claim Refusal → Type 0
IsTakenAs claim (Ok c) = shown_claim c ≡ claim
IsTakenAs claim (Err r) = r ≡ Memory
