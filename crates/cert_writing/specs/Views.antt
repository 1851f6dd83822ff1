-- A certificate, without where it lies in memory.
use Rattle.std.specs.Prelude.{map}
use Rattle.pool_model.specs.Claim.{Claimed, with_gap, with_bound, no_plan}
use Rattle.plan_core.specs.Views.{shown_plan}
use Rattle.box_space.specs.Views.{shown_split, shown_proof}
use Rattle.cert_writing.specs.declared.certificate as declared
use Rattle.cert_writing.specs.declared.certificate.Claim.{Claim}
use Rattle.cert_writing.specs.declared.certificate.Claim.TheVariants as claims
use Rattle.cert_writing.specs.declared.certificate.Certificate.{Certificate}
use Rattle.cert_writing.specs.Cert.{Cert, NodeProof}

-- what is claimed
abbrev pub shown_claim : Claim → Claimed
shown_claim (claims.Gap plan cost base bound gap) = with_gap (shown_plan plan) cost base bound gap
shown_claim (claims.Bound bound) = with_bound bound
shown_claim claims.NoPlan = no_plan

-- a node and its proof
abbrev pub shown_node_proof : declared.NodeProof.NodeProof → NodeProof
shown_node_proof p = record { node = p.node; proof = shown_proof p.proof }

-- a certificate
abbrev pub shown_cert : Certificate → Cert
shown_cert c = record { shape = c.shape; claim = shown_claim c.claim; splits = map shown_split c.splits.items; proofs = map shown_node_proof c.proofs.items }
