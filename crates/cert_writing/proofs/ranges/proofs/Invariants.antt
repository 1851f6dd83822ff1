use Rattle.std.proofs.Common.{All, take}
use Rattle.cert_writing.specs.Views.{shown_node_proof}
use Rattle.cert_writing.specs.Cert.{IsProofInRange}
use Rattle.cert_writing.proofs.ranges.proofs.Given as goal

abbrev pub invariant-loop-each : goal.invariant-loop-each
invariant-loop-each l = All (λ x. IsProofInRange (shown_node_proof x)) (take l.each-index l.proofs)
