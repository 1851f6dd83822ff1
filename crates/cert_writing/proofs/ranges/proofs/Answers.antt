use Rattle.std.proofs.Common.{All, subst}
use Rattle.std.proofs.lemmas.List.{take_all}
use Rattle.std.proofs.lemmas.List.Elements.{All-more}
use Rattle.cert_writing.specs.Views.{shown_node_proof}
use Rattle.cert_writing.specs.Cert.{IsProofInRange}
use Rattle.cert_writing.proofs.ranges.proofs.Goals as goal

pub loop-each-preserved : goal.loop-each-preserved
loop-each-preserved c =
    All-more (λ x. IsProofInRange
    (shown_node_proof x)) c.args.proofs.now c.loop-each.each-index c.each-item.result c.loop-each-test.true c.loop-each.invariant
    (subst (λ x. IsProofInRange (shown_node_proof x)) c.each-item.is c.proof.ensures)

pub returns : goal.returns
returns c = subst (λ xs. All (λ x. IsProofInRange (shown_node_proof x)) xs) (take_all c.loop-each.each-index c.args.proofs.now c.loop-each-test.false) c.loop-each.invariant
