-- A node that the next proof is on, and one that it is not on.
use Rattle.std.proofs.Common.{◌≢◌, ◌<◌, ℕ, List, length, map, option_map, Some, sym, ap, subst, ◌∙◌}
use Rattle.std.proofs.lemmas.List.{length-map}
use Rattle.pool_model.specs.Network.{Net, net_of}
use Rattle.row_model.specs.Multipliers.{Shown, shown_by}
use Rattle.row_model.specs.Trees.{box_of}
use Rattle.box_space.specs.Views.{shown_proof}
use Rattle.cert_format.specs.Cert.{NodeProof}
use Rattle.cert_format.specs.Views.{shown_node_proof}
use Rattle.proof_lines.specs.Refusals.{node_at}
use Rattle.certificate_leaves.proofs.Walked.{named-proof, unnamed-own, unnamed-next}
use Rattle.certificate_leaves.proofs.valuing.NodeWalk.shown.Goals as goal

pub value-requires-clause-order : goal.value-requires-clause-order
value-requires-clause-order c =
    let lines : List NodeProof = map shown_node_proof c.args.proofs.now in
    let order = c.requires.order in
    order.tree.proofs c.args.node (shown_proof c.in-Some.proof.now)
    (named-proof lines c.args.self.now.next c.args.node order.rising c.requires.at.judged.next (shown_proof c.in-Some.proof.now) c.in-Some.ensures.named)

pub returns-in-None-clause-own : goal.returns-in-None-clause-own
returns-in-None-clause-own c =
    let lines : List NodeProof = map shown_node_proof c.args.proofs.now in
    let next : ℕ = c.args.self.now.next in
    let other : next < length lines → node_at lines next ≢ c.args.node =
    λ lt. c.in-None.ensures.unnamed (subst (λ (m : ℕ). next < m) (length-map c.args.proofs.now shown_node_proof) lt) in
    unnamed-own lines next c.args.node c.requires.order.rising c.requires.at.judged.next (net_of c.args.net.now) c.args.tree.now.list other

pub returns-in-None-clause-next : goal.returns-in-None-clause-next
returns-in-None-clause-next c =
    let lines : List NodeProof = map shown_node_proof c.args.proofs.now in
    let next : ℕ = c.args.self.now.next in
    let other : next < length lines → node_at lines next ≢ c.args.node =
    λ lt. c.in-None.ensures.unnamed (subst (λ (m : ℕ). next < m) (length-map c.args.proofs.now shown_node_proof) lt) in
    unnamed-next lines next c.args.node c.requires.order.rising c.requires.at.judged.next other

pub returns-in-Some-clause-own : goal.returns-in-Some-clause-own
returns-in-Some-clause-own c =
    let n : Net = net_of c.args.net.now in
    let lines : List NodeProof = map shown_node_proof c.args.proofs.now in
    let has = named-proof lines c.args.self.now.next c.args.node c.requires.order.rising c.requires.at.judged.next (shown_proof c.in-Some.proof.now) c.in-Some.ensures.named in
    ap (λ (s : Shown). Some s) c.value.ensures.shown ∙ sym (ap (option_map (shown_by n (box_of n c.args.tree.now.list c.args.node))) has)
