-- All nodes of a tree.
use Rattle.std.proofs.Common.{◌≡◌, List, map, subst, arith}
use Rattle.pool_model.specs.Network.{Net, net_of}
use Rattle.row_model.specs.Trees.{Split, nodes}
use Rattle.cert_format.specs.Cert.{NodeProof}
use Rattle.cert_format.specs.Views.{shown_node_proof}
use Rattle.certificate_leaves.specs.Nodes.{IsAt}
use Rattle.certificate_leaves.proofs.Walked.{all-bounds}
use Rattle.certificate_leaves.proofs.valuing.node_bounds.Goals as goal

pub returns : goal.returns
returns c =
    let n : Net = net_of c.args.net.now in
    let list : List Split = c.args.tree.now.list in
    let lines : List NodeProof = map shown_node_proof c.args.proofs.now in
    let last : c.loop-node.node ≡ nodes list = omega (arith, c.loop-node-test.false, c.loop-node.auto.node-end, c.node_count-node-end.ensures) in
    all-bounds n list lines c.loop-node.walk (subst (λ k. IsAt n list lines k c.loop-node.walk) last c.loop-node.invariant)
