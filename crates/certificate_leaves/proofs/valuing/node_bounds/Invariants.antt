use Rattle.std.specs.Prelude.{map}
use Rattle.pool_model.specs.Network.{net_of}
use Rattle.cert_format.specs.Views.{shown_node_proof}
use Rattle.certificate_leaves.specs.Nodes.{IsAt}
use Rattle.certificate_leaves.proofs.valuing.node_bounds.Given as goal

-- the nodes so far have their bounds
abbrev pub invariant-loop-node : goal.invariant-loop-node
invariant-loop-node l = IsAt (net_of l.net) l.tree.list (map shown_node_proof l.proofs) l.node l.walk
