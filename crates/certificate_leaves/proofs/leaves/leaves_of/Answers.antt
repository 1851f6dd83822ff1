-- The leaves, by the bounds of the nodes.
use Rattle.std.proofs.Common.{ap, map, ◌∙◌}
use Rattle.pool_model.specs.Network.{net_of}
use Rattle.box_space.specs.Views.{shown_split}
use Rattle.cert_format.specs.Views.{shown_node_proof}
use Rattle.certificate_leaves.proofs.Walked.{leaves-shown}
use Rattle.certificate_leaves.proofs.leaves.leaves_of.Goals as goal

pub returns-clause-leaves : goal.returns-clause-leaves
returns-clause-leaves c =
    leaves-shown (net_of c.args.net.now) c.in_ok-tree.tree.list (map shown_split c.args.cert.now.splits.items) (map shown_node_proof c.as_slice-2.result.now)
    (map shown_node_proof c.args.cert.now.proofs.items) c.in_ok-bounds.bounds.items c.as_slice-3.result.now c.in_ok-leaves.leaves.items
    (c.in_ok-tree.ensures.list ∙ ap (λ xs. map shown_split xs) c.as_slice.ensures.value) (ap (λ xs. map shown_node_proof xs) c.as_slice-2.ensures.value) c.as_slice-3.ensures.value
    c.in_ok-bounds.ensures c.in_ok-leaves.ensures
