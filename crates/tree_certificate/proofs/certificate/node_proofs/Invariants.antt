use Rattle.std.proofs.Common.{◌≡◌, ℕ, ◌≤◌, map, length, get_or, option_map, None}
use Rattle.box_space.specs.Views.{shown_proof}
use Rattle.cert_format.specs.Views.{shown_node_proof}
use Rattle.tree_certificate.specs.Certificates.{node_proofs}
use Rattle.tree_certificate.proofs.certificate.node_proofs.Given as goal

abbrev pub invariant-loop-node : goal.invariant-loop-node
invariant-loop-node l =
    (map shown_node_proof l.lines.items ≡ node_proofs (λ k. get_or (map (option_map shown_proof) l.initial.proofs.items) k None) l.node)
    × (length l.proofs.items ≡ length l.initial.proofs.items)
    × ((k : ℕ) → l.node ≤ k → get_or l.proofs.items k None ≡ get_or l.initial.proofs.items k None)
