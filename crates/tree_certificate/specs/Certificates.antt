-- The certificate of what a search found.
use Rattle.std.specs.Prelude.{ℕ, zero, suc, ◌*◌, List, [], ◌∷◌, ◌++◌, Option, Some, None, ℤ, pos, ◌-ℤ◌, ◌*ℤ◌}
use Rattle.pool_model.specs.Network.{Net, counts_of}
use Rattle.pool_model.specs.Plan.{Written, plan_of, cost_of}
use Rattle.pool_model.specs.Claim.{Claimed, with_gap, with_bound, no_plan}
use Rattle.row_model.specs.Multipliers.{Proof}
use Rattle.row_model.specs.Trees.{nodes, tree_bound}
use Rattle.row_model.specs.Entries.{Searched}
use Rattle.cert_format.specs.Cert.{Cert, NodeProof}

-- the line of a node's proof, where it has one
abbrev pub line_of : ℕ → Option Proof → List NodeProof
line_of node None = []
line_of node (Some proof) = record { node = node; proof = proof } ∷ []

-- the proofs of the nodes below a count, in their order
abbrev pub node_proofs : (ℕ → Option Proof) → ℕ → List NodeProof
node_proofs proof zero = []
node_proofs proof (suc node) = node_proofs proof node ++ line_of node (proof node)

-- a plan with its cost, a bound, and the gap between them
abbrev pub gap_of : Net → Written → ℤ → Claimed
gap_of n plan bound =
    let cost = cost_of n (plan_of n plan) in
    let base = plan.flow_base * plan.base in
    with_gap plan cost base bound (cost -ℤ bound *ℤ pos base)

-- what the cheapest plan and the tree's bound show together
abbrev pub claim_of : Net → Option Written → Option ℤ → Claimed
claim_of n best None = no_plan
claim_of n None (Some bound) = with_bound bound
claim_of n (Some plan) (Some bound) = gap_of n plan bound

-- the certificate of what was found
abbrev pub cert_of : Net → Searched → Cert
cert_of n s = record {
  shape = counts_of n;
  claim = claim_of n s.best (tree_bound n s.tree);
  splits = s.tree.splits;
  proofs = node_proofs s.tree.proof (nodes s.tree.splits);
}
