-- When a certificate is valid for a network.
use Rattle.std.specs.Prelude.{◌≡◌, ℕ, ◌*◌, ◌<◌, List, [], ◌∷◌, length, get_or, All, ◌==◌, if◌then◌else◌, Option, None, Some, ℤ, pos, ◌-ℤ◌, ◌*ℤ◌}
use Rattle.pool_model.specs.Network.{Net, counts_of}
use Rattle.pool_model.specs.Plan.{Written, plan_of, IsWritten, Obeys, cost_of}
use Rattle.pool_model.specs.Claim.{Claimed, with_gap, with_bound, no_plan}
use Rattle.row_model.specs.Multipliers.{Proof}
use Rattle.row_model.specs.Trees.{Tree, nodes, IsTree, tree_bound}
use Rattle.cert_writing.specs.Cert.{Cert, NodeProof}

-- the proof of a node: that of its first line, where it has one
abbrev pub proof_of : List NodeProof → ℕ → Option Proof
proof_of [] node = None
proof_of (p ∷ ps) node = if p.node == node then Some p.proof else proof_of ps node

-- the tree of a certificate's splits and proofs
abbrev pub tree_of : Cert → Tree
tree_of c = record { splits = c.splits; proof = proof_of c.proofs }

-- what stands behind the end of a list of proofs
abbrev pub no_proof : NodeProof
no_proof = record { node = 0; proof = record { scale = 0; parts = [] } }

-- the nodes of the proofs rise strictly
abbrev pub IsRising : List NodeProof → Type 0
IsRising proofs = (i j : ℕ) → i < j → j < length proofs → (get_or proofs i no_proof).node < (get_or proofs j no_proof).node

-- The written plan is one and obeys, the cost over the base is its cost, the bound is the tree's, and the gap is the
-- difference.
pub record IsGap (n : Net) (tree : Tree) (plan : Written) (cost : ℤ) (base : ℕ) (bound gap : ℤ) : Type 0 where
  pub written : IsWritten n plan
  pub obeys : Obeys n (plan_of n plan)
  pub cost_is : cost ≡ cost_of n (plan_of n plan)
  pub base_is : base ≡ plan.flow_base * plan.base
  pub bound_is : tree_bound n tree ≡ Some bound
  pub gap_is : gap ≡ cost -ℤ bound *ℤ pos base

-- what is claimed is what the tree and the plan show
abbrev pub IsShown : Net → Tree → Claimed → Type 0
IsShown n tree (with_gap plan cost base bound gap) = IsGap n tree plan cost base bound gap
IsShown n tree (with_bound bound) = tree_bound n tree ≡ Some bound
IsShown n tree no_plan = tree_bound n tree ≡ None

-- A certificate is valid for a network: it has the network's counts, its splits and proofs are in order, its proofs stand on
-- nodes of the tree and rise by them, and its claim is what they show.
pub record IsValid (n : Net) (c : Cert) : Type 0 where
  pub shape : c.shape ≡ counts_of n
  pub tree : IsTree n (tree_of c)
  pub placed : All (λ p. p.node < nodes c.splits) c.proofs
  pub rising : IsRising c.proofs
  pub claim : IsShown n (tree_of c) c.claim
