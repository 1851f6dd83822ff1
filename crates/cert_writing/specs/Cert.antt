-- Certificates.
use Rattle.std.specs.Prelude.{◌≡◌, ℕ, ◌<◌, ◌^◌, List, length, get_or, All, FitsSigned}
use Rattle.std.specs.Int.{w64, w128}
use Rattle.pool_model.specs.Plan.{Written}
use Rattle.pool_model.specs.Claim.{Claimed, with_gap, with_bound, no_plan}
use Rattle.row_model.specs.Multipliers.{Part, Proof}
use Rattle.row_model.specs.Trees.{Split}

-- a node of the tree, and the proof on its box
pub record NodeProof : Type 0 where
  pub node : ℕ
  pub proof : Proof

-- A certificate: how many sources, pools, products, qualities, feeds, outs and directs the network has, what is claimed
-- of it, and the tree of boxes that shows it: its splits, and proofs on its nodes.
pub record Cert : Type 0 where
  pub shape : List ℕ
  pub claim : Claimed
  pub splits : List Split
  pub proofs : List NodeProof

-- ---- lengths

-- a plan has a weight for each feed of the shape, and a flow for each out and each direct
pub record FitsShape (shape : List ℕ) (plan : Written) : Type 0 where
  pub feeds : length plan.weights ≡ get_or shape 4 0
  pub outs : length plan.outflows ≡ get_or shape 5 0
  pub directs : length plan.direct ≡ get_or shape 6 0

-- the plan that is claimed, where there is one, fits the shape
abbrev pub ClaimFits : List ℕ → Claimed → Type 0
ClaimFits shape (with_gap plan cost base bound gap) = FitsShape shape plan
ClaimFits shape (with_bound bound) = Unit {0}
ClaimFits shape no_plan = Unit {0}

-- the plan's lists have the lengths of the shape, and the lists of splits, proofs and parts can be counted in 32 bits
pub record IsShaped (c : Cert) : Type 0 where
  pub claim : ClaimFits c.shape c.claim
  pub splits : length c.splits < 2 ^ 32
  pub proofs : length c.proofs < 2 ^ 32
  pub parts : All (λ p. length p.proof.parts < 2 ^ 32) c.proofs

-- ---- ranges

-- the numbers of a plan lie in the ranges of their types
pub record IsPlanInRange (plan : Written) : Type 0 where
  pub base : plan.base < 2 ^ 32
  pub flow_base : plan.flow_base < 2 ^ 32
  pub weights : All (λ n. n < 2 ^ 32) plan.weights
  pub outflows : All (λ n. n < 2 ^ 64) plan.outflows
  pub direct : All (λ n. n < 2 ^ 64) plan.direct

-- the numbers of a claim lie in the ranges of their types
abbrev pub IsClaimInRange : Claimed → Type 0
IsClaimInRange (with_gap plan cost base bound gap) = IsPlanInRange plan × FitsSigned w128 cost × (base < 2 ^ 64) × FitsSigned w128 bound × FitsSigned w128 gap
IsClaimInRange (with_bound bound) = FitsSigned w128 bound
IsClaimInRange no_plan = Unit {0}

-- the numbers of a split lie in the ranges of their types
pub record IsSplitInRange (s : Split) : Type 0 where
  pub leaf : s.leaf < 2 ^ 32
  pub coord : s.coord < 2 ^ 32
  pub cut : FitsSigned w64 s.cut

-- the numbers of a part lie in the ranges of their types
pub record IsPartInRange (p : Part) : Type 0 where
  pub row : p.row < 2 ^ 32
  pub mult : FitsSigned w64 p.mult

-- the numbers of a proof and of its node lie in the ranges of their types
pub record IsProofInRange (p : NodeProof) : Type 0 where
  pub node : p.node < 2 ^ 32
  pub scale : p.proof.scale < 2 ^ 64
  pub parts : All IsPartInRange p.proof.parts

-- What has a text: its lists have the lengths that they should, the shape has seven numbers, and every number lies in the
-- range of its type.
pub record IsCert (c : Cert) : Type 0 where
  pub shaped : IsShaped c
  pub seven : length c.shape ≡ 7
  pub counts : All (λ n. n < 2 ^ 32) c.shape
  pub claim : IsClaimInRange c.claim
  pub splits : All IsSplitInRange c.splits
  pub proofs : All IsProofInRange c.proofs
