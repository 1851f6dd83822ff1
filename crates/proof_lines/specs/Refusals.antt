-- When a certificate is refused, and which of the causes comes first.
use Rattle.std.specs.Prelude.{◌≡◌, ◌≢◌, ℕ, ◌+◌, ◌*◌, ◌<◌, ◌⊎◌, List, [], ◌∷◌, length, get_or, Option, None, Some, ℤ, pos, ◌-ℤ◌, ◌*ℤ◌}
use Rattle.faults.specs.First.{IsFirst}
use Rattle.pool_model.specs.Network.{Net, counts_of}
use Rattle.pool_model.specs.Plan.{plan_of, cost_of}
use Rattle.pool_model.specs.Claim.{Claimed, with_gap, with_bound, no_plan}
use Rattle.row_model.specs.Multipliers.{Proof}
use Rattle.row_model.specs.Trees.{Split, Tree, nodes, most_splits, IsSplitInOrder, box_of, tree_bound}
use Rattle.plan_core.specs.Faults as plans
use Rattle.plan_core.specs.declared.fault.PlanFault.{PlanFault}
use Rattle.row_book.specs.Faults as proofs
use Rattle.row_book.specs.declared.fault.ProofFault.{ProofFault}
use Rattle.cert_format.specs.Cert.{Cert, NodeProof}
use Rattle.cert_format.specs.Valid.{tree_of, no_proof}
use Rattle.proof_lines.specs.declared.refusal.Refusal.{Refusal}
use Rattle.proof_lines.specs.declared.refusal.Refusal.TheVariants.{Text, Shape, Plan, Split as SplitAt, ProofPlace, Proof as ProofOf, WrongKind, WrongCost, WrongBound, WrongGap, Memory}

-- ---- parts of a certificate that are wrong

-- the plan that is claimed has this first fault
abbrev pub HasPlanFault : Net → Claimed → PlanFault → Type 0
HasPlanFault n (with_gap plan cost base bound gap) fault = plans.IsFirstFault n plan fault
HasPlanFault n (with_bound bound) fault = ⊥
HasPlanFault n no_plan fault = ⊥

-- a split that is not in order in the tree of those before it, or that is one too many
pub record IsWrongSplit (n : Net) (splits : List Split) (t : ℕ) : Type 0 where
  pub there : t < length splits
  pub wrong : (t ≡ most_splits) ⊎ (¬ IsSplitInOrder n splits t)

-- the node of a proof line
abbrev pub node_at : List NodeProof → ℕ → ℕ
node_at lines k = (get_or lines k no_proof).node

-- a proof line names a node of the tree, and one above that of the line before
pub record IsPlaced (count : ℕ) (lines : List NodeProof) (k : ℕ) : Type 0 where
  pub known : node_at lines k < count
  pub above : (j : ℕ) → j + 1 ≡ k → node_at lines j < node_at lines k

-- a proof line that doesn't
pub record IsWrongPlace (count : ℕ) (lines : List NodeProof) (k : ℕ) : Type 0 where
  pub there : k < length lines
  pub wrong : ¬ IsPlaced count lines k

-- a node has a proof with this first fault in its box
pub record IsWrongProof (n : Net) (tree : Tree) (node : ℕ) (fault : ProofFault) : Type 0 where
  pub proof : Proof
  pub has : tree.proof node ≡ Some proof
  pub first : proofs.IsFirstFault n (box_of n tree.splits node) proof fault

-- ---- claims that are wrong, by the bound of the tree

-- it is claimed that no plan obeys while a leaf may hold one, or something else while no leaf may
abbrev pub IsWrongKind : Option ℤ → Claimed → Type 0
IsWrongKind found (with_gap plan cost base bound gap) = found ≡ None
IsWrongKind found (with_bound bound) = found ≡ None
IsWrongKind found no_plan = found ≢ None

-- the cost or its base is not the plan's
abbrev pub IsWrongCost : Net → Claimed → Type 0
IsWrongCost n (with_gap plan cost base bound gap) = ¬ ((cost ≡ cost_of n (plan_of n plan)) × (base ≡ plan.flow_base * plan.base))
IsWrongCost n (with_bound bound) = ⊥
IsWrongCost n no_plan = ⊥

-- the bound is another
abbrev pub IsWrongBound : Option ℤ → Claimed → Type 0
IsWrongBound found (with_gap plan cost base bound gap) = found ≢ Some bound
IsWrongBound found (with_bound bound) = found ≢ Some bound
IsWrongBound found no_plan = ⊥

-- the gap is not the cost less the bound
abbrev pub IsWrongGap : Claimed → Type 0
IsWrongGap (with_gap plan cost base bound gap) = gap ≢ (cost -ℤ bound *ℤ pos base)
IsWrongGap (with_bound bound) = ⊥
IsWrongGap no_plan = ⊥

-- ---- the causes

-- The certificate gives this cause. A faulty text and want of memory are none that a certificate gives.
abbrev pub Refuses : Net → Cert → Refusal → Type 0
Refuses n c (Text fault) = ⊥
Refuses n c Shape = c.shape ≢ counts_of n
Refuses n c (Plan fault) = HasPlanFault n c.claim fault
Refuses n c (SplitAt t) = IsWrongSplit n c.splits t
Refuses n c (ProofPlace k) = IsWrongPlace (nodes c.splits) c.proofs k
Refuses n c (ProofOf node fault) = IsWrongProof n (tree_of c) node fault
Refuses n c WrongKind = IsWrongKind (tree_bound n (tree_of c)) c.claim
Refuses n c WrongCost = IsWrongCost n c.claim
Refuses n c WrongBound = IsWrongBound (tree_bound n (tree_of c)) c.claim
Refuses n c WrongGap = IsWrongGap c.claim
Refuses n c Memory = ⊥

-- the number of a cause, in the order in which they are looked for
abbrev pub number : Refusal → ℕ
number (Text _) = 1
number Shape = 2
number (Plan _) = 3
number (SplitAt _) = 4
number (ProofPlace _) = 5
number (ProofOf _ _) = 6
number WrongKind = 7
number WrongCost = 8
number WrongBound = 9
number WrongGap = 10
number Memory = 11

-- the split, the line or the node that it is about
abbrev pub about : Refusal → List ℕ
about (SplitAt t) = t ∷ []
about (ProofPlace k) = k ∷ []
about (ProofOf node _) = node ∷ []
about _ = []

abbrev pub rank : Refusal → List ℕ
rank r = number r ∷ about r

-- a cause that the certificate gives, where it gives none before it
abbrev pub IsFirstRefusal : Net → Cert → Refusal → Type 0
IsFirstRefusal n c = IsFirst rank (Refuses n c)
