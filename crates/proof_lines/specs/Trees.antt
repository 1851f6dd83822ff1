-- What is shown of a certificate's tree, or the first cause to refuse it.
use Rattle.std.specs.Prelude.{◌≡◌, ℕ, ◌<◌, ◌≤◌, List, length, get_or, All, Option, None, Some, ℤ}
use Rattle.pool_model.specs.Network.{Net}
use Rattle.row_model.specs.Multipliers.{Proof, IsInOrder}
use Rattle.row_model.specs.Trees.{Split, Tree, nodes, most_splits, IsSplitInOrder, box_of, IsTree, node_bound, tree_bound}
use Rattle.cert_format.specs.Cert.{NodeProof}
use Rattle.cert_format.specs.Valid.{proof_of, IsRising}
use Rattle.proof_lines.specs.declared.refusal.Refusal.{Refusal}
use Rattle.proof_lines.specs.declared.refusal.Refusal.TheVariants.{Split as SplitAt, ProofPlace, Proof as ProofOf, Memory}
use Rattle.proof_lines.specs.Refusals.{IsPlaced, IsWrongSplit, IsWrongPlace, IsWrongProof}

-- a tree of splits and of proof lines
abbrev pub tree_with : List Split → List NodeProof → Tree
tree_with splits lines = record { splits = splits; proof = proof_of lines }

-- the first splits are in order
abbrev pub AreInOrder : Net → List Split → ℕ → Type 0
AreInOrder n splits t = (i : ℕ) → i < t → IsSplitInOrder n splits i

-- the proof lines name nodes of the tree, and rise by them
pub record ArePlaced (splits : List Split) (lines : List NodeProof) : Type 0 where
  pub known : All (λ p. p.node < nodes splits) lines
  pub rising : IsRising lines

-- the proofs of the nodes below a number are in order in their boxes
abbrev pub AreProved : Net → Tree → ℕ → Type 0
AreProved n tree m = (node : ℕ) (proof : Proof) → node < m → tree.proof node ≡ Some proof → IsInOrder n (box_of n tree.splits node) proof

-- the tree and its lines are in order, and this is its bound
pub record IsBoundOf (n : Net) (splits : List Split) (lines : List NodeProof) (bound : Option ℤ) : Type 0 where
  pub tree : IsTree n (tree_with splits lines)
  pub placed : ArePlaced splits lines
  pub bound_is : bound ≡ tree_bound n (tree_with splits lines)

-- the first wrong split
pub record IsFirstSplit (n : Net) (splits : List Split) (t : ℕ) : Type 0 where
  pub wrong : IsWrongSplit n splits t
  pub few : t ≤ most_splits
  pub before : AreInOrder n splits t

-- no split is wrong
pub record AreSplits (n : Net) (splits : List Split) : Type 0 where
  pub few : length splits ≤ most_splits
  pub in_order : AreInOrder n splits (length splits)

-- the first wrong place
pub record IsFirstPlace (count : ℕ) (lines : List NodeProof) (k : ℕ) : Type 0 where
  pub wrong : IsWrongPlace count lines k
  pub before : (j : ℕ) → j < k → IsPlaced count lines j

-- the bound of each node
pub record AreBounds (n : Net) (tree : Tree) (bounds : List (Option ℤ)) : Type 0 where
  pub long : length bounds ≡ nodes tree.splits
  pub bound_is : (node : ℕ) → node < nodes tree.splits → get_or bounds node None ≡ node_bound n tree node

-- ---- the first cause to refuse a part of a tree; want of memory says nothing

-- the first node whose proof is not in order
abbrev pub IsProofRefusal : Net → Tree → Refusal → Type 0
IsProofRefusal n tree (ProofOf node fault) = IsWrongProof n tree node fault × AreProved n tree node
IsProofRefusal n tree Memory = Unit {0}
IsProofRefusal n tree _ = ⊥

-- a split, else a place, else a proof
abbrev pub IsTreeRefusal : Net → List Split → List NodeProof → Refusal → Type 0
IsTreeRefusal n splits lines (SplitAt t) = IsFirstSplit n splits t
IsTreeRefusal n splits lines (ProofPlace k) = AreSplits n splits × IsFirstPlace (nodes splits) lines k
IsTreeRefusal n splits lines (ProofOf node fault) = AreSplits n splits × ArePlaced splits lines × IsWrongProof n (tree_with splits lines) node fault × AreProved n (tree_with splits lines) node
IsTreeRefusal n splits lines Memory = Unit {0}
IsTreeRefusal n splits lines _ = ⊥
