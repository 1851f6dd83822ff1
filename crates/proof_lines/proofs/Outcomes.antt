-- The answers of the parts of a tree's check, as answers of the whole.
use Rattle.std.proofs.Common.{◌≡◌, List, Option, ℤ}
use Rattle.pool_model.specs.Network.{Net}
use Rattle.row_model.specs.Trees.{Split, nodes, tree_bound}
use Rattle.split_tree.specs.Splits.{Splits, IsOf}
use Rattle.cert_format.specs.Cert.{NodeProof}
use Rattle.proof_lines.specs.declared.refusal.Refusal.{Refusal}
use Rattle.proof_lines.specs.declared.refusal.Refusal.TheVariants.{Proof as ProofOf, Memory}
use Rattle.proof_lines.specs.Trees.{AreSplits, ArePlaced, AreProved, IsBoundOf, IsProofRefusal, IsTreeRefusal, tree_with}
use Rattle.proof_lines.proofs.Lines.{proof-known}

pub splits-of : (n : Net) (t : Splits) → IsOf n t → AreSplits n t.list
splits-of n t is = record { few = is.few; in_order = is.in_order }

pub proof-tree : (n : Net) (splits : List Split) (lines : List NodeProof) (r : Refusal) → AreSplits n splits → ArePlaced splits lines
    → IsProofRefusal n (tree_with splits lines) r → IsTreeRefusal n splits lines r
proof-tree n splits lines (ProofOf node fault) are placed h = (are, placed, h.0, h.1)
proof-tree n splits lines Memory are placed h = tt
proof-tree n splits lines _ are placed h = absurd h

pub bound-is : (n : Net) (splits : List Split) (lines : List NodeProof) (bound : Option ℤ) → AreSplits n splits → ArePlaced splits lines
    → AreProved n (tree_with splits lines) (nodes splits) → bound ≡ tree_bound n (tree_with splits lines) → IsBoundOf n splits lines bound
bound-is n splits lines bound are placed proved e = record {
  tree = record {
    few = are.few;
    splits = are.in_order;
    placed = λ node proof has. proof-known lines (nodes splits) node proof placed.known has;
    proofs = λ node proof has. proved node proof (proof-known lines (nodes splits) node proof placed.known has) has;
  };
  placed = placed;
  bound_is = e;
}
