-- The nodes of a tree, one after another, with the bounds that their proofs show.
use Rattle.std.specs.Prelude.{◌≡◌, ℕ, ◌<◌, List, length, get_or}
use Rattle.pool_model.specs.Network.{IsLimited, Net}
use Rattle.row_model.specs.Boxes.{coords}
use Rattle.row_model.specs.Multipliers.{Proof}
use Rattle.row_model.specs.Trees.{Split, IsTree}
use Rattle.box_space.specs.Views.{AreRoot}
use Rattle.box_space.specs.declared.boxes.BoxEnds.{BoxEnds}
use Rattle.split_tree.specs.Splits.{Splits, IsOf as AreCut}
use Rattle.cert_format.specs.Cert.{NodeProof}
use Rattle.cert_format.specs.Valid.{IsRising, no_proof}
use Rattle.proof_lines.specs.Judging.{AreJudged}
use Rattle.proof_lines.specs.Trees.{tree_with}
use Rattle.certificate_leaves.specs.declared.valuing.NodeWalk.{NodeWalk}

-- The splits and the proofs of a tree are in order, and the proofs rise by their nodes; the ends are those of the box of all plans.
pub record AreInOrder (n : Net) (t : Splits) (ends : BoxEnds) (lines : List NodeProof) : Type 0 where
  pub limited : IsLimited n
  pub splits : AreCut n t
  pub root : AreRoot n ends
  pub tree : IsTree n (tree_with t.list lines)
  pub rising : IsRising lines

-- the line of a number is this proof, on this node
pub record IsNamed (lines : List NodeProof) (next node : ℕ) (proof : Proof) : Type 0 where
  pub there : next < length lines
  pub line : get_or lines next no_proof ≡ record { node = node; proof = proof }

-- the first so many nodes have their bounds, the proofs that name them are used, and there is room for the box of a node
pub record IsAt (n : Net) (splits : List Split) (lines : List NodeProof) (node : ℕ) (w : NodeWalk) : Type 0 where
  pub judged : AreJudged n splits lines node record { bounds = w.bounds; next = w.next; scratch = w.scratch }
  pub lows : length w.ends.low.items ≡ coords n
  pub highs : length w.ends.high.items ≡ coords n
