-- The nodes of a tree, judged one after another.
use Rattle.std.specs.Prelude.{◌≡◌, ℕ, ◌<◌, ◌≤◌, List, length, get_or, None}
use Rattle.pool_model.specs.Network.{Net}
use Rattle.row_model.specs.Trees.{Split, node_bound}
use Rattle.row_book.specs.Fitting.{Fits}
use Rattle.cert_format.specs.Cert.{NodeProof}
use Rattle.proof_lines.specs.declared.judge.Judge.{Judge}
use Rattle.proof_lines.specs.Refusals.{node_at}
use Rattle.proof_lines.specs.Trees.{AreProved, tree_with}

-- The lines before this one name nodes below a number, and the others don't.
pub record IsNext (lines : List NodeProof) (node next : ℕ) : Type 0 where
  pub within : next ≤ length lines
  pub before : (k : ℕ) → k < next → node_at lines k < node
  pub behind : (k : ℕ) → next ≤ k → k < length lines → node ≤ node_at lines k

-- The first so many nodes are judged: their bounds are there, their proofs are in order, and their lines are read.
pub record AreJudged (n : Net) (splits : List Split) (lines : List NodeProof) (m : ℕ) (j : Judge) : Type 0 where
  pub long : length j.bounds.items ≡ m
  pub bounds : (node : ℕ) → node < m → get_or j.bounds.items node None ≡ node_bound n (tree_with splits lines) node
  pub proved : AreProved n (tree_with splits lines) m
  pub next : IsNext lines m j.next
  pub fits : Fits n j.scratch
