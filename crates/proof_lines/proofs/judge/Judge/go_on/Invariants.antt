use Rattle.std.proofs.Common.{◌≡◌, ◌<◌, ◌≤◌, List, length}
use Rattle.pool_model.specs.Network.{Net}
use Rattle.pool_model.specs.Starting.{reach_bound}
use Rattle.split_tree.specs.Splits.{IsOf}
use Rattle.cert_format.specs.Cert.{NodeProof}
use Rattle.cert_format.specs.Valid.{IsRising}
use Rattle.proof_lines.specs.Judging.{AreJudged}
use Rattle.proof_lines.specs.Refusals.{node_at}
use Rattle.proof_lines.proofs.judge.Judge.go_on.Given as goal

-- the nodes so far are judged
abbrev pub invariant-loop-at : goal.invariant-loop-at
invariant-loop-at l =
    (length l.self.bounds.items ≡ l.at) × (l.at ≤ l.node) × (l.self.next ≡ l.fn.self.next) × (l.self.scratch ≡ l.fn.self.scratch)
    × ((n : Net) (all : List NodeProof) → IsOf n l.tree → l.reach ≡ reach_bound n → IsRising all → AreJudged n l.tree.list all (length l.fn.self.bounds.items) l.fn.self
    → (l.fn.self.next < length all → l.node ≤ node_at all l.fn.self.next) → AreJudged n l.tree.list all l.at l.self)
