use Rattle.std.proofs.Common.{◌≡◌, ◌-◌, ◌≤◌, List, length}
use Rattle.row_model.specs.Trees as trees
use Rattle.row_model.specs.Trees.{Split}
use Rattle.cert_format.specs.declared.reading.Kind.{Kind}
use Rattle.cert_format.specs.Cert.{NodeProof}
use Rattle.cert_stream.specs.Items.{proofs_left}
use Rattle.proof_lines.specs.Lines.{ArePlacedTo}
use Rattle.proof_lines.specs.Runs.{moment, IsReady}
use Rattle.proof_lines.proofs.Placing.{AreGone}
use Rattle.proof_lines.proofs.line_judge.check_places.Given as goal

-- so many lines are read, each in its place
abbrev pub invariant-loop-k : goal.invariant-loop-k
invariant-loop-k g l =
    (l.first ≤ l.k) × (l.k ≤ l.count)
    × ((kind : Kind) → l.fn.reader.state ≡ proofs_left kind (l.count - l.first)
    → IsReady (moment l.reader (g.S.Shelf.told l.shelf)) (proofs_left kind (l.count - l.k)))
    × ((kind : Kind) (list : List Split) (before : List NodeProof) → l.fn.reader.state ≡ proofs_left kind (l.count - l.first) → l.nodes ≡ trees.nodes list
    → length before ≡ l.first → ArePlacedTo list before l.fn.least
    → AreGone list kind before (moment l.fn.reader (g.S.Shelf.told l.fn.shelf)) (moment l.reader (g.S.Shelf.told l.shelf)) l.count l.k l.least)
