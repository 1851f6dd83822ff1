use Rattle.std.proofs.Common.{◌≡◌, ◌≤◌, length}
use Rattle.pool_model.specs.Network.{net_of}
use Rattle.row_model.specs.Trees as trees
use Rattle.row_book.specs.Fitting.{Fits}
use Rattle.cert_format.specs.declared.reading.Kind.{Kind}
use Rattle.cert_stream.specs.Items.{proofs_left}
use Rattle.proof_lines.specs.Lines.{HasRoom, AreLinesTaken}
use Rattle.proof_lines.specs.Runs.{moment}
use Rattle.proof_lines.proofs.line_judge.node_bounds.Given as goal

-- so many lines are taken
abbrev pub invariant-loop-k : goal.invariant-loop-k
invariant-loop-k g l =
    (length l.judge.judge.bounds.items ≡ l.least) × (l.judge.judge.next ≡ l.k) × HasRoom (net_of l.net) l.judge × Fits (net_of l.net) l.judge.judge.scratch
    × (l.k ≤ l.count) × (l.least ≤ trees.nodes l.tree.list)
    × ((kind : Kind) → l.fn.reader.state ≡ proofs_left kind l.count
    → AreLinesTaken (net_of l.net) l.tree.list kind (moment l.fn.reader (g.S.Shelf.told l.fn.shelf)) (moment l.reader (g.S.Shelf.told l.shelf)) l.count l.k l.least l.judge.judge)
