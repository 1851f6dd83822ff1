use Rattle.std.proofs.Common.{◌≡◌, ◌-◌, ◌≤◌, ℕ}
use Rattle.cert_format.specs.declared.reading.Kind.{Kind}
use Rattle.cert_stream.specs.Items.{parts_left}
use Rattle.proof_lines.specs.Lines.{ArePartsSkipped}
use Rattle.proof_lines.specs.Runs.{moment}
use Rattle.proof_lines.proofs.line_judge.skip_parts.Given as goal

-- so many parts are read
abbrev pub invariant-loop : goal.invariant-loop
invariant-loop g l =
    (l.counter ≤ l.count) × ((kind : Kind) (behind : ℕ) → l.fn.reader.state ≡ parts_left kind l.count behind
    → ArePartsSkipped l.counter (parts_left kind (l.count - l.counter) behind) (moment l.fn.reader (g.S.Shelf.told l.fn.shelf)) (moment l.reader (g.S.Shelf.told l.shelf)))
