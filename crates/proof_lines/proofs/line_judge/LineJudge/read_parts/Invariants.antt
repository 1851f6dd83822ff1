use Rattle.std.proofs.Common.{◌≡◌, ℕ, vec_capacity}
use Rattle.cert_format.specs.declared.reading.Kind.{Kind}
use Rattle.cert_stream.specs.Items.{parts_left}
use Rattle.proof_lines.specs.Runs.{moment}
use Rattle.proof_lines.proofs.Parting.{ArePartsRead}
use Rattle.proof_lines.proofs.line_judge.LineJudge.read_parts.Given as goal

-- so many parts are read
abbrev pub invariant-loop-i : goal.invariant-loop-i
invariant-loop-i g l =
    (l.self.judge ≡ l.fn.self.judge) × (l.self.root ≡ l.fn.self.root) × (l.self.ends ≡ l.fn.self.ends) × (l.self.rows ≡ l.fn.self.rows)
    × (vec_capacity l.self.proof.parts ≡ vec_capacity l.fn.self.proof.parts)
    × ((kind : Kind) (behind : ℕ) → l.fn.reader.state ≡ parts_left kind l.line.count behind
    → ArePartsRead kind behind (moment l.fn.reader (g.S.Shelf.told l.fn.shelf))
    (moment l.reader (g.S.Shelf.told l.shelf)) l.line.count l.i l.fn.self.rows l.line.scale l.self.proof l.rise l.least)
