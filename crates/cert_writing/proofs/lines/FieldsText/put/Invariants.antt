use Rattle.std.proofs.Common.{◌≡◌, take}
use Rattle.std.specs.List.{flat_map}
use Rattle.edge_io.specs.Counts.{Grows}
use Rattle.edge_io.specs.Writing.{behind}
use Rattle.cert_writing.specs.Text.{field}
use Rattle.cert_writing.proofs.lines.FieldsText.put.Given as goal

abbrev pub invariant-loop-n : goal.invariant-loop-n
invariant-loop-n g l =
    (g.K.Sink.taken l.out ≡ behind (g.K.Sink.taken l.fn.out) (flat_map (λ x. field (g.N.Integer.text x)) (take l.n-index l.n-items)))
    × Grows (g.K.Sink.faults l.fn.out) (g.K.Sink.faults l.out)
