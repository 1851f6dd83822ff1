use Rattle.std.proofs.Common.{◌≡◌, take}
use Rattle.std.specs.List.{flat_map}
use Rattle.edge_io.specs.Counts.{Grows}
use Rattle.edge_io.specs.Writing.{behind}
use Rattle.gather_command.specs.Told.{line_text}
use Rattle.gather_command.proofs.told.write_lines.Given as goal

abbrev pub invariant-loop-line : goal.invariant-loop-line
invariant-loop-line g l =
    (g.K.Sink.taken l.out ≡ behind (g.K.Sink.taken l.fn.out) (flat_map line_text (take l.line-index l.lines)))
    × Grows (g.K.Sink.faults l.fn.out) (g.K.Sink.faults l.out)
