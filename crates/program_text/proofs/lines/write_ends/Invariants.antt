use Rattle.std.proofs.Common.{◌≡◌}
use Rattle.edge_io.specs.Counts.{Grows}
use Rattle.edge_io.specs.Writing.{behind}
use Rattle.pool_model.specs.Network.{net_of}
use Rattle.box_space.specs.Views.{shown_box}
use Rattle.text_pieces.specs.Pieces.{each_below}
use Rattle.program_text.specs.Lines.{ends_text}
use Rattle.program_text.proofs.lines.write_ends.Given as goal

abbrev pub invariant-loop-var : goal.invariant-loop-var
invariant-loop-var g l =
    (g.K.Sink.taken l.out ≡ behind (g.K.Sink.taken l.fn.out) (each_below (ends_text (net_of l.net) (shown_box l.v) l.form) l.var))
    × Grows (g.K.Sink.faults l.fn.out) (g.K.Sink.faults l.out)
