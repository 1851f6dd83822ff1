use Rattle.std.proofs.Common.{◌≡◌}
use Rattle.edge_io.specs.Counts.{Grows}
use Rattle.edge_io.specs.Writing.{behind}
use Rattle.pool_model.specs.Network.{net_of}
use Rattle.text_pieces.specs.Pieces.{each_below}
use Rattle.program_text.specs.Lines.{mixed_line}
use Rattle.program_text.proofs.products.write_mixed.Given as goal

abbrev pub invariant-loop-number : goal.invariant-loop-number
invariant-loop-number g l =
    (g.K.Sink.taken l.out ≡ behind (g.K.Sink.taken l.fn.out) (each_below (mixed_line (net_of l.net)) l.number))
    × Grows (g.K.Sink.faults l.fn.out) (g.K.Sink.faults l.out)
