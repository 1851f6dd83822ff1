use Rattle.std.proofs.Common.{◌≡◌}
use Rattle.edge_io.specs.Counts.{Grows}
use Rattle.edge_io.specs.Writing.{behind}
use Rattle.pool_model.specs.Network.{net_of}
use Rattle.text_pieces.specs.Pieces.{each_below}
use Rattle.program_text.specs.Lines.{path_line}
use Rattle.program_text.proofs.products.write_paths.Given as goal

abbrev pub invariant-loop-path : goal.invariant-loop-path
invariant-loop-path g l =
    (g.K.Sink.taken l.out ≡ behind (g.K.Sink.taken l.fn.out) (each_below (path_line (net_of l.net)) l.path))
    × Grows (g.K.Sink.faults l.fn.out) (g.K.Sink.faults l.out)
