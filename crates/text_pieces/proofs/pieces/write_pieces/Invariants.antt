use Rattle.std.proofs.Common.{◌≡◌, take}
use Rattle.std.specs.List.{flat_map}
use Rattle.edge_io.specs.Counts.{Grows}
use Rattle.edge_io.specs.Writing.{behind}
use Rattle.text_pieces.specs.Pieces.{piece_text}
use Rattle.text_pieces.proofs.pieces.write_pieces.Given as goal

abbrev pub invariant-loop-piece : goal.invariant-loop-piece
invariant-loop-piece g l =
    (g.K.Sink.taken l.out ≡ behind (g.K.Sink.taken l.fn.out) (flat_map piece_text (take l.piece-index l.pieces)))
    × Grows (g.K.Sink.faults l.fn.out) (g.K.Sink.faults l.out)
