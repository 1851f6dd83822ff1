use Rattle.std.proofs.lemmas.Result.{err_from_is_err_and}
use Rattle.edge_io.proofs.Writes.{front-list}
use Rattle.text_pieces.specs.Pieces.{piece_text}
use Rattle.text_pieces.proofs.pieces.write_pieces.Goals as goal

pub returns-in_err-write_piece-clause-wrote : goal.returns-in_err-write_piece-clause-wrote
returns-in_err-write_piece-clause-wrote g c =
    let p = err_from_is_err_and c.from_residual.result c.from_residual.ensures.1 in
    rw p.1 (front-list piece_text c.args.pieces.now c.loop-piece.piece-index _ (g.K.Sink.taken c.args.out.now) (g.K.Sink.taken c.loop-piece.out)
    (g.K.Sink.taken c.write_piece.new.out) c.loop-piece-test.true c.loop-piece.invariant.0 c.in_err-write_piece.ensures.wrote)
