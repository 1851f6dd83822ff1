use Rattle.std.proofs.Common.{◌-◌, length, replicate}
use Rattle.std.proofs.lemmas.Result.{err_from_is_err_and}
use Rattle.edge_io.proofs.Writes.{front-first, wrote-behind}
use Rattle.text_pieces.specs.Decimals.{signed_text}
use Rattle.text_pieces.proofs.decimals.write_right.Goals as goal

pub returns-in_err-write_spaces-clause-wrote : goal.returns-in_err-write_spaces-clause-wrote
returns-in_err-write_spaces-clause-wrote g c =
    let text = signed_text c.args.negative c.args.size in
    let p = err_from_is_err_and c.from_residual.result c.from_residual.ensures.1 in
    rw p.1 (front-first (g.K.Sink.taken c.args.out.now) (replicate (20 - length text) 32) text (g.K.Sink.taken c.write_spaces.new.out)
    (rw c.signed_length.ensures at c.in_err-write_spaces.ensures.wrote))

pub returns-clause-wrote : goal.returns-clause-wrote
returns-clause-wrote g c =
    let text = signed_text c.args.negative c.args.size in
    wrote-behind c.write_signed.result (g.K.Sink.taken c.args.out.now) (replicate (20 - length text) 32) (g.K.Sink.taken c.write_spaces.new.out) text
    (g.K.Sink.taken c.write_signed.new.out) (rw c.signed_length.ensures at c.in_ok-write_spaces.ensures.wrote) c.write_signed.ensures.wrote
