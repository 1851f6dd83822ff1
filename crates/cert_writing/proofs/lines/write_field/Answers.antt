use Rattle.std.proofs.Common.{◌∷◌, [], ◌∙◌}
use Rattle.std.proofs.lemmas.Result.{err_from_is_err_and}
use Rattle.edge_io.proofs.Writes.{front-first, wrote-behind, wrote-same}
use Rattle.cert_writing.proofs.lines.write_field.Goals as goal

pub returns-in_err-write_whole-clause-wrote : goal.returns-in_err-write_whole-clause-wrote
returns-in_err-write_whole-clause-wrote g c =
    let p = err_from_is_err_and c.from_residual.result c.from_residual.ensures.1 in
    rw p.1 (front-first (g.K.Sink.taken c.args.out.now) (32 ∷ []) (g.N.Integer.text c.args.n) (g.K.Sink.taken c.write_whole.new.out) c.in_err-write_whole.ensures.wrote)

pub returns-clause-wrote : goal.returns-clause-wrote
returns-clause-wrote g c =
    wrote-behind c.write_whole-2.result (g.K.Sink.taken c.args.out.now) (32 ∷ []) (g.K.Sink.taken c.write_whole.new.out) (g.N.Integer.text c.args.n)
    (g.K.Sink.taken c.write_whole-2.new.out) c.in_ok-write_whole.ensures.wrote
    (wrote-same c.write_whole-2.result (g.K.Sink.taken c.write_whole.new.out) c.as_bytes.result.now (g.N.Integer.text c.args.n)
    (g.K.Sink.taken c.write_whole-2.new.out) (c.as_bytes.ensures.value ∙ c.format.ensures.text) c.write_whole-2.ensures.wrote)
