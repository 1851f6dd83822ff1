use Rattle.std.proofs.Common.{[], ◌∷◌, map}
use Rattle.std.specs.List.{flat_map}
use Rattle.std.proofs.lemmas.Result.{err_from_is_err_and}
use Rattle.edge_io.proofs.Writes.{front-second, wrote-three}
use Rattle.cert_writing.specs.Text.{field}
use Rattle.cert_writing.proofs.lines.LineText.put.Goals as goal

pub returns-in_err-put-clause-wrote : goal.returns-in_err-put-clause-wrote
returns-in_err-put-clause-wrote g c =
    let p = err_from_is_err_and c.from_residual-in_err-put.result c.from_residual-in_err-put.ensures.1 in
    rw p.1 (front-second (g.K.Sink.taken c.args.out.now) (c.args.self.now.word.now) (g.K.Sink.taken c.write_whole.new.out)
    (flat_map field (map g.N.Integer.text c.args.self.now.numbers.now)) ((10 ∷ [])) (g.K.Sink.taken c.put.new.out)
    c.in_ok-write_whole.ensures.wrote c.in_err-put.ensures.wrote)

pub returns-clause-wrote : goal.returns-clause-wrote
returns-clause-wrote g c =
    wrote-three c.write_whole-2.result (g.K.Sink.taken c.args.out.now) (c.args.self.now.word.now) (g.K.Sink.taken c.write_whole.new.out)
    (flat_map field (map g.N.Integer.text c.args.self.now.numbers.now)) (g.K.Sink.taken c.put.new.out) (10 ∷ []) (g.K.Sink.taken c.write_whole-2.new.out)
    c.in_ok-write_whole.ensures.wrote c.in_ok-put.ensures.wrote c.write_whole-2.ensures.wrote
