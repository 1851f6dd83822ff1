use Rattle.std.proofs.Common.{subst}
use Rattle.std.proofs.lemmas.List.{take_all}
use Rattle.std.proofs.lemmas.Result.{err_from_is_err_and}
use Rattle.edge_io.specs.Writing.{TookFront}
use Rattle.cert_writing.specs.Text.{field}
use Rattle.cert_writing.proofs.Pieces.{front-shown, all-shown}
use Rattle.cert_writing.proofs.lines.FieldsText.put.Goals as goal

pub returns-in_err-write_field-clause-wrote : goal.returns-in_err-write_field-clause-wrote
returns-in_err-write_field-clause-wrote g c =
    let p = err_from_is_err_and c.from_residual.result c.from_residual.ensures.1 in
    rw p.1 (front-shown field g.N.Integer.text c.args.self.now.0.now c.loop-n.n-index c.n-item.result (g.K.Sink.taken c.args.out.now)
    (g.K.Sink.taken c.loop-n.out) (g.K.Sink.taken c.write_field.new.out) c.loop-n-test.true c.loop-n.invariant.0
    (subst (λ n. TookFront (g.K.Sink.taken c.loop-n.out) (field (g.N.Integer.text n)) (g.K.Sink.taken c.write_field.new.out)) c.n-item.is c.in_err-write_field.ensures.wrote))

pub returns-clause-wrote : goal.returns-clause-wrote
returns-clause-wrote g c =
    all-shown field g.N.Integer.text c.args.self.now.0.now c.loop-n.n-index (g.K.Sink.taken c.args.out.now) (g.K.Sink.taken c.loop-n.out)
    (take_all c.loop-n.n-index c.args.self.now.0.now c.loop-n-test.false) c.loop-n.invariant.0
