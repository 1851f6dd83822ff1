use Rattle.std.proofs.Common.{subst}
use Rattle.std.proofs.lemmas.Result.{err_from_is_err_and}
use Rattle.edge_io.specs.Writing.{TookFront}
use Rattle.edge_io.proofs.Writes.{front-list}
use Rattle.cert_writing.proofs.text.RefSliceText.put.Goals as goal

pub returns-in_err-put-clause-wrote : goal.returns-in_err-put-clause-wrote
returns-in_err-put-clause-wrote g c =
    let p = err_from_is_err_and c.from_residual.result c.from_residual.ensures.1 in
    rw p.1 (front-list g.T.Text.text c.args.self.now.now c.loop-item.item-index c.item-item.result (g.K.Sink.taken c.args.out.now)
    (g.K.Sink.taken c.loop-item.out) (g.K.Sink.taken c.put.new.out) c.loop-item-test.true c.loop-item.invariant.0
    (subst (λ item. TookFront (g.K.Sink.taken c.loop-item.out) (g.T.Text.text item) (g.K.Sink.taken c.put.new.out)) c.item-item.is c.in_err-put.ensures.wrote))
