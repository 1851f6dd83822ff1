use Rattle.std.proofs.Common.{[], ◌∷◌}
use Rattle.std.proofs.lemmas.Result.{err_from_is_err_and}
use Rattle.edge_io.proofs.Writes.{front-first, wrote-behind}
use Rattle.cert_writing.proofs.Pieces.{proof_fields}
use Rattle.job_texts.proofs.writing.write_proof.Goals as goal

pub returns-in_err-put-clause-wrote : goal.returns-in_err-put-clause-wrote
returns-in_err-put-clause-wrote g c =
    let p = err_from_is_err_and c.from_residual.result c.from_residual.ensures.1 in
    rw p.1 (front-first (g.K.Sink.taken c.args.out.now) (proof_fields c.args.proof.now) (10 ∷ []) (g.K.Sink.taken c.put.new.out) c.in_err-put.ensures.wrote)

pub returns-clause-wrote : goal.returns-clause-wrote
returns-clause-wrote g c =
    wrote-behind c.write_whole.result (g.K.Sink.taken c.args.out.now) (proof_fields c.args.proof.now) (g.K.Sink.taken c.put.new.out) (10 ∷ [])
    (g.K.Sink.taken c.write_whole.new.out) c.in_ok-put.ensures.wrote c.write_whole.ensures.wrote
