use Rattle.std.proofs.Common.{◌++◌, codes}
use Rattle.std.proofs.lemmas.Result.{err_from_is_err_and}
use Rattle.edge_io.proofs.Writes.{front-first, front-behind, wrote-behind}
use Rattle.run_status.specs.Messages.{reason_of}
use Rattle.run_status.proofs.status.write_refusal.Goals as goal

pub returns-in_err-write_whole-clause-wrote : goal.returns-in_err-write_whole-clause-wrote
returns-in_err-write_whole-clause-wrote g c =
    let p = err_from_is_err_and c.from_residual.result c.from_residual.ensures.1 in
    rw p.1 (front-first (g.K.Sink.taken c.args.err.now) (codes "pool: network refused: ") (reason_of c.args.cause.now ++ codes "\n")
    (g.K.Sink.taken c.write_whole.new.out) c.in_err-write_whole.ensures.wrote)

pub returns-in_err-write_reason-clause-wrote : goal.returns-in_err-write_reason-clause-wrote
returns-in_err-write_reason-clause-wrote g c =
    let p = err_from_is_err_and c.from_residual-in_err-write_reason.result c.from_residual-in_err-write_reason.ensures.1 in
    rw p.1 (front-behind (g.K.Sink.taken c.args.err.now) (codes "pool: network refused: ") (g.K.Sink.taken c.write_whole.new.out)
    (reason_of c.args.cause.now ++ codes "\n") (g.K.Sink.taken c.write_reason.new.err) c.in_ok-write_whole.ensures.wrote
    (front-first (g.K.Sink.taken c.write_whole.new.out) (reason_of c.args.cause.now) (codes "\n") (g.K.Sink.taken c.write_reason.new.err) c.in_err-write_reason.ensures.wrote))

pub returns-clause-wrote : goal.returns-clause-wrote
returns-clause-wrote g c =
    wrote-behind c.write_whole-2.result (g.K.Sink.taken c.args.err.now) (codes "pool: network refused: ") (g.K.Sink.taken c.write_whole.new.out)
    (reason_of c.args.cause.now ++ codes "\n") (g.K.Sink.taken c.write_whole-2.new.out) c.in_ok-write_whole.ensures.wrote
    (wrote-behind c.write_whole-2.result (g.K.Sink.taken c.write_whole.new.out) (reason_of c.args.cause.now) (g.K.Sink.taken c.write_reason.new.err)
    (codes "\n") (g.K.Sink.taken c.write_whole-2.new.out) c.in_ok-write_reason.ensures.wrote c.write_whole-2.ensures.wrote)
