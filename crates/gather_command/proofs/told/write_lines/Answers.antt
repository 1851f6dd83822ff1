use Rattle.std.proofs.lemmas.Result.{err_from_is_err_and}
use Rattle.edge_io.proofs.Writes.{front-list}
use Rattle.gather_command.specs.Told.{line_text}
use Rattle.gather_command.proofs.told.write_lines.Goals as goal

pub returns-in_err-write_one-clause-wrote : goal.returns-in_err-write_one-clause-wrote
returns-in_err-write_one-clause-wrote g c =
    let p = err_from_is_err_and c.from_residual.result c.from_residual.ensures.1 in
    rw p.1 (front-list line_text c.args.lines.now c.loop-line.line-index _ (g.K.Sink.taken c.args.out.now) (g.K.Sink.taken c.loop-line.out)
    (g.K.Sink.taken c.write_one.new.out) c.loop-line-test.true c.loop-line.invariant.0 c.in_err-write_one.ensures.wrote)
