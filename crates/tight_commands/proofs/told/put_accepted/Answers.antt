use Rattle.std.proofs.lemmas.Result.{err_from_is_err_and}
use Rattle.edge_io.proofs.Writes.{front-first, wrote-behind}
use Rattle.tight_commands.specs.Lines.{bound_text, counts_text}
use Rattle.tight_commands.proofs.told.put_accepted.Goals as goal

pub returns-in_err-write_counts-clause-wrote : goal.returns-in_err-write_counts-clause-wrote
returns-in_err-write_counts-clause-wrote g c =
    let p = err_from_is_err_and c.from_residual.result c.from_residual.ensures.1 in
    rw p.1 (front-first (g.K.Sink.taken c.args.out.now) (counts_text c.args.verdict.now) (bound_text c.args.verdict.now.bound) (g.K.Sink.taken c.write_counts.new.out)
    c.in_err-write_counts.ensures.wrote)

pub returns-clause-wrote : goal.returns-clause-wrote
returns-clause-wrote g c =
    wrote-behind c.write_bound.result (g.K.Sink.taken c.args.out.now) (counts_text c.args.verdict.now) (g.K.Sink.taken c.write_counts.new.out)
    (bound_text c.args.verdict.now.bound) (g.K.Sink.taken c.write_bound.new.out) c.in_ok-write_counts.ensures.wrote c.write_bound.ensures.wrote
