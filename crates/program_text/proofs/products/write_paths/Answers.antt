use Rattle.std.proofs.Common.{arith}
use Rattle.std.proofs.lemmas.Result.{err_from_is_err_and}
use Rattle.pool_model.specs.Network.{net_of}
use Rattle.row_model.specs.Variables.{path_count}
use Rattle.program_text.specs.Lines.{path_line}
use Rattle.text_pieces.proofs.Each.{front-each}
use Rattle.program_text.proofs.products.write_paths.Goals as goal

pub returns-in_err-write_path-clause-wrote : goal.returns-in_err-write_path-clause-wrote
returns-in_err-write_path-clause-wrote g c =
    let n = net_of c.args.net.now in
    let p = err_from_is_err_and c.from_residual.result c.from_residual.ensures.1 in
    rw p.1 (front-each (path_line n) c.loop-path.path (path_count n) (g.K.Sink.taken c.args.out.now) (g.K.Sink.taken c.loop-path.out)
    (g.K.Sink.taken c.write_path.new.out) (omega (arith, c.paths-path-end.ensures.count)) c.loop-path.invariant.0 c.in_err-write_path.ensures.wrote)
