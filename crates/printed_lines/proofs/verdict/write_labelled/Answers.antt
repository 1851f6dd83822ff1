use Rattle.std.proofs.Common.{FitsSigned, rules}
use Rattle.std.specs.Int.{w128}
use Rattle.std.specs.Fmt.{signed_decimal}
use Rattle.std.proofs.lemmas.Int.{to_z-of_z}
use Rattle.std.proofs.lemmas.Result.{err_from_is_err_and}
use Rattle.edge_io.proofs.Writes.{front-first, wrote-behind}
use Rattle.printed_lines.proofs.verdict.write_labelled.Goals as goal

pub returns-in_err-write_whole-clause-wrote : goal.returns-in_err-write_whole-clause-wrote
returns-in_err-write_whole-clause-wrote g c =
    let p = err_from_is_err_and c.from_residual.result c.from_residual.ensures.1 in
    rw p.1 (front-first (g.K.Sink.taken c.args.out.now) c.args.word.now (signed_decimal c.args.n) (g.K.Sink.taken c.write_whole.new.out) c.in_err-write_whole.ensures.wrote)

pub returns-clause-wrote : goal.returns-clause-wrote
returns-clause-wrote g c =
    let fits : FitsSigned w128 c.args.n = search rules in
    wrote-behind c.write_number.result (g.K.Sink.taken c.args.out.now) c.args.word.now (g.K.Sink.taken c.write_whole.new.out)
    (signed_decimal c.args.n) (g.K.Sink.taken c.write_number.new.out) c.in_ok-write_whole.ensures.wrote (simp to_z-of_z at c.write_number.ensures.wrote)
