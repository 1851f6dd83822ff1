use Rattle.std.proofs.Common.{FitsSigned, rules, codes}
use Rattle.std.specs.Int.{w128}
use Rattle.std.proofs.lemmas.Int.{to_z-of_z}
use Rattle.std.proofs.lemmas.Result.{err_from_is_err_and}
use Rattle.edge_io.proofs.Writes.{front-first, wrote-behind}
use Rattle.printed_lines.specs.Verdicts.{labelled}
use Rattle.printed_lines.proofs.verdict.write_numbered.Goals as goal

pub returns-in_err-write_labelled-clause-wrote : goal.returns-in_err-write_labelled-clause-wrote
returns-in_err-write_labelled-clause-wrote g c =
    let fits : FitsSigned w128 c.args.n = search rules in
    let p = err_from_is_err_and c.from_residual.result c.from_residual.ensures.1 in
    rw p.1 (front-first (g.K.Sink.taken c.args.out.now) (labelled c.args.word.now c.args.n) (codes "\n") (g.K.Sink.taken c.write_labelled.new.out)
    (simp to_z-of_z at c.in_err-write_labelled.ensures.wrote))

pub returns-clause-wrote : goal.returns-clause-wrote
returns-clause-wrote g c =
    let fits : FitsSigned w128 c.args.n = search rules in
    wrote-behind c.write_whole.result (g.K.Sink.taken c.args.out.now) (labelled c.args.word.now c.args.n) (g.K.Sink.taken c.write_labelled.new.out)
    (codes "\n") (g.K.Sink.taken c.write_whole.new.out) (simp to_z-of_z at c.in_ok-write_labelled.ensures.wrote) c.write_whole.ensures.wrote
