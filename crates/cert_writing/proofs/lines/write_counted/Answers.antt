use Rattle.std.proofs.Common.{[], ◌∷◌, length}
use Rattle.std.specs.Prelude.{decimal}
use Rattle.std.specs.List.{flat_map}
use Rattle.std.proofs.lemmas.Result.{err_from_is_err_and}
use Rattle.edge_io.proofs.Writes.{front-first, wrote-behind}
use Rattle.cert_writing.specs.Text.{line}
use Rattle.cert_writing.proofs.lines.write_counted.Goals as goal

pub returns-in_err-write_line-clause-wrote : goal.returns-in_err-write_line-clause-wrote
returns-in_err-write_line-clause-wrote g c =
    let p = err_from_is_err_and c.from_residual.result c.from_residual.ensures.1 in
    rw p.1 (front-first (g.K.Sink.taken c.args.out.now) (line c.args.word.now (decimal (length c.args.items.now) ∷ []))
    (flat_map g.T.Text.text c.args.items.now) (g.K.Sink.taken c.write_line.new.out) c.in_err-write_line.ensures.wrote)

pub returns-clause-wrote : goal.returns-clause-wrote
returns-clause-wrote g c =
    wrote-behind c.write_list.result (g.K.Sink.taken c.args.out.now) (line c.args.word.now (decimal (length c.args.items.now) ∷ []))
    (g.K.Sink.taken c.write_line.new.out) (flat_map g.T.Text.text c.args.items.now) (g.K.Sink.taken c.write_list.new.out)
    c.in_ok-write_line.ensures.wrote c.write_list.ensures.wrote
