use Rattle.std.proofs.Common.{[], ◌∷◌, ◌++◌}
use Rattle.std.specs.Prelude.{codes, decimal}
use Rattle.std.proofs.lemmas.Result.{err_from_is_err_and}
use Rattle.edge_io.proofs.Writes.{front-first, front-behind, wrote-behind}
use Rattle.cert_writing.specs.Text.{line}
use Rattle.tight_texts.specs.Texts.{form_line}
use Rattle.tight_texts.proofs.writing.write_head.Goals as goal

pub returns-in_err-write_whole-clause-wrote : goal.returns-in_err-write_whole-clause-wrote
returns-in_err-write_whole-clause-wrote g c =
    let p = err_from_is_err_and c.from_residual.result c.from_residual.ensures.1 in
    rw p.1 (front-first (g.K.Sink.taken c.args.out.now) (line (codes "pooltight") (codes "1" ∷ [])) ((form_line c.args.form) ++ (line (codes "pivots") (decimal c.args.pivots ∷ []))) (g.K.Sink.taken c.write_whole.new.out) (c.in_err-write_whole.ensures.wrote))

pub returns-in_err-write_form-clause-wrote : goal.returns-in_err-write_form-clause-wrote
returns-in_err-write_form-clause-wrote g c =
    let p = err_from_is_err_and c.from_residual-in_err-write_form.result c.from_residual-in_err-write_form.ensures.1 in
    rw p.1 (front-behind (g.K.Sink.taken c.args.out.now) (line (codes "pooltight") (codes "1" ∷ [])) (g.K.Sink.taken c.write_whole.new.out) ((form_line c.args.form) ++ (line (codes "pivots") (decimal c.args.pivots ∷ []))) (g.K.Sink.taken c.write_form.new.out) (c.in_ok-write_whole.ensures.wrote) (front-first (g.K.Sink.taken c.write_whole.new.out) (form_line c.args.form) (line (codes "pivots") (decimal c.args.pivots ∷ [])) (g.K.Sink.taken c.write_form.new.out) (c.in_err-write_form.ensures.wrote)))

pub returns-clause-wrote : goal.returns-clause-wrote
returns-clause-wrote g c = (wrote-behind c.write_line.result (g.K.Sink.taken c.args.out.now) (line (codes "pooltight") (codes "1" ∷ [])) (g.K.Sink.taken c.write_whole.new.out) ((form_line c.args.form) ++ (line (codes "pivots") (decimal c.args.pivots ∷ []))) (g.K.Sink.taken c.write_line.new.out) (c.in_ok-write_whole.ensures.wrote) (wrote-behind c.write_line.result (g.K.Sink.taken c.write_whole.new.out) (form_line c.args.form) (g.K.Sink.taken c.write_form.new.out) (line (codes "pivots") (decimal c.args.pivots ∷ [])) (g.K.Sink.taken c.write_line.new.out) (c.in_ok-write_form.ensures.wrote) (c.write_line.ensures.wrote)))
