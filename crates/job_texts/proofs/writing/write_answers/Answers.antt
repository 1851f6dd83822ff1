use Rattle.std.proofs.Common.{[], ◌∷◌, ◌++◌, map}
use Rattle.std.specs.Prelude.{codes}
use Rattle.std.proofs.lemmas.Result.{err_from_is_err_and}
use Rattle.edge_io.proofs.Writes.{front-first, front-second, wrote-three}
use Rattle.cert_writing.specs.Text.{line}
use Rattle.work_units.specs.Views.{shown_answer}
use Rattle.job_texts.specs.Texts.{answer_list}
use Rattle.job_texts.proofs.writing.write_answers.Goals as goal

pub returns-in_err-write_whole-clause-wrote : goal.returns-in_err-write_whole-clause-wrote
returns-in_err-write_whole-clause-wrote g c =
    let p = err_from_is_err_and c.from_residual.result c.from_residual.ensures.1 in
    rw p.1 (front-first (g.K.Sink.taken c.args.out.now) (line (codes "poolwork") (codes "1" ∷ []))
    (answer_list (map shown_answer c.args.answers.now) ++ line (codes "end") []) (g.K.Sink.taken c.write_whole.new.out) c.in_err-write_whole.ensures.wrote)

pub returns-in_err-write_answer_lines-clause-wrote : goal.returns-in_err-write_answer_lines-clause-wrote
returns-in_err-write_answer_lines-clause-wrote g c =
    let p = err_from_is_err_and c.from_residual-in_err-write_answer_lines.result c.from_residual-in_err-write_answer_lines.ensures.1 in
    rw p.1 (front-second (g.K.Sink.taken c.args.out.now) (line (codes "poolwork") (codes "1" ∷ [])) (g.K.Sink.taken c.write_whole.new.out)
    (answer_list (map shown_answer c.args.answers.now)) (line (codes "end") []) (g.K.Sink.taken c.write_answer_lines.new.out)
    c.in_ok-write_whole.ensures.wrote c.in_err-write_answer_lines.ensures.wrote)

pub returns-clause-wrote : goal.returns-clause-wrote
returns-clause-wrote g c =
    wrote-three c.write_whole-2.result (g.K.Sink.taken c.args.out.now) (line (codes "poolwork") (codes "1" ∷ [])) (g.K.Sink.taken c.write_whole.new.out)
    (answer_list (map shown_answer c.args.answers.now)) (g.K.Sink.taken c.write_answer_lines.new.out) (line (codes "end") []) (g.K.Sink.taken c.write_whole-2.new.out)
    c.in_ok-write_whole.ensures.wrote c.in_ok-write_answer_lines.ensures.wrote c.write_whole-2.ensures.wrote
