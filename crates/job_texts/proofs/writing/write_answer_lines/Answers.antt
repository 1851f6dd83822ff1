use Rattle.std.proofs.Common.{[], ◌∷◌, length, subst, List, ℕ}
use Rattle.std.specs.Prelude.{decimal, codes}
use Rattle.std.specs.List.{flat_map}
use Rattle.std.proofs.lemmas.Result.{err_from_is_err_and}
use Rattle.edge_io.specs.Writing.{Wrote, TookFront}
use Rattle.edge_io.proofs.Writes.{front-first, wrote-behind}
use Rattle.work_units.specs.Views.{shown_answer}
use Rattle.job_texts.specs.Texts.{answer_lines}
use Rattle.cert_writing.specs.Text.{line}
use Rattle.cert_writing.proofs.Pieces.{counted_text}
use Rattle.job_texts.proofs.writing.write_answer_lines.Goals as goal

pub returns-in_err-write_line-clause-wrote : goal.returns-in_err-write_line-clause-wrote
returns-in_err-write_line-clause-wrote g c =
    let p = err_from_is_err_and c.from_residual.result c.from_residual.ensures.1 in
    rw p.1 (subst (λ (w : List ℕ). TookFront (g.K.Sink.taken c.args.out.now) w (g.K.Sink.taken c.write_line.new.out)) (counted_text (codes "answers") answer_lines shown_answer c.args.answers.now)
    (front-first (g.K.Sink.taken c.args.out.now) (line (codes "answers") (decimal (length c.args.answers.now) ∷ []))
    (flat_map (λ x. answer_lines (shown_answer x)) c.args.answers.now) (g.K.Sink.taken c.write_line.new.out) c.in_err-write_line.ensures.wrote))

pub returns-clause-wrote : goal.returns-clause-wrote
returns-clause-wrote g c =
    subst (λ (w : List ℕ). Wrote c.write_answer_list.result (g.K.Sink.taken c.args.out.now) w (g.K.Sink.taken c.write_answer_list.new.out))
    (counted_text (codes "answers") answer_lines shown_answer c.args.answers.now)
    (wrote-behind c.write_answer_list.result (g.K.Sink.taken c.args.out.now) (line (codes "answers") (decimal (length c.args.answers.now) ∷ []))
    (g.K.Sink.taken c.write_line.new.out) (flat_map (λ x. answer_lines (shown_answer x)) c.args.answers.now) (g.K.Sink.taken c.write_answer_list.new.out)
    c.in_ok-write_line.ensures.wrote c.write_answer_list.ensures.wrote)
