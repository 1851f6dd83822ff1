use Rattle.std.proofs.Common.{subst}
use Rattle.std.proofs.lemmas.Result.{err_from_is_err_and}
use Rattle.edge_io.specs.Writing.{TookFront}
use Rattle.edge_io.proofs.Writes.{front-list}
use Rattle.work_units.specs.Views.{shown_answer}
use Rattle.job_texts.specs.Texts.{answer_lines}
use Rattle.job_texts.proofs.writing.write_answer_list.Goals as goal

pub returns-in_err-write_text-clause-wrote : goal.returns-in_err-write_text-clause-wrote
returns-in_err-write_text-clause-wrote g c =
    let p = err_from_is_err_and c.from_residual.result c.from_residual.ensures.1 in
    rw p.1 (front-list (λ a. answer_lines (shown_answer a)) c.args.answers.now c.loop-answer.answer-index c.answer-item.result (g.K.Sink.taken c.args.out.now) (g.K.Sink.taken c.loop-answer.out)
    (g.K.Sink.taken c.write_text.new.out) c.loop-answer-test.true c.loop-answer.invariant.0
    (subst (λ a. TookFront (g.K.Sink.taken c.loop-answer.out) (answer_lines (shown_answer a)) (g.K.Sink.taken c.write_text.new.out)) c.answer-item.is c.in_err-write_text.ensures.wrote))
