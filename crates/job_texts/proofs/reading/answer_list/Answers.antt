use Rattle.std.proofs.Common.{false}
use Rattle.std.proofs.lemmas.Result.{err_from_is_err_and}
use Rattle.cert_text.specs.Reading.{each_at}
use Rattle.cert_text.proofs.Each.{each-push, each-end}
use Rattle.work_units.specs.Views.{shown_answer}
use Rattle.job_texts.specs.Reading.{answer_at}
use Rattle.job_texts.specs.Views.{place_of, shown_answers}
use Rattle.cert_text.proofs.Outcomes.{each-halts}
use Rattle.job_texts.proofs.reading.answer_list.Goals as goal

pub returns-in_err-answer : goal.returns-in_err-answer
returns-in_err-answer c =
    let p = err_from_is_err_and c.from_residual.result c.from_residual.ensures.1 in
    rw (p.1, p.2) (each-halts (λ _. answer_at) c.args.n c.loop.counter (shown_answers c.loop.answers)
    (place_of c.loop.src) c.in_err-answer.field-0.0 false (each_at (λ _. answer_at) c.args.n (place_of c.args.src.now)) c.loop-test.true
    c.in_err-answer.ensures c.loop.invariant)

pub loop-preserved : goal.loop-preserved
loop-preserved c =
    each-push shown_answer (λ _. answer_at) c.args.n c.loop.counter c.loop.answers.items c.push.new.self.items (place_of c.loop.src)
    (place_of c.answer.new.src) c.in_ok-answer.answer (each_at (λ _. answer_at) c.args.n (place_of c.args.src.now)) c.in_ok-push.ensures.items c.loop-test.true
    c.in_ok-answer.ensures c.loop.invariant

pub returns : goal.returns
returns c = each-end (λ _. answer_at) c.args.n c.loop.counter (shown_answers c.loop.answers) (place_of c.loop.src)
    (each_at (λ _. answer_at) c.args.n (place_of c.args.src.now)) c.loop-test.false c.loop.invariant
