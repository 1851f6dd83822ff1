use Rattle.std.proofs.Common.{List, map, sym, subst}
use Rattle.pool_model.specs.Network.{net_of}
use Rattle.work_units.specs.Views.{shown_answer}
use Rattle.work_units.specs.declared.answer.Answer.{Answer}
use Rattle.job_texts.specs.Texts.{answers_text}
use Rattle.run_status.specs.declared.status.Status.TheVariants.{Done}
use Rattle.job_commands.specs.WorkEnds.{IsWorkOn}
use Rattle.job_commands.proofs.working.work_handed.Goals as goal

pub returns-in-Ok-write_answers-clause-took : goal.returns-in-Ok-write_answers-clause-took
returns-in-Ok-write_answers-clause-took g c = λ j is.
    let work = subst (λ (xs : List Answer). IsWorkOn (net_of c.args.network.now) c.args.form j (answers_text (map shown_answer xs))) (sym c.as_slice.ensures.value) (c.in-Ok.ensures j is) in
    (answers_text (map shown_answer c.as_slice.result.now), work, c.in-Ok-write_answers.ensures.wrote)

pub returns-in-Ok-clause-took : goal.returns-in-Ok-clause-took
returns-in-Ok-clause-took g c = λ j is.
    let work = subst (λ (xs : List Answer). IsWorkOn (net_of c.args.network.now) c.args.form j (answers_text (map shown_answer xs))) (sym c.as_slice.ensures.value) (c.in-Ok.ensures j is) in
    (answers_text (map shown_answer c.as_slice.result.now), (Done, work), c.in-Err-write_answers.ensures.wrote)
