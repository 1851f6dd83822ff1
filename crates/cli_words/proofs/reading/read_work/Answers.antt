use Rattle.std.proofs.Common.{codes, refl, rules, subst, sym}
use Rattle.clap.specs.Words.{found_of, rows_of}
use Rattle.cli_words.specs.Asks.{IsForm}
use Rattle.cli_words.specs.Requests.{work}
use Rattle.cli_words.specs.Views.{shown_request}
use Rattle.cli_words.proofs.Answering.{refused, wanting, working}
use Rattle.cli_words.proofs.reading.read_work.Goals as goal

pub returns-in_err-form : goal.returns-in_err-form
returns-in_err-form c =
    let asked = working (rows_of (found_of c.args.matches.now)) in
    refused (λ x. x) _ shown_request _ _ _ (search rules) (λ a m. let f = asked a m in (f.0, subst (λ o. IsForm o f.0) (sym c.text_of.ensures) f.1)) c.in_err-form.ensures

pub returns-in_err-copied : goal.returns-in_err-copied
returns-in_err-copied c =
    let rows = rows_of (found_of c.args.matches.now) in
    wanting (codes "work") rows c.in_err-copied.field-0.0 c.from_residual-in_err-copied.result (search rules) c.in_err-copied.ensures.err
    (work c.in-Some.net.now c.in-Some-text_of.jobs.now c.in_ok-form.form)
    record { is = refl; says = (sym c.in-Some.ensures, sym c.in-Some-text_of.ensures, subst (λ o. IsForm o c.in_ok-form.form) c.text_of.ensures c.in_ok-form.ensures) }

pub returns-in_err-copied-2 : goal.returns-in_err-copied-2
returns-in_err-copied-2 c =
    let rows = rows_of (found_of c.args.matches.now) in
    wanting (codes "work") rows c.in_err-copied-2.field-0.0 c.from_residual-in_err-copied-2.result (search rules) c.in_err-copied-2.ensures.err
    (work c.in-Some.net.now c.in-Some-text_of.jobs.now c.in_ok-form.form)
    record { is = refl; says = (sym c.in-Some.ensures, sym c.in-Some-text_of.ensures, subst (λ o. IsForm o c.in_ok-form.form) c.text_of.ensures c.in_ok-form.ensures) }
