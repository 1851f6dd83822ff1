use Rattle.std.proofs.Common.{codes, refl, rules, subst, sym}
use Rattle.clap.specs.Words.{found_of, rows_of}
use Rattle.cli_words.specs.Asks.{IsForm}
use Rattle.cli_words.specs.Requests.{formulate}
use Rattle.cli_words.specs.Views.{shown_request}
use Rattle.cli_words.proofs.Answering.{formulating, refused, wanting}
use Rattle.cli_words.proofs.reading.read_formulate.Goals as goal

pub returns-in_err-form : goal.returns-in_err-form
returns-in_err-form c =
    let asked = formulating (rows_of (found_of c.args.matches.now)) in
    refused (λ x. x) _ shown_request _ _ _ (search rules) (λ a m. let f = asked a m in (f.0, subst (λ o. IsForm o f.0) (sym c.text_of.ensures) f.1)) c.in_err-form.ensures

pub returns-in_err-copied : goal.returns-in_err-copied
returns-in_err-copied c =
    let rows = rows_of (found_of c.args.matches.now) in
    wanting (codes "formulate") rows c.in_err-copied.field-0.0 c.from_residual-in_err-copied.result (search rules) c.in_err-copied.ensures.err (formulate c.in-Some.net.now c.in_ok-form.form)
    record { is = refl; says = (sym c.in-Some.ensures, subst (λ o. IsForm o c.in_ok-form.form) c.text_of.ensures c.in_ok-form.ensures) }
