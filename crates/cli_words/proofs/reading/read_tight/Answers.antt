use Rattle.std.proofs.Common.{codes, refl, rules, subst, sym}
use Rattle.clap.specs.Words.{found_of, rows_of}
use Rattle.cli_words.specs.Asks.{IsForm, IsPivots}
use Rattle.cli_words.specs.Requests.{tight}
use Rattle.cli_words.specs.Views.{shown_request}
use Rattle.cli_words.proofs.Answering.{refused, tightening, wanting}
use Rattle.cli_words.proofs.reading.read_tight.Goals as goal

pub returns-in_err-form : goal.returns-in_err-form
returns-in_err-form c =
    let asked = tightening (rows_of (found_of c.args.matches.now)) in
    refused (λ x. x) _ shown_request _ _ _ (search rules) (λ a m. let f = (asked a m).0 in (f.0, subst (λ o. IsForm o f.0) (sym c.text_of.ensures) f.1)) c.in_err-form.ensures

pub returns-in_err-pivots : goal.returns-in_err-pivots
returns-in_err-pivots c =
    let asked = tightening (rows_of (found_of c.args.matches.now)) in
    refused (λ x. x) _ shown_request _ _ _ (search rules) (λ a m. let n = (asked a m).1 in (n.0, subst (λ o. IsPivots o n.0) (sym c.text_of-2.ensures) n.1)) c.in_err-pivots.ensures

pub returns-in_err-copied : goal.returns-in_err-copied
returns-in_err-copied c =
    let rows = rows_of (found_of c.args.matches.now) in
    let form = subst (λ o. IsForm o c.in_ok-form.form) c.text_of.ensures c.in_ok-form.ensures in
    let pivots = subst (λ o. IsPivots o c.in_ok-pivots.pivots) c.text_of-2.ensures c.in_ok-pivots.ensures in
    wanting (codes "tight") rows c.in_err-copied.field-0.0 c.from_residual-in_err-copied.result (search rules) c.in_err-copied.ensures.err
    (tight c.in-Some.net.now c.in-Some-text_of.cert.now c.in_ok-form.form c.in_ok-pivots.pivots)
    record { is = refl; says = (sym c.in-Some.ensures, sym c.in-Some-text_of.ensures, form, pivots) }

pub returns-in_err-copied-2 : goal.returns-in_err-copied-2
returns-in_err-copied-2 c =
    let rows = rows_of (found_of c.args.matches.now) in
    let form = subst (λ o. IsForm o c.in_ok-form.form) c.text_of.ensures c.in_ok-form.ensures in
    let pivots = subst (λ o. IsPivots o c.in_ok-pivots.pivots) c.text_of-2.ensures c.in_ok-pivots.ensures in
    wanting (codes "tight") rows c.in_err-copied-2.field-0.0 c.from_residual-in_err-copied-2.result (search rules) c.in_err-copied-2.ensures.err
    (tight c.in-Some.net.now c.in-Some-text_of.cert.now c.in_ok-form.form c.in_ok-pivots.pivots)
    record { is = refl; says = (sym c.in-Some.ensures, sym c.in-Some-text_of.ensures, form, pivots) }
