use Rattle.std.proofs.Common.{codes, refl, rules, subst, sym}
use Rattle.clap.specs.Words.{found_of, rows_of}
use Rattle.cli_words.specs.Asks.{IsCount}
use Rattle.cli_words.specs.Requests.{jobs}
use Rattle.cli_words.specs.Views.{shown_request}
use Rattle.cli_words.proofs.Answering.{counting, refused, wanting}
use Rattle.cli_words.proofs.reading.read_jobs.Goals as goal

pub returns-in_err-count : goal.returns-in_err-count
returns-in_err-count c =
    let asked = counting (rows_of (found_of c.args.matches.now)) in
    refused (λ x. x) _ shown_request _ _ _ (search rules) (λ a m. let n = asked a m in (n.0, subst (λ o. IsCount o n.0) (sym c.text_of.ensures) n.1)) c.in_err-count.ensures

pub returns-in_err-copied : goal.returns-in_err-copied
returns-in_err-copied c =
    let rows = rows_of (found_of c.args.matches.now) in
    wanting (codes "jobs") rows c.in_err-copied.field-0.0 c.from_residual-in_err-copied.result (search rules) c.in_err-copied.ensures.err
    (jobs c.in-Some.net.now c.in-Some-text_of.file.now c.in_ok-count.count)
    record { is = refl; says = (sym c.in-Some.ensures, sym c.in-Some-text_of.ensures, subst (λ o. IsCount o c.in_ok-count.count) c.text_of.ensures c.in_ok-count.ensures) }

pub returns-in_err-copied-2 : goal.returns-in_err-copied-2
returns-in_err-copied-2 c =
    let rows = rows_of (found_of c.args.matches.now) in
    wanting (codes "jobs") rows c.in_err-copied-2.field-0.0 c.from_residual-in_err-copied-2.result (search rules) c.in_err-copied-2.ensures.err
    (jobs c.in-Some.net.now c.in-Some-text_of.file.now c.in_ok-count.count)
    record { is = refl; says = (sym c.in-Some.ensures, sym c.in-Some-text_of.ensures, subst (λ o. IsCount o c.in_ok-count.count) c.text_of.ensures c.in_ok-count.ensures) }
