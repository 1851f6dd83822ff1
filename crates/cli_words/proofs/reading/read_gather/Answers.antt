use Rattle.std.proofs.Common.{codes, refl, rules, sym}
use Rattle.clap.specs.Words.{found_of, rows_of}
use Rattle.command_items.specs.Views.{values_under}
use Rattle.cli_words.specs.Requests.{gather}
use Rattle.cli_words.proofs.Answering.{wanting}
use Rattle.cli_words.proofs.reading.read_gather.Goals as goal

pub returns-in_err-net : goal.returns-in_err-net
returns-in_err-net c =
    let rows = rows_of (found_of c.args.matches.now) in
    wanting (codes "gather") rows c.in_err-net.field-0.0 c.from_residual.result (search rules) c.in_err-net.ensures.err
    (gather c.in-Some.net.now c.in-Some-text_of.jobs.now (values_under rows (codes "answers")) c.in-Some-text_of-2.journal.now)
    record { is = refl; says = (sym c.in-Some.ensures, sym c.in-Some-text_of.ensures, refl, sym c.in-Some-text_of-2.ensures) }

pub returns-in_err-jobs : goal.returns-in_err-jobs
returns-in_err-jobs c =
    let rows = rows_of (found_of c.args.matches.now) in
    wanting (codes "gather") rows c.in_err-jobs.field-0.0 c.from_residual-in_err-jobs.result (search rules) c.in_err-jobs.ensures.err
    (gather c.in-Some.net.now c.in-Some-text_of.jobs.now (values_under rows (codes "answers")) c.in-Some-text_of-2.journal.now)
    record { is = refl; says = (sym c.in-Some.ensures, sym c.in-Some-text_of.ensures, refl, sym c.in-Some-text_of-2.ensures) }

pub returns-in_err-answers : goal.returns-in_err-answers
returns-in_err-answers c =
    let rows = rows_of (found_of c.args.matches.now) in
    wanting (codes "gather") rows c.in_err-answers.field-0.0 c.from_residual-in_err-answers.result (search rules) c.in_err-answers.ensures.err
    (gather c.in-Some.net.now c.in-Some-text_of.jobs.now (values_under rows (codes "answers")) c.in-Some-text_of-2.journal.now)
    record { is = refl; says = (sym c.in-Some.ensures, sym c.in-Some-text_of.ensures, refl, sym c.in-Some-text_of-2.ensures) }

pub returns-in_err-copied : goal.returns-in_err-copied
returns-in_err-copied c =
    let rows = rows_of (found_of c.args.matches.now) in
    wanting (codes "gather") rows c.in_err-copied.field-0.0 c.from_residual-in_err-copied.result (search rules) c.in_err-copied.ensures.err
    (gather c.in-Some.net.now c.in-Some-text_of.jobs.now (values_under rows (codes "answers")) c.in-Some-text_of-2.journal.now)
    record { is = refl; says = (sym c.in-Some.ensures, sym c.in-Some-text_of.ensures, refl, sym c.in-Some-text_of-2.ensures) }
