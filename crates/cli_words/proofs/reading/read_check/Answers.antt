use Rattle.std.proofs.Common.{codes, refl, rules, sym}
use Rattle.clap.specs.Words.{found_of, rows_of}
use Rattle.cli_words.specs.Requests.{check}
use Rattle.cli_words.proofs.Answering.{wanting}
use Rattle.cli_words.proofs.reading.read_check.Goals as goal

pub returns-in_err-copied : goal.returns-in_err-copied
returns-in_err-copied c =
    let rows = rows_of (found_of c.args.matches.now) in
    wanting (codes "check") rows c.in_err-copied.field-0.0 c.from_residual.result (search rules) c.in_err-copied.ensures.err (check c.in-Some.net.now c.in-Some-text_of.cert.now)
    record { is = refl; says = (sym c.in-Some.ensures, sym c.in-Some-text_of.ensures) }

pub returns-in_err-copied-2 : goal.returns-in_err-copied-2
returns-in_err-copied-2 c =
    let rows = rows_of (found_of c.args.matches.now) in
    wanting (codes "check") rows c.in_err-copied-2.field-0.0 c.from_residual-in_err-copied-2.result (search rules) c.in_err-copied-2.ensures.err (check c.in-Some.net.now c.in-Some-text_of.cert.now)
    record { is = refl; says = (sym c.in-Some.ensures, sym c.in-Some-text_of.ensures) }
