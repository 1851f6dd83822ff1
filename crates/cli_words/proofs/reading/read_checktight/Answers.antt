use Rattle.std.proofs.Common.{codes, refl, rules, sym}
use Rattle.clap.specs.Words.{found_of, rows_of}
use Rattle.cli_words.specs.Requests.{checktight}
use Rattle.cli_words.proofs.Answering.{wanting}
use Rattle.cli_words.proofs.reading.read_checktight.Goals as goal

pub returns-in_err-net : goal.returns-in_err-net
returns-in_err-net c =
    let rows = rows_of (found_of c.args.matches.now) in
    wanting (codes "checktight") rows c.in_err-net.field-0.0 c.from_residual.result (search rules) c.in_err-net.ensures.err
    (checktight c.in-Some.net.now c.in-Some-text_of.cert.now c.in-Some-text_of-2.marks.now)
    record { is = refl; says = (sym c.in-Some.ensures, sym c.in-Some-text_of.ensures, sym c.in-Some-text_of-2.ensures) }

pub returns-in_err-cert : goal.returns-in_err-cert
returns-in_err-cert c =
    let rows = rows_of (found_of c.args.matches.now) in
    wanting (codes "checktight") rows c.in_err-cert.field-0.0 c.from_residual-in_err-cert.result (search rules) c.in_err-cert.ensures.err
    (checktight c.in-Some.net.now c.in-Some-text_of.cert.now c.in-Some-text_of-2.marks.now)
    record { is = refl; says = (sym c.in-Some.ensures, sym c.in-Some-text_of.ensures, sym c.in-Some-text_of-2.ensures) }

pub returns-in_err-copied : goal.returns-in_err-copied
returns-in_err-copied c =
    let rows = rows_of (found_of c.args.matches.now) in
    wanting (codes "checktight") rows c.in_err-copied.field-0.0 c.from_residual-in_err-copied.result (search rules) c.in_err-copied.ensures.err
    (checktight c.in-Some.net.now c.in-Some-text_of.cert.now c.in-Some-text_of-2.marks.now)
    record { is = refl; says = (sym c.in-Some.ensures, sym c.in-Some-text_of.ensures, sym c.in-Some-text_of-2.ensures) }
