use Rattle.pool_model.specs.Network.{net_of}
use Rattle.printed_lines.specs.Verdicts.{refused_line}
use Rattle.run_status.specs.declared.status.Status.TheVariants.{Refused}
use Rattle.certificate_commands.proofs.Streamed.{refused-line, refused-judged}
use Rattle.certificate_commands.proofs.judging.tell_refusal.Goals as goal

pub returns-in-Ok-clause-took : goal.returns-in-Ok-clause-took
returns-in-Ok-clause-took g c = λ telling network rest checked.
    let line = refused-line telling network rest c.args.refusal c.in-Refused.refusal c.in-Refused.is c.requires checked in
    (refused_line c.in-Refused.refusal, line, c.in-Ok.ensures.wrote)

pub returns-in-Ok-clause-ends : goal.returns-in-Ok-clause-ends
returns-in-Ok-clause-ends g c = λ network rest before after checked more.
    refused-judged (net_of network) rest c.args.refusal c.in-Refused.refusal c.in-Refused.is c.requires checked

pub returns-in-Err-clause-took : goal.returns-in-Err-clause-took
returns-in-Err-clause-took g c = λ telling network rest checked.
    let line = refused-line telling network rest c.args.refusal c.in-Refused.refusal c.in-Refused.is c.requires checked in
    (refused_line c.in-Refused.refusal, (Refused c.in-Refused.refusal, line), c.in-Err.ensures.wrote)
