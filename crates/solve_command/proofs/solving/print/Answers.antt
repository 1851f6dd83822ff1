use Rattle.cert_format.specs.Views.{shown_cert}
use Rattle.cert_format.specs.Text.{text_of}
use Rattle.solve_command.specs.Solution.{status_of}
use Rattle.solve_command.proofs.Outcomes.{took_whole}
use Rattle.solve_command.proofs.solving.print.Goals as goal

pub returns-in-Err-clause-took : goal.returns-in-Err-clause-took
returns-in-Err-clause-took g c = λ files s answers.
    (text_of (shown_cert c.args.solution.now.certificate), (status_of c.args.solution.now.ended, answers), c.in-Err.ensures.wrote)

pub returns-in-Ok-clause-took : goal.returns-in-Ok-clause-took
returns-in-Ok-clause-took g c = λ files s answers.
    took_whole files s c.args.solution.now.ended (text_of (shown_cert c.args.solution.now.certificate)) (g.K.Sink.taken c.args.out.now)
    (g.K.Sink.taken c.write_cert.new.out) answers c.in-Ok.ensures.wrote
