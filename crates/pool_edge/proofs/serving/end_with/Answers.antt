use Rattle.run_status.specs.Messages.{message_of}
use Rattle.pool_edge.proofs.Outcomes.{told-line}
use Rattle.pool_edge.proofs.serving.end_with.Goals as goal

pub returns-clause-line : goal.returns-clause-line
returns-clause-line g c =
    told-line c.write_message.result (message_of c.args.status.now) (g.E.Sink.taken c.args.err.now) (g.E.Sink.taken c.write_message.new.err)
    (g.E.Sink.faults c.args.err.now) (g.E.Sink.faults c.write_message.new.err) c.write_message.ensures.wrote c.write_message.ensures.failed
