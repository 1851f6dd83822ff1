use Rattle.node_journal.proofs.Runs.{quiet-start, quiet-call}
use Rattle.gather_command.proofs.gathering.text_beside.Goals as goal

pub returns-clause-quiet : goal.returns-clause-quiet
returns-clause-quiet g c = quiet-call (g.D.Disk.told c.args.disk.now) (g.D.Disk.told c.attach.new.self) c.attach.ensures.time c.attach.ensures.crash

pub returns-in_err-text-clause-quiet : goal.returns-in_err-text-clause-quiet
returns-in_err-text-clause-quiet g c = quiet-start (g.D.Disk.told c.args.disk.now)

pub returns-in_err-attach-clause-quiet : goal.returns-in_err-attach-clause-quiet
returns-in_err-attach-clause-quiet g c = quiet-call (g.D.Disk.told c.args.disk.now) (g.D.Disk.told c.attach.new.self) c.attach.ensures.time c.attach.ensures.crash
