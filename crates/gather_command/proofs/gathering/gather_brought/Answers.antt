use Rattle.std.proofs.Common.{inl}
use Rattle.pool_model.specs.Network.{net_of}
use Rattle.gather_command.specs.GatherEnds.{gather_status}
use Rattle.gather_command.proofs.Journaling.{journaled-told, journaled-untold, took-told}
use Rattle.gather_command.proofs.Outcomes.{told_disk, told_memory, told_tried}
use Rattle.gather_command.proofs.gathering.gather_brought.Goals as goal

pub gathered_on-requires-clause-jobs : goal.gathered_on-requires-clause-jobs
gathered_on-requires-clause-jobs g c = c.requires.handed.1.are

pub returns-in-Ok-clause-took : goal.returns-in-Ok-clause-took
returns-in-Ok-clause-took g c = λ files w is.
    took-told files w c.args.brought is c.in-Ok.gathered c.in-Ok.ensures.told (gather_status c.tell.result) (g.K.Sink.taken c.args.out.now) (g.K.Sink.taken c.tell.new.out)
    (c.tell.ensures.took (net_of c.args.brought.network) c.in-Ok.ensures.tree)

pub returns-in-Ok-clause-tried : goal.returns-in-Ok-clause-tried
returns-in-Ok-clause-tried g c = inl (told_tried (gather_status c.tell.result) c.tell.ensures.told)

pub returns-in-Ok-clause-journal : goal.returns-in-Ok-clause-journal
returns-in-Ok-clause-journal g c = λ files w is tells.
    journaled-told files w c.args.brought is c.in-Ok.gathered (g.D.Disk.told c.args.disk.now) (g.D.Disk.told c.gathered_on.new.disk) (c.in-Ok.ensures.left tells)
    (gather_status c.tell.result) c.tell.ensures.told (g.K.Sink.taken c.args.out.now) (g.K.Sink.taken c.tell.new.out)
    (c.tell.ensures.took (net_of c.args.brought.network) c.in-Ok.ensures.tree)

pub returns-clause-journal : goal.returns-clause-journal
returns-clause-journal g c = λ files w is tells.
    journaled-untold files w c.args.brought is c.in-Err.fault (g.D.Disk.told c.args.disk.now) (g.D.Disk.told c.gathered_on.new.disk) (c.in-Err.ensures.left tells) _

pub returns-in-Ok-clause-disk_fault : goal.returns-in-Ok-clause-disk_fault
returns-in-Ok-clause-disk_fault g c = λ e. absurd (told_disk (gather_status c.tell.result) c.tell.ensures.told e)

pub returns-in-Ok-clause-memory : goal.returns-in-Ok-clause-memory
returns-in-Ok-clause-memory g c = λ e. absurd (told_memory (gather_status c.tell.result) c.tell.ensures.told e)
