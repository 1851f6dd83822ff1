use Rattle.std.proofs.Common.{subst, arith}
use Rattle.std.specs.Prelude.{IsTrue}
use Rattle.node_journal.proofs.Runs.{reaches-known}
use Rattle.worked_journals.proofs.files.reopen.Goals as goal

pub open-requires-clause-attached : goal.open-requires-clause-attached
open-requires-clause-attached g c = λ tells.
    let was = c.in_ok-attach.ensures.open (subst IsTrue c.attach.ensures.same_device.same_telling tells) in
    reaches-known (g.D.Disk.told c.attach.new.self).reads was.file 0 was.read (omega arith)
