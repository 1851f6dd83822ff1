use Rattle.std.proofs.Common.{map, subst, arith, rules}
use Rattle.std.specs.Prelude.{IsTrue}
use Rattle.box_tree.specs.Views.{shown_entry}
use Rattle.node_journal.proofs.Runs.{reaches-known}
use Rattle.recorded_run.proofs.Turning.{other_version}
use Rattle.worked_journals.proofs.files.record.Goals as goal

pub open-requires-clause-attached : goal.open-requires-clause-attached
open-requires-clause-attached g c = λ tells.
    let was = c.in_ok-attach.ensures.open (subst IsTrue c.attach.ensures.same_device.same_telling tells) in
    reaches-known (g.D.Disk.told c.attach.new.self).reads was.file 0 was.read (omega arith)

pub append-requires-clause-left : goal.append-requires-clause-left
append-requires-clause-left g c = λ tells.
    let told = subst IsTrue c.attach.ensures.same_device.same_telling (subst IsTrue c.open.ensures.same_disk.device.same_telling tells) in
    let was = c.in_ok-attach.ensures.open told in
    let left = c.in_ok-opened.ensures.left was.file was.read in
    (_, map shown_entry c.in_ok-opened.opened.entries.items, left.0, left.1, left.2)

pub append-requires-clause-turned : goal.append-requires-clause-turned
append-requires-clause-turned g c = other_version c.in_ok-opened.opened.journal.next.version (search rules)
