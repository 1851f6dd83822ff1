use Rattle.std.proofs.Common.{ap, length, map, refl, ◌-◌}
use Rattle.box_tree.specs.Views.{shown_entry}
use Rattle.node_journal.specs.Journals.{Ready}
use Rattle.node_journal.proofs.Openings.{born_opened}
use Rattle.node_journal.proofs.journal.bear.Goals as goal

pub returns-clause-opened : goal.returns-clause-opened
returns-clause-opened g c = λ text file d is unborn.
    born_opened text c.args.whole.now (length c.args.room.items - 5) file (map shown_entry c.new.result.items) _ c.at.result.next
    (g.D.Disk.told c.give_birth.new.disk)
    is unborn (c.in_ok-give_birth.ensures.on_disk text file d is) (ap (map shown_entry) c.new.ensures.items) refl (ap (λ (r : Ready). r.next) c.at.ensures)
