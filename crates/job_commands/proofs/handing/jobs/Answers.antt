use Rattle.std.proofs.Common.{inl, inr, ap, refl}
use Rattle.node_journal.proofs.Runs.{quiet-start}
use Rattle.journal_status.proofs.Faults.{no_unread_disk, unread_memory_is, unread_unopened}
use Rattle.run_status.specs.Took.{unread_status}
use Rattle.run_status.proofs.Quiet.{failed_told, quiet_behind}
use Rattle.job_commands.proofs.handing.jobs.Goals as goal

pub returns-in-Ok-clause-took : goal.returns-in-Ok-clause-took
returns-in-Ok-clause-took g c = c.hand_out.ensures.took (g.S.Shelf.told c.args.shelf.now).files c.args.net.now c.in-Ok.ensures.reads

pub returns-in-Ok-clause-ends : goal.returns-in-Ok-clause-ends
returns-in-Ok-clause-ends g c =
    c.hand_out.ensures.ends (g.S.Shelf.told c.args.shelf.now).files c.args.net.now (g.S.Shelf.told c.args.shelf.now).taken (g.S.Shelf.told c.network_under.new.shelf).taken c.in-Ok.ensures.reads

pub returns-in-Ok-clause-journal : goal.returns-in-Ok-clause-journal
returns-in-Ok-clause-journal g c = c.hand_out.ensures.journal (g.S.Shelf.told c.args.shelf.now).files c.args.net.now c.in-Ok.ensures.reads

pub returns-in-Ok-clause-quiet : goal.returns-in-Ok-clause-quiet
returns-in-Ok-clause-quiet g c = quiet_behind c.in-Ok.ensures.quiet (inr refl)

pub returns-in-Ok-clause-memory : goal.returns-in-Ok-clause-memory
returns-in-Ok-clause-memory g c = c.hand_out.ensures.memory (g.S.Shelf.told c.args.shelf.now).files c.args.net.now c.in-Ok.ensures.reads

-- ---- no network was read

pub returns-in-Err-clause-journal : goal.returns-in-Err-clause-journal
returns-in-Err-clause-journal g c = λ tells. inl (record { unopened = unread_unopened c.in-Err.why; quiet = quiet-start (g.D.Disk.told c.args.disk.now); none_attached = refl })

pub returns-in-Err-clause-quiet : goal.returns-in-Err-clause-quiet
returns-in-Err-clause-quiet g c = failed_told (λ e. ap unread_status e) c.in-Err.ensures.quiet

pub returns-in-Err-clause-disk_fault : goal.returns-in-Err-clause-disk_fault
returns-in-Err-clause-disk_fault g c = λ e. absurd (no_unread_disk c.in-Err.why e)

pub returns-in-Err-clause-memory : goal.returns-in-Err-clause-memory
returns-in-Err-clause-memory g c = unread_memory_is c.in-Err.why
