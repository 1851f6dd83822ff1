use Rattle.std.proofs.Common.{inl, inr, ℕ, List, ap, refl, subst}
use Rattle.node_journal.proofs.Runs.{quiet-start}
use Rattle.run_status.specs.Reads.{ReadsUnder}
use Rattle.run_status.specs.Took.{unread_status}
use Rattle.run_status.proofs.Quiet.{failed_told, quiet_behind}
use Rattle.solve_command.specs.declared.solving.SolveOutcome.TheVariants.{Unread}
use Rattle.journal_status.proofs.Faults.{no_unread_disk, unread_memory_is, unread_unopened}
use Rattle.solve_command.proofs.solving.solve.Goals as goal

pub returns-in-Ok-clause-took : goal.returns-in-Ok-clause-took
returns-in-Ok-clause-took g c =
    c.solve_network.ensures.took (g.S.Shelf.told c.args.shelf.now).files
    (subst (λ (name : List ℕ). ReadsUnder (g.S.Shelf.told c.args.shelf.now).files name c.in-Ok.net) c.as_str.ensures.value c.in-Ok.ensures.reads)

pub returns-in-Ok-clause-ends : goal.returns-in-Ok-clause-ends
returns-in-Ok-clause-ends g c =
    c.solve_network.ensures.ends (g.S.Shelf.told c.args.shelf.now).files _ _
    (subst (λ (name : List ℕ). ReadsUnder (g.S.Shelf.told c.args.shelf.now).files name c.in-Ok.net) c.as_str.ensures.value c.in-Ok.ensures.reads)

pub returns-in-Ok-clause-journal : goal.returns-in-Ok-clause-journal
returns-in-Ok-clause-journal g c = λ file named tells.
    c.solve_network.ensures.journal (g.S.Shelf.told c.args.shelf.now).files file
    (subst (λ (name : List ℕ). ReadsUnder (g.S.Shelf.told c.args.shelf.now).files name c.in-Ok.net) c.as_str.ensures.value c.in-Ok.ensures.reads) named tells

pub returns-in-Err-clause-journal : goal.returns-in-Err-clause-journal
returns-in-Err-clause-journal g c = λ file named tells.
    inl (record { unopened = unread_unopened c.in-Err.why; quiet = quiet-start (g.D.Disk.told c.args.disk.now); none_attached = refl })

pub returns-in-Err-clause-disk_fault : goal.returns-in-Err-clause-disk_fault
returns-in-Err-clause-disk_fault g c = λ e. absurd (no_unread_disk c.in-Err.why e)

pub returns-in-Ok-clause-memory : goal.returns-in-Ok-clause-memory
returns-in-Ok-clause-memory g c = λ e.
    inr (c.solve_network.ensures.memory (g.S.Shelf.told c.args.shelf.now).files
    (subst (λ (name : List ℕ). ReadsUnder (g.S.Shelf.told c.args.shelf.now).files name c.in-Ok.net) c.as_str.ensures.value c.in-Ok.ensures.reads) e)

pub returns-in-Err-clause-memory : goal.returns-in-Err-clause-memory
returns-in-Err-clause-memory g c = λ e. inl (ap (λ why. Unread why) (unread_memory_is c.in-Err.why e))

pub returns-in-Ok-clause-quiet : goal.returns-in-Ok-clause-quiet
returns-in-Ok-clause-quiet g c = quiet_behind c.in-Ok.ensures.quiet (inr refl)

pub returns-in-Err-clause-quiet : goal.returns-in-Err-clause-quiet
returns-in-Err-clause-quiet g c = failed_told (λ e. ap unread_status e) c.in-Err.ensures.quiet
