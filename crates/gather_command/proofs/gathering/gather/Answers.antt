use Rattle.std.proofs.Common.{inl, refl, subst, sym}
use Rattle.std.specs.Prelude.{map, string_bytes}
use Rattle.node_journal.proofs.Runs.{quiet-start}
use Rattle.gather_command.specs.GatherEnds.{GathersAs, Named, WantsUnder, gather_status}
use Rattle.gather_command.proofs.Outcomes.{behind_read, brought_read, tried_behind, tried_ends, unbrought_ends, unbrought_own, unbrought_read, unbrought_took, unbrought_unopened, unbrought_wants}
use Rattle.gather_command.proofs.gathering.gather.Goals as goal

pub gather_brought-requires-clause-handed : goal.gather_brought-requires-clause-handed
gather_brought-requires-clause-handed g c = (c.in-Ok.ensures.brought.jobs_text, c.in-Ok.ensures.brought.handed)

pub gather_brought-requires-clause-admits : goal.gather_brought-requires-clause-admits
gather_brought-requires-clause-admits g c =
    let w : Named = record { net = c.args.net.now; jobs = c.args.jobs.now; answers = map string_bytes c.args.answers.now } in
    c.requires.journal (brought_read (g.S.Shelf.told c.args.shelf.now).files w c.in-Ok.brought c.in-Ok.ensures.brought)

pub returns-in-Ok-clause-took : goal.returns-in-Ok-clause-took
returns-in-Ok-clause-took g c =
    let w : Named = record { net = c.args.net.now; jobs = c.args.jobs.now; answers = map string_bytes c.args.answers.now } in
    c.gather_brought.ensures.took (g.S.Shelf.told c.args.shelf.now).files w c.in-Ok.ensures.brought

pub returns-in-Err-clause-took : goal.returns-in-Err-clause-took
returns-in-Err-clause-took g c =
    let w : Named = record { net = c.args.net.now; jobs = c.args.jobs.now; answers = map string_bytes c.args.answers.now } in
    unbrought_took w (g.S.Shelf.told c.args.shelf.now) (g.S.Shelf.told c.brought_under.new.shelf) (GathersAs (g.S.Shelf.told c.args.shelf.now).files w) c.in-Err.outcome (g.K.Sink.taken c.args.out.now)
    c.in-Err.ensures.unbrought

pub returns-in-Ok-clause-ends : goal.returns-in-Ok-clause-ends
returns-in-Ok-clause-ends g c =
    let w : Named = record { net = c.args.net.now; jobs = c.args.jobs.now; answers = map string_bytes c.args.answers.now } in
    tried_ends (g.S.Shelf.told c.args.shelf.now).files w _ _ (gather_status c.gather_brought.result)
    (brought_read (g.S.Shelf.told c.args.shelf.now).files w c.in-Ok.brought c.in-Ok.ensures.brought) c.gather_brought.ensures.tried

pub returns-in-Err-clause-ends : goal.returns-in-Err-clause-ends
returns-in-Err-clause-ends g c =
    let w : Named = record { net = c.args.net.now; jobs = c.args.jobs.now; answers = map string_bytes c.args.answers.now } in
    unbrought_ends w (g.S.Shelf.told c.args.shelf.now) (g.S.Shelf.told c.brought_under.new.shelf) c.in-Err.outcome c.in-Err.ensures.unbrought

pub returns-in-Ok-clause-journal : goal.returns-in-Ok-clause-journal
returns-in-Ok-clause-journal g c = λ tells.
    let w : Named = record { net = c.args.net.now; jobs = c.args.jobs.now; answers = map string_bytes c.args.answers.now } in
    c.gather_brought.ensures.journal (g.S.Shelf.told c.args.shelf.now).files w c.in-Ok.ensures.brought tells

pub returns-in-Err-clause-journal : goal.returns-in-Err-clause-journal
returns-in-Err-clause-journal g c = λ tells.
    let w : Named = record { net = c.args.net.now; jobs = c.args.jobs.now; answers = map string_bytes c.args.answers.now } in
    inl (record {
      unopened = unbrought_unopened w (g.S.Shelf.told c.args.shelf.now) (g.S.Shelf.told c.brought_under.new.shelf) c.in-Err.outcome c.in-Err.ensures.unbrought;
      quiet = quiet-start (g.D.Disk.told c.args.disk.now);
      none_attached = refl;
    })

pub returns-in-Ok-clause-apart : goal.returns-in-Ok-clause-apart
returns-in-Ok-clause-apart g c = λ before. absurd (tried_behind (gather_status c.gather_brought.result) c.gather_brought.ensures.tried before)

pub returns-in-Ok-clause-read_fault : goal.returns-in-Ok-clause-read_fault
returns-in-Ok-clause-read_fault g c = λ e. absurd (behind_read (gather_status c.gather_brought.result) c.gather_brought.ensures.tried e)

pub returns-in-Err-clause-read_fault : goal.returns-in-Err-clause-read_fault
returns-in-Err-clause-read_fault g c =
    let w : Named = record { net = c.args.net.now; jobs = c.args.jobs.now; answers = map string_bytes c.args.answers.now } in
    unbrought_read w (g.S.Shelf.told c.args.shelf.now) (g.S.Shelf.told c.brought_under.new.shelf) c.in-Err.outcome c.in-Err.ensures.unbrought

pub returns-in-Err-clause-write_fault : goal.returns-in-Err-clause-write_fault
returns-in-Err-clause-write_fault g c =
    let w : Named = record { net = c.args.net.now; jobs = c.args.jobs.now; answers = map string_bytes c.args.answers.now } in
    λ e. absurd ((unbrought_own w (g.S.Shelf.told c.args.shelf.now) (g.S.Shelf.told c.brought_under.new.shelf) c.in-Err.outcome c.in-Err.ensures.unbrought).0 e)

pub returns-in-Err-clause-disk_fault : goal.returns-in-Err-clause-disk_fault
returns-in-Err-clause-disk_fault g c =
    let w : Named = record { net = c.args.net.now; jobs = c.args.jobs.now; answers = map string_bytes c.args.answers.now } in
    λ e. absurd ((unbrought_own w (g.S.Shelf.told c.args.shelf.now) (g.S.Shelf.told c.brought_under.new.shelf) c.in-Err.outcome c.in-Err.ensures.unbrought).1 e)

pub returns-in-Ok-clause-memory : goal.returns-in-Ok-clause-memory
returns-in-Ok-clause-memory g c = λ e.
    let w : Named = record { net = c.args.net.now; jobs = c.args.jobs.now; answers = map string_bytes c.args.answers.now } in
    subst (WantsUnder (g.S.Shelf.told c.args.shelf.now).files w) (sym (c.gather_brought.ensures.memory e))
    (refl, brought_read (g.S.Shelf.told c.args.shelf.now).files w c.in-Ok.brought c.in-Ok.ensures.brought)

pub returns-in-Err-clause-memory : goal.returns-in-Err-clause-memory
returns-in-Err-clause-memory g c =
    let w : Named = record { net = c.args.net.now; jobs = c.args.jobs.now; answers = map string_bytes c.args.answers.now } in
    unbrought_wants w (g.S.Shelf.told c.args.shelf.now) (g.S.Shelf.told c.brought_under.new.shelf) c.in-Err.outcome c.in-Err.ensures.unbrought
