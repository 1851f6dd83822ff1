use Rattle.std.proofs.Common.{Option, ap, subst, sym}
use Rattle.run_status.specs.Reads.{Files, ReadsUnder}
use Rattle.run_status.specs.Took.{Took, unread_status}
use Rattle.run_status.proofs.Quiet.{failed_told, quiet_behind}
use Rattle.job_commands.specs.WorkEnds.{WantsUnder, WorkEnds, WorksAs, work_status}
use Rattle.job_commands.proofs.working.work.Goals as goal

pub returns-in-Ok-clause-took : goal.returns-in-Ok-clause-took
returns-in-Ok-clause-took g c =
    let reads = subst (λ (f : Option Files). ReadsUnder f c.args.net.now c.in-Ok.network) (sym c.network_under.ensures.kept.same_files) c.in-Ok.ensures.reads in
    subst (λ (f : Option Files). Took (WorksAs f c.args.net.now c.args.jobs.now c.args.form) (work_status c.work_file.result) (g.K.Sink.taken c.args.out.now)
    (g.K.Sink.taken c.work_file.new.out)) c.network_under.ensures.kept.same_files (c.work_file.ensures.took c.args.net.now reads)

pub returns-in-Ok-clause-ends : goal.returns-in-Ok-clause-ends
returns-in-Ok-clause-ends g c =
    let reads = subst (λ (f : Option Files). ReadsUnder f c.args.net.now c.in-Ok.network) (sym c.network_under.ensures.kept.same_files) c.in-Ok.ensures.reads in
    subst (λ (f : Option Files). WorkEnds f c.args.net.now c.args.jobs.now (g.S.Shelf.told c.args.shelf.now).taken
    (g.S.Shelf.told c.work_file.new.shelf).taken (work_status c.work_file.result)) c.network_under.ensures.kept.same_files
    (c.work_file.ensures.ends c.args.net.now (g.S.Shelf.told c.args.shelf.now).taken reads c.network_under.ensures.kept.taken_grows)

pub returns-in-Ok-clause-quiet : goal.returns-in-Ok-clause-quiet
returns-in-Ok-clause-quiet g c = quiet_behind c.in-Ok.ensures.quiet c.work_file.ensures.quiet

pub returns-in-Ok-clause-memory : goal.returns-in-Ok-clause-memory
returns-in-Ok-clause-memory g c = λ e.
    let reads = subst (λ (f : Option Files). ReadsUnder f c.args.net.now c.in-Ok.network) (sym c.network_under.ensures.kept.same_files) c.in-Ok.ensures.reads in
    subst (λ (f : Option Files). WantsUnder f c.args.net.now c.args.jobs.now c.work_file.result) c.network_under.ensures.kept.same_files (c.work_file.ensures.memory c.args.net.now reads e)

pub returns-in-Err-clause-quiet : goal.returns-in-Err-clause-quiet
returns-in-Err-clause-quiet g c = failed_told (λ e. ap unread_status e) c.in-Err.ensures.quiet
