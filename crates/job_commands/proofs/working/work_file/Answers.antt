use Rattle.std.proofs.Common.{inr, refl, ap}
use Rattle.pool_model.specs.Network.{net_of}
use Rattle.run_status.proofs.Quiet.{failed_told, quiet_behind}
use Rattle.job_commands.specs.Handed.{unhanded_status}
use Rattle.job_commands.specs.WorkEnds.{WorksAs, work_status}
use Rattle.job_commands.proofs.WorkDone.{ends-handed, ends-unhanded, took-handed, took-unhanded, tried-not-read, unhanded-failed, unhanded-not-written, wants-handed, wants-unhanded}
use Rattle.job_commands.proofs.working.work_file.Goals as goal

pub work_handed-requires : goal.work_handed-requires
work_handed-requires g c = let h = c.in-Ok.ensures.handed in (h.0, h.2)

pub returns-in-Ok-clause-took : goal.returns-in-Ok-clause-took
returns-in-Ok-clause-took g c = λ net reads.
    let h = c.in-Ok.ensures.handed in
    took-handed (g.S.Shelf.told c.args.shelf.now).files net c.args.jobs.now c.args.form c.args.network.now reads h.0 (work_status c.work_handed.result)
    (g.K.Sink.taken c.args.out.now) (g.K.Sink.taken c.work_handed.new.out) h.1 (c.work_handed.ensures.took h.0 h.2)

pub returns-in-Ok-clause-ends : goal.returns-in-Ok-clause-ends
returns-in-Ok-clause-ends g c = λ net before reads grows.
    let h = c.in-Ok.ensures.handed in
    ends-handed (g.S.Shelf.told c.args.shelf.now).files net c.args.jobs.now c.args.form c.args.network.now reads h.0 before
    (g.S.Shelf.told c.handed_out_under.new.shelf).taken c.work_handed.result h.1 c.work_handed.ensures.ends

pub returns-in-Ok-clause-read_fault : goal.returns-in-Ok-clause-read_fault
returns-in-Ok-clause-read_fault g c = λ e. absurd (tried-not-read c.work_handed.result c.work_handed.ensures.ends e)

pub returns-in-Ok-clause-quiet : goal.returns-in-Ok-clause-quiet
returns-in-Ok-clause-quiet g c = quiet_behind c.in-Ok.ensures.quiet (inr refl)

pub returns-in-Ok-clause-memory : goal.returns-in-Ok-clause-memory
returns-in-Ok-clause-memory g c = λ net reads e.
    let h = c.in-Ok.ensures.handed in
    wants-handed (g.S.Shelf.told c.args.shelf.now).files net c.args.jobs.now c.args.form c.args.network.now reads h.0 c.work_handed.result h.1 c.work_handed.ensures.ends e

-- ---- no jobs were handed out

pub returns-in-Err-clause-took : goal.returns-in-Err-clause-took
returns-in-Err-clause-took g c = λ net reads.
    took-unhanded (WorksAs (g.S.Shelf.told c.args.shelf.now).files net c.args.jobs.now c.args.form) c.in-Err.why (g.K.Sink.taken c.args.out.now)

pub returns-in-Err-clause-ends : goal.returns-in-Err-clause-ends
returns-in-Err-clause-ends g c = λ net before reads grows.
    ends-unhanded (g.S.Shelf.told c.args.shelf.now).files net c.args.jobs.now c.args.form c.args.network.now reads before (g.S.Shelf.told c.args.shelf.now)
    (g.S.Shelf.told c.handed_out_under.new.shelf) c.in-Err.why refl grows c.in-Err.ensures.unhanded

pub returns-in-Err-clause-read_fault : goal.returns-in-Err-clause-read_fault
returns-in-Err-clause-read_fault g c =
    unhanded-failed (net_of c.args.network.now) c.args.jobs.now (g.S.Shelf.told c.args.shelf.now) (g.S.Shelf.told c.handed_out_under.new.shelf) c.in-Err.why c.in-Err.ensures.unhanded

pub returns-in-Err-clause-quiet : goal.returns-in-Err-clause-quiet
returns-in-Err-clause-quiet g c = failed_told (λ e. ap unhanded_status e) c.in-Err.ensures.quiet

pub returns-in-Err-clause-write_fault : goal.returns-in-Err-clause-write_fault
returns-in-Err-clause-write_fault g c = λ e. absurd (unhanded-not-written c.in-Err.why e)

pub returns-in-Err-clause-memory : goal.returns-in-Err-clause-memory
returns-in-Err-clause-memory g c = λ net reads e.
    wants-unhanded (g.S.Shelf.told c.args.shelf.now).files net c.args.jobs.now c.args.form c.args.network.now reads c.in-Err.why e
