use Rattle.std.proofs.Common.{◌≡◌, Err, refl, ap}
use Rattle.edge_io.specs.Writing.{behind}
use Rattle.job_texts.specs.Texts.{jobs_text}
use Rattle.job_texts.specs.Views.{shown_jobs}
use Rattle.journal_status.proofs.Faults.{disk_fault_is, memory_fault_is, no_read_fault, no_write_fault, took_nothing}
use Rattle.run_status.specs.declared.status.Status.TheVariants.{Done}
use Rattle.job_commands.specs.JobsEnds.{JobsAs}
use Rattle.job_commands.proofs.Keeping.{fault-ends, journaled-cut, journaled-done, journaled-fault}
use Rattle.job_commands.proofs.handing.hand_out.Goals as goal

pub returns-in-Ok-write_jobs-clause-took : goal.returns-in-Ok-write_jobs-clause-took
returns-in-Ok-write_jobs-clause-took g c = λ files net reads.
    let j = shown_jobs c.in-Ok.text in
    (jobs_text j, record { network = c.args.network.now; reads = reads; jobs = j; are = c.in-Ok.ensures.made; spelled = record { are = c.in-Ok.ensures.spelled; text = refl } }, c.in-Ok-write_jobs.ensures.wrote)

pub returns-in-Ok-clause-took : goal.returns-in-Ok-clause-took
returns-in-Ok-clause-took g c = λ files net reads.
    let j = shown_jobs c.in-Ok.text in (
      jobs_text j,
      (Done, record { network = c.args.network.now; reads = reads; jobs = j; are = c.in-Ok.ensures.made; spelled = record { are = c.in-Ok.ensures.spelled; text = refl } }),
      c.in-Err-write_jobs.ensures.wrote,
    )

pub returns-in-Ok-write_jobs-clause-ends : goal.returns-in-Ok-write_jobs-clause-ends
returns-in-Ok-write_jobs-clause-ends g c = λ files net before after reads. record { network = c.args.network.now; reads = reads }

pub returns-in-Ok-clause-ends : goal.returns-in-Ok-clause-ends
returns-in-Ok-clause-ends g c = λ files net before after reads. record { network = c.args.network.now; reads = reads }

pub returns-in-Ok-write_jobs-clause-journal : goal.returns-in-Ok-write_jobs-clause-journal
returns-in-Ok-write_jobs-clause-journal g c = λ files net reads tells.
    journaled-done files net c.args.count c.args.network.now reads (g.D.Disk.told c.args.disk.now) (g.D.Disk.told c.recovered_jobs.new.disk) c.in-Ok.text
    (g.K.Sink.taken c.args.out.now) (g.K.Sink.taken c.write_jobs.new.out) (c.in-Ok.ensures.journal tells) c.in-Ok-write_jobs.ensures.wrote

pub returns-in-Ok-clause-journal : goal.returns-in-Ok-clause-journal
returns-in-Ok-clause-journal g c = λ files net reads tells.
    journaled-cut files net c.args.count c.args.network.now reads (g.D.Disk.told c.args.disk.now) (g.D.Disk.told c.recovered_jobs.new.disk) c.in-Ok.text
    (λ j. g.K.Sink.taken c.write_jobs.new.out ≡ behind (g.K.Sink.taken c.args.out.now) (jobs_text j)) (c.in-Ok.ensures.journal tells)

-- ---- no jobs were made

pub returns-clause-took : goal.returns-clause-took
returns-clause-took g c = λ files net reads. took_nothing (JobsAs files net c.args.count) c.in-Err.fault (g.K.Sink.taken c.args.out.now)

pub returns-clause-ends : goal.returns-clause-ends
returns-clause-ends g c = λ files net before after reads. fault-ends files net before after c.in-Err.fault record { network = c.args.network.now; reads = reads }

pub returns-clause-journal : goal.returns-clause-journal
returns-clause-journal g c = λ files net reads tells.
    journaled-fault files net c.args.count c.args.network.now reads (g.D.Disk.told c.args.disk.now) (g.D.Disk.told c.recovered_jobs.new.disk) c.in-Err.fault
    (λ j. g.K.Sink.taken c.args.out.now ≡ behind (g.K.Sink.taken c.args.out.now) (jobs_text j)) (c.in-Err.ensures.journal tells)

pub returns-clause-read : goal.returns-clause-read
returns-clause-read g c = no_read_fault c.in-Err.fault

pub returns-clause-write_fault : goal.returns-clause-write_fault
returns-clause-write_fault g c = λ e. absurd (no_write_fault c.in-Err.fault e)

pub returns-clause-disk_fault : goal.returns-clause-disk_fault
returns-clause-disk_fault g c = λ e. c.in-Err.ensures.failed (ap (λ f. Err f) (disk_fault_is c.in-Err.fault e))

pub returns-clause-memory : goal.returns-clause-memory
returns-clause-memory g c = λ files net reads e. (memory_fault_is c.in-Err.fault e, record { network = c.args.network.now; reads = reads })
