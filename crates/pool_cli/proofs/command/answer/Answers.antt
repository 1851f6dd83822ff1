use Rattle.std.proofs.Common.{ℕ, List, inl, ap, ap₂, map, string_bytes, sym, subst, ◌∙◌}
use Rattle.std.specs.Prelude.{IsTrue}
use Rattle.cli_words.specs.Requests.{solve, check, report, formulate, make, trial, jobs, work, gather, tight, checktight}
use Rattle.cli_words.specs.Views.{shown_request, shown_solving}
use Rattle.run_status.specs.Reads.{ReadsUnder}
use Rattle.pool_cli.proofs.Commands.{admitted_as, ends_as, gathering, handing, judging, leaves_as, marking, quiet_as, took_as, working}
use Rattle.pool_cli.proofs.command.answer.Goals as goal

-- ---- what the commands may ask for

pub solve-requires-clause-gap : goal.solve-requires-clause-gap
solve-requires-clause-gap g c = rw c.in-Solve.is at c.requires.gap

pub solve-requires-clause-admits : goal.solve-requires-clause-admits
solve-requires-clause-admits g c = (rw c.in-Solve.is at c.requires.admitted).0

pub solve-requires-clause-journal : goal.solve-requires-clause-journal
solve-requires-clause-journal g c = (rw c.in-Solve.is at c.requires.admitted).1

pub check-requires-clause-certificate : goal.check-requires-clause-certificate
check-requires-clause-certificate g c = λ network reads.
    let admits = rw c.in-Check.is at c.requires.admitted in
    subst (λ (name : List ℕ). IsTrue ((g.S.Shelf.told c.args.shelf.now).admits name)) (sym c.deref-in-Check.ensures)
    (admits.1 network (subst (λ (name : List ℕ). ReadsUnder (g.S.Shelf.told c.args.shelf.now).files name network) c.deref.ensures reads))

pub report-requires-clause-certificate : goal.report-requires-clause-certificate
report-requires-clause-certificate g c = λ network reads.
    let admits = rw c.in-Report.is at c.requires.admitted in
    subst (λ (name : List ℕ). IsTrue ((g.S.Shelf.told c.args.shelf.now).admits name)) (sym c.deref-in-Report-2.ensures)
    (admits.1 network (subst (λ (name : List ℕ). ReadsUnder (g.S.Shelf.told c.args.shelf.now).files name network) c.deref-in-Report.ensures reads))

-- ---- solve

pub returns-in-Solve-clause-took : goal.returns-in-Solve-clause-took
returns-in-Solve-clause-took g c =
    took_as (ap shown_request c.in-Solve.is) c.from.ensures
    (g.S.Shelf.told c.args.shelf.now).files (g.K.Sink.taken c.args.out.now) (g.K.Sink.taken c.solve.new.out) c.solve.ensures.took

pub returns-in-Solve-clause-ends : goal.returns-in-Solve-clause-ends
returns-in-Solve-clause-ends g c =
    ends_as (ap shown_request c.in-Solve.is) c.from.ensures
    (g.S.Shelf.told c.args.shelf.now).files (g.S.Shelf.told c.args.shelf.now).taken (g.S.Shelf.told c.solve.new.shelf).taken c.solve.ensures.ends

pub returns-in-Solve-clause-journal : goal.returns-in-Solve-clause-journal
returns-in-Solve-clause-journal g c = λ tells.
    leaves_as (ap shown_request c.in-Solve.is) c.from.ensures
    (g.S.Shelf.told c.args.shelf.now).files (g.D.Disk.told c.args.disk.now) (g.D.Disk.told c.solve.new.disk)
    (g.K.Sink.taken c.args.out.now) (g.K.Sink.taken c.solve.new.out) (λ file named. c.solve.ensures.journal file named tells)

pub returns-in-Solve-clause-quiet : goal.returns-in-Solve-clause-quiet
returns-in-Solve-clause-quiet g c = quiet_as c.from.ensures c.solve.ensures.quiet

-- ---- check

pub returns-in-Check-clause-took : goal.returns-in-Check-clause-took
returns-in-Check-clause-took g c =
    took_as (ap shown_request c.in-Check.is ∙ ap₂ check (sym c.deref.ensures) (sym c.deref-in-Check.ensures)) c.from-in-Check.ensures
    (g.S.Shelf.told c.args.shelf.now).files (g.K.Sink.taken c.args.out.now) (g.K.Sink.taken c.check.new.out) c.check.ensures.took

pub returns-in-Check-clause-ends : goal.returns-in-Check-clause-ends
returns-in-Check-clause-ends g c =
    ends_as (ap shown_request c.in-Check.is ∙ ap₂ check (sym c.deref.ensures) (sym c.deref-in-Check.ensures)) c.from-in-Check.ensures
    (g.S.Shelf.told c.args.shelf.now).files (g.S.Shelf.told c.args.shelf.now).taken (g.S.Shelf.told c.check.new.shelf).taken c.check.ensures.ends

pub returns-in-Check-clause-quiet : goal.returns-in-Check-clause-quiet
returns-in-Check-clause-quiet g c = quiet_as c.from-in-Check.ensures c.check.ensures.quiet

-- ---- report

pub returns-in-Report-clause-took : goal.returns-in-Report-clause-took
returns-in-Report-clause-took g c =
    took_as (ap shown_request c.in-Report.is ∙ ap₂ report (sym c.deref-in-Report.ensures) (sym c.deref-in-Report-2.ensures)) c.from-in-Report.ensures
    (g.S.Shelf.told c.args.shelf.now).files (g.K.Sink.taken c.args.out.now) (g.K.Sink.taken c.report.new.out) c.report.ensures.took

pub returns-in-Report-clause-ends : goal.returns-in-Report-clause-ends
returns-in-Report-clause-ends g c =
    ends_as (ap shown_request c.in-Report.is ∙ ap₂ report (sym c.deref-in-Report.ensures) (sym c.deref-in-Report-2.ensures)) c.from-in-Report.ensures
    (g.S.Shelf.told c.args.shelf.now).files (g.S.Shelf.told c.args.shelf.now).taken (g.S.Shelf.told c.report.new.shelf).taken c.report.ensures.ends

pub returns-in-Report-clause-quiet : goal.returns-in-Report-clause-quiet
returns-in-Report-clause-quiet g c = quiet_as c.from-in-Report.ensures c.report.ensures.quiet

-- ---- formulate

pub returns-in-Formulate-clause-took : goal.returns-in-Formulate-clause-took
returns-in-Formulate-clause-took g c =
    took_as (ap shown_request c.in-Formulate.is ∙ ap (λ n. formulate n c.in-Formulate.form) (sym c.deref-in-Formulate.ensures)) c.from-in-Formulate.ensures
    (g.S.Shelf.told c.args.shelf.now).files (g.K.Sink.taken c.args.out.now) (g.K.Sink.taken c.formulate.new.out) c.formulate.ensures.took

pub returns-in-Formulate-clause-ends : goal.returns-in-Formulate-clause-ends
returns-in-Formulate-clause-ends g c =
    ends_as (ap shown_request c.in-Formulate.is ∙ ap (λ n. formulate n c.in-Formulate.form) (sym c.deref-in-Formulate.ensures)) c.from-in-Formulate.ensures
    (g.S.Shelf.told c.args.shelf.now).files (g.S.Shelf.told c.args.shelf.now).taken (g.S.Shelf.told c.formulate.new.shelf).taken c.formulate.ensures.ends

pub returns-in-Formulate-clause-quiet : goal.returns-in-Formulate-clause-quiet
returns-in-Formulate-clause-quiet g c = quiet_as c.from-in-Formulate.ensures c.formulate.ensures.quiet

-- ---- make

pub returns-in-Make-clause-took : goal.returns-in-Make-clause-took
returns-in-Make-clause-took g c =
    took_as (ap shown_request c.in-Make.is) c.from-in-Make.ensures
    (g.S.Shelf.told c.args.shelf.now).files (g.K.Sink.taken c.args.out.now) (g.K.Sink.taken c.make.new.out) c.make.ensures.took

pub returns-in-Make-clause-ends : goal.returns-in-Make-clause-ends
returns-in-Make-clause-ends g c =
    ends_as (ap shown_request c.in-Make.is) c.from-in-Make.ensures
    (g.S.Shelf.told c.args.shelf.now).files (g.S.Shelf.told c.args.shelf.now).taken (g.S.Shelf.told c.args.shelf.now).taken c.make.ensures.ends

-- ---- trial

pub returns-in-Trial-clause-took : goal.returns-in-Trial-clause-took
returns-in-Trial-clause-took g c =
    took_as (ap shown_request c.in-Trial.is) c.from-in-Trial.ensures
    (g.S.Shelf.told c.args.shelf.now).files (g.K.Sink.taken c.args.out.now) (g.K.Sink.taken c.trial.new.out) c.trial.ensures.took

pub returns-in-Trial-clause-ends : goal.returns-in-Trial-clause-ends
returns-in-Trial-clause-ends g c =
    ends_as (ap shown_request c.in-Trial.is) c.from-in-Trial.ensures
    (g.S.Shelf.told c.args.shelf.now).files (g.S.Shelf.told c.args.shelf.now).taken (g.S.Shelf.told c.args.shelf.now).taken c.trial.ensures.ends

-- ---- jobs

pub returns-in-Jobs-clause-took : goal.returns-in-Jobs-clause-took
returns-in-Jobs-clause-took g c =
    took_as (ap shown_request c.in-Jobs.is ∙ handing _ _ _ _ _ c.deref-in-Jobs.ensures c.deref-in-Jobs-2.ensures) c.from-in-Jobs.ensures
    (g.S.Shelf.told c.args.shelf.now).files (g.K.Sink.taken c.args.out.now) (g.K.Sink.taken c.jobs.new.out) c.jobs.ensures.took

pub returns-in-Jobs-clause-ends : goal.returns-in-Jobs-clause-ends
returns-in-Jobs-clause-ends g c =
    ends_as (ap shown_request c.in-Jobs.is ∙ handing _ _ _ _ _ c.deref-in-Jobs.ensures c.deref-in-Jobs-2.ensures) c.from-in-Jobs.ensures
    (g.S.Shelf.told c.args.shelf.now).files (g.S.Shelf.told c.args.shelf.now).taken (g.S.Shelf.told c.jobs.new.shelf).taken c.jobs.ensures.ends

pub returns-in-Jobs-clause-journal : goal.returns-in-Jobs-clause-journal
returns-in-Jobs-clause-journal g c = λ tells.
    leaves_as (ap shown_request c.in-Jobs.is ∙ handing _ _ _ _ _ c.deref-in-Jobs.ensures c.deref-in-Jobs-2.ensures) c.from-in-Jobs.ensures
    (g.S.Shelf.told c.args.shelf.now).files (g.D.Disk.told c.args.disk.now) (g.D.Disk.told c.jobs.new.disk)
    (g.K.Sink.taken c.args.out.now) (g.K.Sink.taken c.jobs.new.out) (c.jobs.ensures.journal tells)

pub returns-in-Jobs-clause-quiet : goal.returns-in-Jobs-clause-quiet
returns-in-Jobs-clause-quiet g c = quiet_as c.from-in-Jobs.ensures c.jobs.ensures.quiet

-- ---- work

pub work-requires-clause-jobs : goal.work-requires-clause-jobs
work-requires-clause-jobs g c =
    (admitted_as (ap shown_request c.in-Work.is ∙ working _ _ _ _ _ c.deref-in-Work.ensures c.deref-in-Work-2.ensures)
    (λ name. IsTrue ((g.S.Shelf.told c.args.shelf.now).admits name)) (λ name. IsTrue ((g.D.Disk.told c.args.disk.now).admits name)) (g.S.Shelf.told c.args.shelf.now).files c.requires.admitted).1

pub returns-in-Work-clause-took : goal.returns-in-Work-clause-took
returns-in-Work-clause-took g c =
    took_as (ap shown_request c.in-Work.is ∙ working _ _ _ _ _ c.deref-in-Work.ensures c.deref-in-Work-2.ensures) c.from-in-Work.ensures
    (g.S.Shelf.told c.args.shelf.now).files (g.K.Sink.taken c.args.out.now) (g.K.Sink.taken c.work.new.out) c.work.ensures.took

pub returns-in-Work-clause-ends : goal.returns-in-Work-clause-ends
returns-in-Work-clause-ends g c =
    ends_as (ap shown_request c.in-Work.is ∙ working _ _ _ _ _ c.deref-in-Work.ensures c.deref-in-Work-2.ensures) c.from-in-Work.ensures
    (g.S.Shelf.told c.args.shelf.now).files (g.S.Shelf.told c.args.shelf.now).taken (g.S.Shelf.told c.work.new.shelf).taken c.work.ensures.ends

pub returns-in-Work-clause-quiet : goal.returns-in-Work-clause-quiet
returns-in-Work-clause-quiet g c = quiet_as c.from-in-Work.ensures c.work.ensures.quiet

-- ---- gather

pub gather-requires-clause-jobs : goal.gather-requires-clause-jobs
gather-requires-clause-jobs g c =
    (admitted_as (ap shown_request c.in-Gather.is ∙ gathering _ _ _ _ _ _ _ _ c.deref-in-Gather.ensures c.deref-in-Gather-2.ensures c.deref-in-Gather-3.ensures.value c.deref-in-Gather-4.ensures)
    (λ name. IsTrue ((g.S.Shelf.told c.args.shelf.now).admits name)) (λ name. IsTrue ((g.D.Disk.told c.args.disk.now).admits name)) (g.S.Shelf.told c.args.shelf.now).files c.requires.admitted).jobs

pub gather-requires-clause-answers : goal.gather-requires-clause-answers
gather-requires-clause-answers g c =
    (admitted_as (ap shown_request c.in-Gather.is ∙ gathering _ _ _ _ _ _ _ _ c.deref-in-Gather.ensures c.deref-in-Gather-2.ensures c.deref-in-Gather-3.ensures.value c.deref-in-Gather-4.ensures)
    (λ name. IsTrue ((g.S.Shelf.told c.args.shelf.now).admits name)) (λ name. IsTrue ((g.D.Disk.told c.args.disk.now).admits name)) (g.S.Shelf.told c.args.shelf.now).files c.requires.admitted).answers

pub gather-requires-clause-journal : goal.gather-requires-clause-journal
gather-requires-clause-journal g c =
    (admitted_as (ap shown_request c.in-Gather.is ∙ gathering _ _ _ _ _ _ _ _ c.deref-in-Gather.ensures c.deref-in-Gather-2.ensures c.deref-in-Gather-3.ensures.value c.deref-in-Gather-4.ensures)
    (λ name. IsTrue ((g.S.Shelf.told c.args.shelf.now).admits name)) (λ name. IsTrue ((g.D.Disk.told c.args.disk.now).admits name)) (g.S.Shelf.told c.args.shelf.now).files c.requires.admitted).disk

pub returns-in-Gather-clause-took : goal.returns-in-Gather-clause-took
returns-in-Gather-clause-took g c =
    took_as (ap shown_request c.in-Gather.is ∙ gathering _ _ _ _ _ _ _ _ c.deref-in-Gather.ensures c.deref-in-Gather-2.ensures c.deref-in-Gather-3.ensures.value c.deref-in-Gather-4.ensures) c.from-in-Gather.ensures
    (g.S.Shelf.told c.args.shelf.now).files (g.K.Sink.taken c.args.out.now) (g.K.Sink.taken c.gather.new.out) c.gather.ensures.took

pub returns-in-Gather-clause-ends : goal.returns-in-Gather-clause-ends
returns-in-Gather-clause-ends g c =
    ends_as (ap shown_request c.in-Gather.is ∙ gathering _ _ _ _ _ _ _ _ c.deref-in-Gather.ensures c.deref-in-Gather-2.ensures c.deref-in-Gather-3.ensures.value c.deref-in-Gather-4.ensures) c.from-in-Gather.ensures
    (g.S.Shelf.told c.args.shelf.now).files (g.S.Shelf.told c.args.shelf.now).taken (g.S.Shelf.told c.gather.new.shelf).taken c.gather.ensures.ends

pub returns-in-Gather-clause-journal : goal.returns-in-Gather-clause-journal
returns-in-Gather-clause-journal g c = λ tells.
    leaves_as (ap shown_request c.in-Gather.is ∙ gathering _ _ _ _ _ _ _ _ c.deref-in-Gather.ensures c.deref-in-Gather-2.ensures c.deref-in-Gather-3.ensures.value c.deref-in-Gather-4.ensures) c.from-in-Gather.ensures
    (g.S.Shelf.told c.args.shelf.now).files (g.D.Disk.told c.args.disk.now) (g.D.Disk.told c.gather.new.disk)
    (g.K.Sink.taken c.args.out.now) (g.K.Sink.taken c.gather.new.out) (c.gather.ensures.journal tells)

pub returns-in-Gather-clause-quiet : goal.returns-in-Gather-clause-quiet
returns-in-Gather-clause-quiet g c = quiet_as c.from-in-Gather.ensures c.gather.ensures.quiet

-- ---- tight

pub tight-requires-clause-certificate : goal.tight-requires-clause-certificate
tight-requires-clause-certificate g c =
    (admitted_as (ap shown_request c.in-Tight.is ∙ marking _ _ _ _ _ _ c.deref-in-Tight.ensures c.deref-in-Tight-2.ensures)
    (λ name. IsTrue ((g.S.Shelf.told c.args.shelf.now).admits name)) (λ name. IsTrue ((g.D.Disk.told c.args.disk.now).admits name)) (g.S.Shelf.told c.args.shelf.now).files c.requires.admitted).1

pub returns-in-Tight-clause-took : goal.returns-in-Tight-clause-took
returns-in-Tight-clause-took g c =
    took_as (ap shown_request c.in-Tight.is ∙ marking _ _ _ _ _ _ c.deref-in-Tight.ensures c.deref-in-Tight-2.ensures) c.from-in-Tight.ensures
    (g.S.Shelf.told c.args.shelf.now).files (g.K.Sink.taken c.args.out.now) (g.K.Sink.taken c.tight.new.out) c.tight.ensures.took

pub returns-in-Tight-clause-ends : goal.returns-in-Tight-clause-ends
returns-in-Tight-clause-ends g c =
    ends_as (ap shown_request c.in-Tight.is ∙ marking _ _ _ _ _ _ c.deref-in-Tight.ensures c.deref-in-Tight-2.ensures) c.from-in-Tight.ensures
    (g.S.Shelf.told c.args.shelf.now).files (g.S.Shelf.told c.args.shelf.now).taken (g.S.Shelf.told c.tight.new.shelf).taken (inl c.tight.ensures.ends)

pub returns-in-Tight-clause-quiet : goal.returns-in-Tight-clause-quiet
returns-in-Tight-clause-quiet g c = quiet_as c.from-in-Tight.ensures c.tight.ensures.quiet

-- ---- checktight

pub checktight-requires-clause-certificate : goal.checktight-requires-clause-certificate
checktight-requires-clause-certificate g c =
    (admitted_as (ap shown_request c.in-CheckTight.is ∙ judging _ _ _ _ _ _ c.deref-in-CheckTight.ensures c.deref-in-CheckTight-2.ensures c.deref-in-CheckTight-3.ensures)
    (λ name. IsTrue ((g.S.Shelf.told c.args.shelf.now).admits name)) (λ name. IsTrue ((g.D.Disk.told c.args.disk.now).admits name)) (g.S.Shelf.told c.args.shelf.now).files c.requires.admitted).certificate

pub checktight-requires-clause-text : goal.checktight-requires-clause-text
checktight-requires-clause-text g c =
    (admitted_as (ap shown_request c.in-CheckTight.is ∙ judging _ _ _ _ _ _ c.deref-in-CheckTight.ensures c.deref-in-CheckTight-2.ensures c.deref-in-CheckTight-3.ensures)
    (λ name. IsTrue ((g.S.Shelf.told c.args.shelf.now).admits name)) (λ name. IsTrue ((g.D.Disk.told c.args.disk.now).admits name)) (g.S.Shelf.told c.args.shelf.now).files c.requires.admitted).text

pub returns-in-CheckTight-clause-took : goal.returns-in-CheckTight-clause-took
returns-in-CheckTight-clause-took g c =
    took_as (ap shown_request c.in-CheckTight.is ∙ judging _ _ _ _ _ _ c.deref-in-CheckTight.ensures c.deref-in-CheckTight-2.ensures c.deref-in-CheckTight-3.ensures) c.from-in-CheckTight.ensures
    (g.S.Shelf.told c.args.shelf.now).files (g.K.Sink.taken c.args.out.now) (g.K.Sink.taken c.checktight.new.out) c.checktight.ensures.took

pub returns-in-CheckTight-clause-ends : goal.returns-in-CheckTight-clause-ends
returns-in-CheckTight-clause-ends g c =
    ends_as (ap shown_request c.in-CheckTight.is ∙ judging _ _ _ _ _ _ c.deref-in-CheckTight.ensures c.deref-in-CheckTight-2.ensures c.deref-in-CheckTight-3.ensures) c.from-in-CheckTight.ensures
    (g.S.Shelf.told c.args.shelf.now).files (g.S.Shelf.told c.args.shelf.now).taken (g.S.Shelf.told c.checktight.new.shelf).taken c.checktight.ensures.ends

pub returns-in-CheckTight-clause-quiet : goal.returns-in-CheckTight-clause-quiet
returns-in-CheckTight-clause-quiet g c = quiet_as c.from-in-CheckTight.ensures c.checktight.ensures.quiet
