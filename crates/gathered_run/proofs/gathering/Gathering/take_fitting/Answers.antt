-- An answer that fits is recorded and taken, and a line tells of it.
use Rattle.std.proofs.Common.{[], ◌∷◌, ◌++◌, Err, ap, subst, ◌∙◌}
use Rattle.std.specs.Prelude.{IsTrue}
use Rattle.std.proofs.lemmas.Result.{err_from_is_err_and}
use Rattle.pool_model.specs.Network.{net_of}
use Rattle.box_tree.specs.Views.{shown_entry}
use Rattle.work_units.specs.Views.{shown_answer}
use Rattle.work_units.specs.declared.answer.Judged.TheVariants.{Fits}
use Rattle.gathered_run.specs.Events.{judged, line_of}
use Rattle.gathered_run.proofs.Taking.{taken-fits}
use Rattle.gathered_run.proofs.Stopping.{stopped-fits}
use Rattle.gathered_run.proofs.gathering.Gathering.take_fitting.Goals as goal

pub returns-clause-left : goal.returns-clause-left
returns-clause-left g c = λ tells.
    let was = c.requires.left (subst IsTrue c.record.ensures.same_disk.device.same_telling tells) in
    let put = c.in_ok-record.ensures.recorded was.0 was.2 was.1 was.3 was.4 in
    (was.0, was.1 ++ shown_entry c.args.answer.entry ∷ [], put.0, put.1, put.2)

pub returns-clause-taken : goal.returns-clause-taken
returns-clause-taken g c =
    let a = shown_answer c.args.answer in
    taken-fits (net_of c.args.net.now) a c.args.self.now record { journal = c.record.new.self.journal; desk = c.record.new.self.desk; lines = c.push.new.self }
    (g.D.Disk.told c.args.disk.now) (g.D.Disk.told c.record.new.disk) c.requires.fits c.in_ok-record.ensures.desk
    (c.in_ok-push.ensures.items ∙ ap (λ l. l.items ++ line_of (judged a Fits) ∷ []) c.record.ensures.lines) c.in_ok-record.ensures.recorded c.record.ensures.any_moment

pub returns-in_err-record-clause-taken : goal.returns-in_err-record-clause-taken
returns-in_err-record-clause-taken g c =
    let p = err_from_is_err_and c.from_residual.result c.from_residual.ensures.1 in
    rw (p.1, p.2)
    (stopped-fits (net_of c.args.net.now) (shown_answer c.args.answer) c.args.self.now c.record.new.self.journal.next (g.D.Disk.told c.args.disk.now) (g.D.Disk.told c.record.new.disk)
    c.in_err-record.field-0.0 c.requires.fits (λ memory. c.in_err-record.ensures.kept (ap Err memory)) c.record.ensures.any_moment)

pub returns-in_err-push-clause-taken : goal.returns-in_err-push-clause-taken
returns-in_err-push-clause-taken g c =
    let p = err_from_is_err_and c.from_residual-in_err-push.result c.from_residual-in_err-push.ensures.1 in
    rw (p.1)
    (stopped-fits (net_of c.args.net.now) (shown_answer c.args.answer) c.args.self.now c.record.new.self.journal.next (g.D.Disk.told c.args.disk.now) (g.D.Disk.told c.record.new.disk)
    p.0 c.requires.fits (λ memory. c.in_ok-record.ensures.recorded) c.record.ensures.any_moment)
