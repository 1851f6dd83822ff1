-- From the journal's name to what is gathered.
use Rattle.std.proofs.Common.{inl, ℕ, List, sym, subst, ◌∙◌}
use Rattle.std.specs.Prelude.{IsTrue, IfOk, map}
use Rattle.std.proofs.lemmas.Result.{err_from_is_err_and}
use Rattle.pool_model.specs.Network.{net_of}
use Rattle.row_model.specs.Trees.{Split}
use Rattle.box_space.specs.Views.{shown_split}
use Rattle.work_units.specs.Units.{AreJobs}
use Rattle.gathered_run.specs.Files.{items_of}
use Rattle.gather_command.specs.Brought.{IsLeft, IsToldBy}
use Rattle.journal_status.specs.JournalEnds.{fault_status}
use Rattle.journal_status.proofs.Attaching.{finds-reaches}
use Rattle.journal_status.proofs.Causes.{failed-status}
use Rattle.gather_command.proofs.Journaling.{failed-unopened, left-result, told-result}
use Rattle.gather_command.proofs.gathering.gathered_on.Goals as goal

pub gather-requires-clause-attached : goal.gather-requires-clause-attached
gather-requires-clause-attached g c = λ tells.
    finds-reaches (g.D.Disk.told c.args.disk.now) (g.D.Disk.told c.text_beside.new.disk) (c.in_ok-text.ensures.attached (subst IsTrue c.text_beside.ensures.same_device.same_telling tells))

pub gather-requires-clause-jobs : goal.gather-requires-clause-jobs
gather-requires-clause-jobs g c = subst (λ (xs : List Split). AreJobs xs c.args.handed.jobs.items) (sym c.splits.ensures) c.requires.jobs

pub returns-clause-told : goal.returns-clause-told
returns-clause-told g c =
    subst (λ (xs : List Split). IfOk c.gather.result (IsToldBy (net_of c.args.net.now) xs c.args.handed.jobs.items (items_of c.args.files.items))) c.splits.ensures
    (told-result (net_of c.args.net.now) c.deref.result.now (map shown_split c.splits.result.now) c.args.handed.jobs.items (items_of c.args.files.items)
    (g.D.Disk.told c.text_beside.new.disk) c.gather.result c.gather.ensures.gathered)

pub returns-clause-left : goal.returns-clause-left
returns-clause-left g c = λ tells.
    let n = net_of c.args.net.now in
    let items = items_of c.args.files.items in
    let jobs = c.args.handed.jobs.items in
    let old = g.D.Disk.told c.args.disk.now in
    let mid = g.D.Disk.told c.text_beside.new.disk in
    let new = g.D.Disk.told c.gather.new.disk in
    let at = c.in_ok-text.ensures.attached tells in
    subst (λ (text : List ℕ). IsLeft n text c.args.handed.tree.kept.splits.list jobs items old new c.gather.result) (c.deref.ensures.value ∙ c.in_ok-text.ensures.text)
    (subst (λ (xs : List Split). IsLeft n c.deref.result.now xs jobs items old new c.gather.result) c.splits.ensures
    (left-result n c.deref.result.now (map shown_split c.splits.result.now) jobs items at.file old mid new at.image (c.gather.ensures.same_disk.same_attached ∙ at.noted) c.text_beside.ensures.quiet
    c.gather.result at.read c.gather.ensures.gathered c.gather.ensures.refused c.gather.ensures.decided c.gather.ensures.untouched c.gather.ensures.unchanged
    c.gather.ensures.any_moment))

pub returns-in_err-text-clause-left : goal.returns-in_err-text-clause-left
returns-in_err-text-clause-left g c =
    let p = err_from_is_err_and c.from_residual.result c.from_residual.ensures.1 in
    let fault = c.in_err-text.field-0.0 in
    rw (p.1, p.2)
    (λ tells. inl (record {
      unopened = failed-unopened (fault_status fault) (failed-status fault c.in_err-text.ensures.free);
      quiet = c.text_beside.ensures.quiet;
      none_attached = c.in_err-text.ensures.not_attached;
    }))
