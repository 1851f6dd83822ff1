-- From the journal's name to the jobs on the tree of its entries.
use Rattle.std.proofs.Common.{inl, inr, ℕ, List, Ok, Err, refl, ap, subst, ◌∙◌}
use Rattle.std.specs.Prelude.{IsTrue}
use Rattle.std.proofs.lemmas.Result.{err_from_is_err_and}
use Rattle.pool_model.specs.Network.{net_of}
use Rattle.box_tree.specs.Kept.{searched_of}
use Rattle.journal_format.specs.declared.fault.JournalFault.TheVariants as journal_faults
use Rattle.node_journal.proofs.Runs.{quiet-call, quiet-start}
use Rattle.recorded_run.specs.declared.fault.RunFault.TheVariants as faults
use Rattle.recorded_run.proofs.Recording.{recorded-stands, recovered-held}
use Rattle.job_texts.specs.Views.{shown_jobs}
use Rattle.journal_status.proofs.Attaching.{finds-reaches}
use Rattle.job_commands.specs.Kept.{IsOpened, shows}
use Rattle.job_commands.proofs.Keeping.{attached-made, attached-unmade}
use Rattle.job_commands.proofs.handing.recovered_jobs.Goals as goal

pub recover-requires-clause-attached : goal.recover-requires-clause-attached
recover-requires-clause-attached g c = λ tells.
    finds-reaches (g.D.Disk.told c.args.disk.now) (g.D.Disk.told c.attach.new.self) (c.in_ok-attach.ensures.open (subst IsTrue c.attach.ensures.same_device.same_telling tells))

pub returns-clause-made : goal.returns-clause-made
returns-clause-made g c =
    let found = c.in_ok-recovered.ensures.found in
    record { list = found.first; in_order = found.in_order; are = c.in_ok-jobs.ensures.made found.first found.made }

pub returns-clause-journal : goal.returns-clause-journal
returns-clause-journal g c = λ tells.
    let n = net_of c.args.network.now in
    let old = g.D.Disk.told c.args.disk.now in
    let mid = g.D.Disk.told c.attach.new.self in
    let new = g.D.Disk.told c.recover.new.disk in
    let at = c.in_ok-attach.ensures.open tells in
    let attach = quiet-call old mid c.attach.ensures.time c.attach.ensures.crash in
    let recovered = c.in_ok-recovered.recovered in
    subst (λ (text : List ℕ). IsOpened n text c.args.count old new (Ok c.in_ok-jobs.jobs)) (c.deref.ensures.value ∙ c.in_ok-text.ensures.text)
    (inr (attached-made n c.deref.result.now c.args.count at.file old mid new at.image (c.recover.ensures.same_disk.same_attached ∙ at.noted) attach
    recovered.journal.next (searched_of recovered.tree.kept) (shown_jobs c.in_ok-jobs.jobs) (shows (Ok c.in_ok-jobs.jobs)) at.read
    (λ cause has. c.in_ok-recovered.ensures.decided at.file cause at.read has) c.in_ok-recovered.ensures.found c.in_ok-jobs.ensures.made refl
    (λ list own. c.recover.ensures.any_moment at.file list at.read own)))

-- ---- where no jobs are made

pub returns-in_err-text-clause-journal : goal.returns-in_err-text-clause-journal
returns-in_err-text-clause-journal g c =
    let p = err_from_is_err_and c.from_residual.result c.from_residual.ensures.1 in
    rw (p.1, p.2) (λ tells. inl (record { unopened = tt; quiet = quiet-start (g.D.Disk.told c.args.disk.now); none_attached = refl }))

pub returns-in_err-attach-clause-journal : goal.returns-in_err-attach-clause-journal
returns-in_err-attach-clause-journal g c =
    let p = err_from_is_err_and c.from_residual-in_err-attach.result c.from_residual-in_err-attach.ensures.1 in
    rw (p.1, p.2)
    (λ tells. inl (record {
      unopened = tt;
      quiet = quiet-call (g.D.Disk.told c.args.disk.now) (g.D.Disk.told c.attach.new.self) c.attach.ensures.time c.attach.ensures.crash;
      none_attached = c.in_err-attach.ensures.not_attached;
    }))

pub returns-in_err-recovered-clause-journal : goal.returns-in_err-recovered-clause-journal
returns-in_err-recovered-clause-journal g c =
    let p = err_from_is_err_and c.from_residual-in_err-recovered.result c.from_residual-in_err-recovered.ensures.1 in
    rw (p.1, p.2)
    (λ tells.
    let n = net_of c.args.network.now in
    let old = g.D.Disk.told c.args.disk.now in
    let mid = g.D.Disk.told c.attach.new.self in
    let new = g.D.Disk.told c.recover.new.disk in
    let fault = c.in_err-recovered.field-0.0 in
    let at = c.in_ok-attach.ensures.open tells in
    let attach = quiet-call old mid c.attach.ensures.time c.attach.ensures.crash in
    subst (λ (text : List ℕ). IsOpened n text c.args.count old new (Err fault)) (c.deref.ensures.value ∙ c.in_ok-text.ensures.text)
    (inr (attached-unmade n c.deref.result.now c.args.count at.file old mid new at.image (c.recover.ensures.same_disk.same_attached ∙ at.noted) attach
    fault (shows (Err fault)) (c.in_err-recovered.ensures.refused at.file at.read) (λ cause has. c.in_err-recovered.ensures.decided at.file cause at.read has) c.in_err-recovered.ensures.untouched
    (λ list own. c.recover.ensures.any_moment at.file list at.read own)
    (λ e list own. c.in_err-recovered.ensures.kept (ap (λ f. Err f) e) at.file list at.read own))))

pub returns-in_err-jobs-clause-journal : goal.returns-in_err-jobs-clause-journal
returns-in_err-jobs-clause-journal g c =
    let p = err_from_is_err_and c.from_residual-in_err-jobs.result c.from_residual-in_err-jobs.ensures.1 in
    rw (p.1, p.2)
    (λ tells.
    let n = net_of c.args.network.now in
    let old = g.D.Disk.told c.args.disk.now in
    let mid = g.D.Disk.told c.attach.new.self in
    let new = g.D.Disk.told c.recover.new.disk in
    let fault = faults.Journal journal_faults.Memory in
    let at = c.in_ok-attach.ensures.open tells in
    let attach = quiet-call old mid c.attach.ensures.time c.attach.ensures.crash in
    let recovered = c.in_ok-recovered.recovered in
    let text = c.deref.result.now in
    subst (λ (t : List ℕ). IsOpened n t c.args.count old new (Err fault)) (c.deref.ensures.value ∙ c.in_ok-text.ensures.text)
    (inr (attached-unmade n text c.args.count at.file old mid new at.image (c.recover.ensures.same_disk.same_attached ∙ at.noted) attach
    fault (shows (Err fault)) (inl (inr refl)) (λ cause has. inl (inr refl)) (inl (inr refl))
    (λ list own. c.recover.ensures.any_moment at.file list at.read own)
    (λ e list own. recorded-stands n text list recovered.journal.next (searched_of recovered.tree.kept) new
    (recovered-held n text list recovered.journal.next (searched_of recovered.tree.kept) at.file mid new c.in_ok-recovered.ensures.found at.read own.stands)))))
