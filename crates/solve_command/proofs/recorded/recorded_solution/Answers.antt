-- From the journal's name to the certificate.
use Rattle.std.proofs.Common.{◌≡◌, inl, inr, ℕ, List, Ok, Err, refl, sym, subst, ◌∙◌}
use Rattle.std.specs.Prelude.{IsTrue}
use Rattle.std.proofs.lemmas.Option.{none-some}
use Rattle.std.proofs.lemmas.Result.{err_from_is_err_and}
use Rattle.pool_model.specs.Network.{net_of}
use Rattle.row_model.specs.Entries.{made_by}
use Rattle.box_tree.specs.Kept.{searched_of}
use Rattle.cert_format.specs.Valid.{IsValid}
use Rattle.cert_format.specs.Views.{shown_cert}
use Rattle.node_journal.proofs.Runs.{quiet-start, quiet-call}
use Rattle.journal_format.specs.declared.fault.JournalFault.TheVariants as journal_faults
use Rattle.recorded_run.specs.declared.fault.RunFault.TheVariants as faults
use Rattle.solve_command.specs.Recorded.{IsOpened, shows}
use Rattle.journal_status.proofs.Attaching.{finds-reaches}
use Rattle.solve_command.proofs.Journaling.{attached-unsolved, attached-solved}
use Rattle.solve_command.proofs.Solutions.{solved-from}
use Rattle.solve_command.proofs.recorded.recorded_solution.Goals as goal

pub run_recorded-requires-clause-attached : goal.run_recorded-requires-clause-attached
run_recorded-requires-clause-attached g c = λ tells.
    finds-reaches (g.D.Disk.told c.args.disk.now) (g.D.Disk.told c.attach.new.self) (c.in_ok-attach.ensures.open (subst IsTrue c.attach.ensures.same_device.same_telling tells))

pub returns-clause-solved : goal.returns-clause-solved
returns-clause-solved g c =
    let run = c.in_ok-outcome.ensures.run in
    record {
      first = run.first;
      in_order = run.in_order;
      alone = λ e. absurd (none-some c.args.journal.now (sym e));
      solution = solved-from (net_of c.args.net.now) c.args.orders (made_by run.first) (searched_of c.in_ok-outcome.outcome.tree.kept) c.in_ok-outcome.outcome.ended
          (shown_cert c.in_ok-certificate.certificate) c.certificate_of.ensures.limited run.run run.search c.in_ok-certificate.ensures.found c.in_ok-certificate.ensures.valid;
    }

pub returns-clause-journal : goal.returns-clause-journal
returns-clause-journal g c = λ tells.
    let n = net_of c.args.net.now in
    let old = g.D.Disk.told c.args.disk.now in
    let mid = g.D.Disk.told c.attach.new.self in
    let new = g.D.Disk.told c.run_recorded.new.disk in
    let at = c.in_ok-attach.ensures.open tells in
    let attach = quiet-call old mid c.attach.ensures.time c.attach.ensures.crash in
    let found = searched_of c.in_ok-outcome.outcome.tree.kept in
    subst (λ (text : List ℕ). IsOpened n text c.args.orders old new
    (Ok (record { certificate = c.in_ok-certificate.certificate; ended = c.in_ok-outcome.outcome.ended }))) (c.deref.ensures.value ∙ c.in_ok-text.ensures.text)
    (inr (attached-solved n c.deref.result.now c.args.orders at.file old mid new at.image (c.run_recorded.ensures.same_disk.same_attached ∙ at.noted) attach
    c.certificate_of.ensures.limited found c.in_ok-outcome.outcome.ended (λ k. shown_cert c.in_ok-certificate.certificate ≡ k) at.read
    (λ cause has. c.in_ok-outcome.ensures.decided at.file cause at.read has) c.in_ok-outcome.ensures.run
    (subst (IsValid n) c.in_ok-certificate.ensures.found c.in_ok-certificate.ensures.valid) c.in_ok-certificate.ensures.found (λ first own. c.in_ok-outcome.ensures.any_moment at.file first at.read own)))

-- ---- where no answer is given

pub returns-in_err-text-clause-journal : goal.returns-in_err-text-clause-journal
returns-in_err-text-clause-journal g c =
    let p = err_from_is_err_and c.from_residual.result c.from_residual.ensures.1 in
    rw (p.1, p.2) (λ tells. inl (record { unopened = tt; quiet = quiet-start (g.D.Disk.told c.args.disk.now); none_attached = refl }))

pub returns-in_err-attach-clause-journal : goal.returns-in_err-attach-clause-journal
returns-in_err-attach-clause-journal g c =
    let p = err_from_is_err_and c.from_residual-in_err-attach.result c.from_residual-in_err-attach.ensures.1 in
    rw (p.1, p.2)
    (λ tells. inl (record {
      unopened = tt;
      quiet = quiet-call (g.D.Disk.told c.args.disk.now) (g.D.Disk.told c.attach.new.self) c.attach.ensures.time c.attach.ensures.crash;
      none_attached = c.in_err-attach.ensures.not_attached;
    }))

pub returns-in_err-outcome-clause-journal : goal.returns-in_err-outcome-clause-journal
returns-in_err-outcome-clause-journal g c =
    let p = err_from_is_err_and c.from_residual-in_err-outcome.result c.from_residual-in_err-outcome.ensures.1 in
    rw (p.1, p.2)
    (λ tells.
    let n = net_of c.args.net.now in
    let old = g.D.Disk.told c.args.disk.now in
    let mid = g.D.Disk.told c.attach.new.self in
    let new = g.D.Disk.told c.run_recorded.new.disk in
    let fault = c.in_err-outcome.field-0.0 in
    let at = c.in_ok-attach.ensures.open tells in
    let attach = quiet-call old mid c.attach.ensures.time c.attach.ensures.crash in
    subst (λ (text : List ℕ). IsOpened n text c.args.orders old new (Err fault)) (c.deref.ensures.value ∙ c.in_ok-text.ensures.text)
    (inr (attached-unsolved n c.deref.result.now c.args.orders at.file old mid new at.image (c.run_recorded.ensures.same_disk.same_attached ∙ at.noted) attach
    fault (shows (Err fault)) (c.in_err-outcome.ensures.refused at.file at.read) (λ cause has. c.in_err-outcome.ensures.decided at.file cause at.read has) c.in_err-outcome.ensures.untouched
    (λ first own. c.in_err-outcome.ensures.any_moment at.file first at.read own))))

pub returns-in_err-certificate-clause-journal : goal.returns-in_err-certificate-clause-journal
returns-in_err-certificate-clause-journal g c =
    let p = err_from_is_err_and c.from_residual-in_err-certificate.result c.from_residual-in_err-certificate.ensures.1 in
    rw (p.1, p.2)
    (λ tells.
    let n = net_of c.args.net.now in
    let old = g.D.Disk.told c.args.disk.now in
    let mid = g.D.Disk.told c.attach.new.self in
    let new = g.D.Disk.told c.run_recorded.new.disk in
    let fault = faults.Journal journal_faults.Memory in
    let at = c.in_ok-attach.ensures.open tells in
    let attach = quiet-call old mid c.attach.ensures.time c.attach.ensures.crash in
    subst (λ (text : List ℕ). IsOpened n text c.args.orders old new (Err fault)) (c.deref.ensures.value ∙ c.in_ok-text.ensures.text)
    (inr (attached-unsolved n c.deref.result.now c.args.orders at.file old mid new at.image (c.run_recorded.ensures.same_disk.same_attached ∙ at.noted) attach
    fault (shows (Err fault)) (inl (inr refl)) (λ cause has. inl (inr refl)) (inl (inr refl))
    (λ first own.
    let goes = c.in_ok-outcome.ensures.any_moment at.file first at.read own in
    record {
      last = goes.last;
      begins = goes.begins;
      any_moment = goes.any_moment;
      acknowledged = goes.acknowledged;
      known = (goes.known.0, λ memory. record { file = goes.known.1.file; read = goes.known.1.on_disk.read; own = goes.known.1.own });
    }))))
