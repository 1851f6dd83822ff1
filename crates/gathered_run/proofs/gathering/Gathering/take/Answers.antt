-- An answer that doesn't fit changes nothing but what is told.
use Rattle.std.proofs.Common.{[], ◌∷◌, refl}
use Rattle.std.proofs.lemmas.Result.{err_from_is_err_and}
use Rattle.pool_model.specs.Network.{net_of}
use Rattle.work_units.specs.Views.{shown_answer}
use Rattle.gathered_run.specs.Files.{an_answer}
use Rattle.gathered_run.proofs.Taking.{taken-other}
use Rattle.gathered_run.proofs.Stopping.{stopped-none}
use Rattle.gathered_run.proofs.gathering.Gathering.take.Goals as goal

pub take_fitting-requires-clause-fits : goal.take_fitting-requires-clause-fits
take_fitting-requires-clause-fits g c = rw c.in-Fits.is at c.in_ok-judged.ensures.judged

pub returns-in_ok-push-in_default-clause-taken : goal.returns-in_ok-push-in_default-clause-taken
returns-in_ok-push-in_default-clause-taken g c =
    taken-other (net_of c.args.net.now) (shown_answer c.args.answer) c.in_ok-judged.judged c.args.self.now record { journal = c.args.self.now.journal; desk = c.args.self.now.desk; lines = c.push.new.self }
    (g.D.Disk.told c.args.disk.now) c.in_default.not-Fits c.in_ok-judged.ensures.judged refl refl c.in_ok-push-in_default.ensures.items

pub returns-in_err-judged-clause-taken : goal.returns-in_err-judged-clause-taken
returns-in_err-judged-clause-taken g c =
    let p = err_from_is_err_and c.from_residual.result c.from_residual.ensures.1 in
    rw (p.1) (stopped-none (net_of c.args.net.now) (an_answer (shown_answer c.args.answer) ∷ []) c.args.self.now (g.D.Disk.told c.args.disk.now) p.0)

pub returns-in_err-push-in_default-clause-taken : goal.returns-in_err-push-in_default-clause-taken
returns-in_err-push-in_default-clause-taken g c =
    let p = err_from_is_err_and c.from_residual-in_err-push-in_default.result c.from_residual-in_err-push-in_default.ensures.1 in
    rw (p.1) (stopped-none (net_of c.args.net.now) (an_answer (shown_answer c.args.answer) ∷ []) c.args.self.now (g.D.Disk.told c.args.disk.now) p.0)
