-- A file that spells no answers changes nothing but what is told.
use Rattle.std.proofs.Common.{refl, sym, subst}
use Rattle.std.proofs.lemmas.Result.{err_from_is_err_and}
use Rattle.pool_model.specs.Network.{net_of}
use Rattle.gathered_run.specs.Files.{items_in}
use Rattle.gathered_run.specs.Steps.{AreTaken}
use Rattle.gathered_run.specs.declared.files.AnswersFile.{AnswersFile}
use Rattle.gathered_run.specs.declared.gathering.Gathering.{Gathering}
use Rattle.gathered_run.proofs.Taking.{taken-faulty}
use Rattle.gathered_run.proofs.Stopping.{stopped-none}
use Rattle.gathered_run.proofs.gathering.Gathering.take_file.Goals as goal

pub returns-in_ok-push-in-Faulty-clause-taken : goal.returns-in_ok-push-in-Faulty-clause-taken
returns-in_ok-push-in-Faulty-clause-taken g c =
    let n = net_of c.args.net.now in
    let now : Gathering = record { journal = c.args.self.now.journal; desk = c.args.self.now.desk; lines = c.push.new.self } in
    let d = g.D.Disk.told c.args.disk.now in
    subst (λ (f : AnswersFile). AreTaken n (items_in c.args.number f) c.args.self.now now d d) (sym c.in-Faulty.is)
    (taken-faulty n c.args.number c.in-Faulty.line c.args.self.now now d refl refl c.in_ok-push-in-Faulty.ensures.items)

pub returns-in_err-push-in-Faulty-clause-taken : goal.returns-in_err-push-in-Faulty-clause-taken
returns-in_err-push-in-Faulty-clause-taken g c =
    let p = err_from_is_err_and c.from_residual.result c.from_residual.ensures.1 in
    rw (p.1) (stopped-none (net_of c.args.net.now) (items_in c.args.number c.args.file) c.args.self.now (g.D.Disk.told c.args.disk.now) p.0)
