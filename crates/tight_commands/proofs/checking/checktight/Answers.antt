use Rattle.std.proofs.Common.{IsTrue, Bool, List, ℕ, Option, ap, subst, sym}
use Rattle.pool_model.specs.Network.{net_of}
use Rattle.run_status.specs.Reads.{Files, ReadsUnder}
use Rattle.run_status.specs.Took.{Took, unread_status}
use Rattle.run_status.proofs.Quiet.{failed_told, quiet_behind}
use Rattle.tight_commands.specs.Certified.{CertifiedIn}
use Rattle.tight_commands.specs.CheckTightEnds.{CheckTightEnds, CheckTightWants, ChecksTightAs, check_tight_status}
use Rattle.tight_commands.proofs.Certificates.{under}
use Rattle.tight_commands.proofs.checking.checktight.Goals as goal

pub check_file-requires-clause-text : goal.check_file-requires-clause-text
check_file-requires-clause-text g c = λ cert certified.
    let kept = c.network_under.ensures.kept in
    let files = (g.S.Shelf.told c.args.shelf.now).files in
    let n = net_of c.in-Ok.network in
    subst (λ (admits : List ℕ → Bool). IsTrue (admits c.args.tight.now)) (sym kept.same_names)
    (c.requires.text (
      c.in-Ok.network,
      (
        cert,
        under files c.args.net.now c.args.cert.now c.in-Ok.network c.in-Ok.ensures.reads cert
            (subst (λ (f : Option Files). CertifiedIn f c.args.cert.now n cert) kept.same_files certified),
      ),
    ))

pub returns-in-Ok-clause-took : goal.returns-in-Ok-clause-took
returns-in-Ok-clause-took g c =
    let kept = c.network_under.ensures.kept in
    let reads = subst (λ (f : Option Files). ReadsUnder f c.args.net.now c.in-Ok.network) (sym kept.same_files) c.in-Ok.ensures.reads in
    subst (λ (f : Option Files). Took (ChecksTightAs f c.args.net.now c.args.cert.now c.args.tight.now) (check_tight_status c.check_file.result) (g.K.Sink.taken c.args.out.now)
    (g.K.Sink.taken c.check_file.new.out)) kept.same_files (c.check_file.ensures.took c.args.net.now reads)

pub returns-in-Ok-clause-ends : goal.returns-in-Ok-clause-ends
returns-in-Ok-clause-ends g c =
    let kept = c.network_under.ensures.kept in
    let reads = subst (λ (f : Option Files). ReadsUnder f c.args.net.now c.in-Ok.network) (sym kept.same_files) c.in-Ok.ensures.reads in
    subst (λ (f : Option Files). CheckTightEnds f c.args.net.now c.args.cert.now c.args.tight.now (g.S.Shelf.told c.args.shelf.now).taken
    (g.S.Shelf.told c.check_file.new.shelf).taken (check_tight_status c.check_file.result)) kept.same_files
    (c.check_file.ensures.ends c.args.net.now (g.S.Shelf.told c.args.shelf.now).taken reads kept.taken_grows)

pub returns-in-Ok-clause-quiet : goal.returns-in-Ok-clause-quiet
returns-in-Ok-clause-quiet g c = quiet_behind c.in-Ok.ensures.quiet c.check_file.ensures.quiet

pub returns-in-Ok-clause-memory : goal.returns-in-Ok-clause-memory
returns-in-Ok-clause-memory g c = λ e.
    let kept = c.network_under.ensures.kept in
    let reads = subst (λ (f : Option Files). ReadsUnder f c.args.net.now c.in-Ok.network) (sym kept.same_files) c.in-Ok.ensures.reads in
    subst (λ (f : Option Files). CheckTightWants f c.args.net.now c.args.cert.now c.args.tight.now c.check_file.result) kept.same_files (c.check_file.ensures.memory c.args.net.now reads e)

pub returns-in-Err-clause-quiet : goal.returns-in-Err-clause-quiet
returns-in-Err-clause-quiet g c = failed_told (λ e. ap unread_status e) c.in-Err.ensures.quiet
