use Rattle.std.proofs.Common.{IsTrue, List, ℕ, Bool, Option, Err, refl, ap, subst, sym}
use Rattle.edge_io.proofs.Counting.{grows-then}
use Rattle.pool_model.specs.Network.{net_of}
use Rattle.cert_format.specs.Views.{shown_cert}
use Rattle.run_status.specs.Reads.{Files}
use Rattle.run_status.specs.Took.{Took}
use Rattle.run_status.proofs.Quiet.{failed_told, quiet_behind}
use Rattle.tight_commands.specs.Certified.{uncertified_status}
use Rattle.tight_commands.specs.CheckTightEnds.{check_tight_status}
use Rattle.tight_commands.specs.TextEnds.{TextEnds, TextLineIn}
use Rattle.tight_commands.proofs.Certificates.{uncertified-failed, unwritten-is}
use Rattle.tight_commands.proofs.CheckDone.{ends-certified, ends-uncertified, took-certified, took-uncertified, wants-certified, wants-uncertified}
use Rattle.tight_commands.proofs.checking.check_file.Goals as goal

pub check_text-requires-clause-text : goal.check_text-requires-clause-text
check_text-requires-clause-text g c =
    subst (λ (admits : List ℕ → Bool). IsTrue (admits c.args.tight.now)) (sym c.certified_under.ensures.kept.same_names) (c.requires.text (shown_cert c.in-Ok.certificate) c.in-Ok.ensures.certified)

pub check_text-requires-clause-valid : goal.check_text-requires-clause-valid
check_text-requires-clause-valid g c = c.in-Ok.ensures.certified.certifies.valid

pub returns-in-Ok-clause-took : goal.returns-in-Ok-clause-took
returns-in-Ok-clause-took g c = λ net reads.
    let n = net_of c.args.network.now in
    let cert = shown_cert c.in-Ok.certificate in
    took-certified (g.S.Shelf.told c.args.shelf.now).files net c.args.cert.now c.args.tight.now c.args.network.now reads cert (check_tight_status c.check_text.result)
    (g.K.Sink.taken c.args.out.now) (g.K.Sink.taken c.check_text.new.out) c.in-Ok.ensures.certified
    (subst (λ out. Took (TextLineIn (g.S.Shelf.told c.args.shelf.now).files c.args.tight.now n cert) (check_tight_status c.check_text.result) (g.K.Sink.taken out) (g.K.Sink.taken c.check_text.new.out))
    c.in-Ok.ensures.untouched
    (subst (λ (f : Option Files). Took (TextLineIn f c.args.tight.now n cert) (check_tight_status c.check_text.result) (g.K.Sink.taken c.certified_under.new.out) (g.K.Sink.taken c.check_text.new.out))
    c.certified_under.ensures.kept.same_files c.check_text.ensures.took))

pub returns-in-Ok-clause-ends : goal.returns-in-Ok-clause-ends
returns-in-Ok-clause-ends g c = λ net before reads grows.
    let mid = (g.S.Shelf.told c.certified_under.new.shelf).taken in
    ends-certified (g.S.Shelf.told c.args.shelf.now).files net c.args.cert.now c.args.tight.now c.args.network.now reads (shown_cert c.in-Ok.certificate) before mid
    (g.S.Shelf.told c.check_text.new.shelf).taken c.check_text.result c.in-Ok.ensures.certified
    (grows-then before (g.S.Shelf.told c.args.shelf.now).taken mid grows c.certified_under.ensures.kept.taken_grows)
    (subst (λ (f : Option Files). TextEnds f c.args.tight.now (net_of c.args.network.now) (shown_cert c.in-Ok.certificate) mid (g.S.Shelf.told c.check_text.new.shelf).taken c.check_text.result)
    c.certified_under.ensures.kept.same_files c.check_text.ensures.ends)

pub returns-in-Ok-clause-quiet : goal.returns-in-Ok-clause-quiet
returns-in-Ok-clause-quiet g c = quiet_behind c.in-Ok.ensures.quiet c.check_text.ensures.quiet

pub returns-in-Ok-clause-memory : goal.returns-in-Ok-clause-memory
returns-in-Ok-clause-memory g c = λ net reads e.
    wants-certified (g.S.Shelf.told c.args.shelf.now).files net c.args.cert.now c.args.tight.now c.args.network.now reads (shown_cert c.in-Ok.certificate)
    (g.S.Shelf.told c.certified_under.new.shelf).taken (g.S.Shelf.told c.check_text.new.shelf).taken c.check_text.result c.in-Ok.ensures.certified
    (subst (λ (f : Option Files). TextEnds f c.args.tight.now (net_of c.args.network.now) (shown_cert c.in-Ok.certificate) (g.S.Shelf.told c.certified_under.new.shelf).taken
    (g.S.Shelf.told c.check_text.new.shelf).taken c.check_text.result) c.certified_under.ensures.kept.same_files c.check_text.ensures.ends) e

-- ---- there is no certificate

pub returns-in-Err-clause-took : goal.returns-in-Err-clause-took
returns-in-Err-clause-took g c = λ net reads.
    took-uncertified (g.S.Shelf.told c.args.shelf.now).files net c.args.cert.now c.args.tight.now c.args.network.now reads (uncertified_status c.in-Err.why)
    (g.K.Sink.taken c.args.out.now) (g.K.Sink.taken c.certified_under.new.out) c.in-Err.ensures.took

pub returns-in-Err-clause-ends : goal.returns-in-Err-clause-ends
returns-in-Err-clause-ends g c = λ net before reads grows.
    ends-uncertified (g.S.Shelf.told c.args.shelf.now).files net c.args.cert.now c.args.tight.now c.args.network.now reads before (g.S.Shelf.told c.args.shelf.now)
    (g.S.Shelf.told c.certified_under.new.shelf) c.in-Err.why refl grows c.in-Err.ensures.uncertified

pub returns-in-Err-clause-read_fault : goal.returns-in-Err-clause-read_fault
returns-in-Err-clause-read_fault g c =
    uncertified-failed (net_of c.args.network.now) c.args.cert.now (g.S.Shelf.told c.args.shelf.now) (g.S.Shelf.told c.certified_under.new.shelf) c.in-Err.why c.in-Err.ensures.uncertified

pub returns-in-Err-clause-quiet : goal.returns-in-Err-clause-quiet
returns-in-Err-clause-quiet g c = failed_told (λ e. ap uncertified_status e) c.in-Err.ensures.quiet

pub returns-in-Err-clause-write_fault : goal.returns-in-Err-clause-write_fault
returns-in-Err-clause-write_fault g c = λ e. c.in-Err.ensures.write_fault (ap (λ why. Err why) (unwritten-is c.in-Err.why e))

pub returns-in-Err-clause-memory : goal.returns-in-Err-clause-memory
returns-in-Err-clause-memory g c = λ net reads e.
    wants-uncertified (g.S.Shelf.told c.args.shelf.now).files net c.args.cert.now c.args.tight.now c.args.network.now reads c.in-Err.why e
