use Rattle.std.proofs.Common.{inr, Option, Err, refl, ap, subst}
use Rattle.pool_model.specs.Network.{net_of}
use Rattle.cert_format.specs.Views.{shown_cert}
use Rattle.run_status.specs.Took.{Took}
use Rattle.run_status.proofs.Quiet.{failed_told, quiet_behind}
use Rattle.tight_commands.specs.Certified.{uncertified_status}
use Rattle.tight_commands.specs.Marked.{MarksTextOn}
use Rattle.tight_commands.specs.TightEnds.{tight_status}
use Rattle.tight_commands.proofs.Certificates.{uncertified-failed, unwritten-is}
use Rattle.tight_commands.proofs.MarkDone.{ends-certified, ends-uncertified, took-certified, took-uncertified, tried-not-read, wants-certified, wants-uncertified}
use Rattle.tight_commands.proofs.marking.mark_file.Goals as goal

pub mark_certified-requires : goal.mark_certified-requires
mark_certified-requires g c = c.in-Ok.ensures.certified.certifies.valid

pub returns-in-Ok-clause-took : goal.returns-in-Ok-clause-took
returns-in-Ok-clause-took g c = λ net reads.
    let n = net_of c.args.network.now in
    let cert = shown_cert c.in-Ok.certificate in
    took-certified (g.S.Shelf.told c.args.shelf.now).files net c.args.cert.now c.args.network.now reads c.args.form c.args.pivots cert (tight_status c.mark_certified.result)
    (g.K.Sink.taken c.args.out.now) (g.K.Sink.taken c.mark_certified.new.out) c.in-Ok.ensures.certified
    (subst (λ out. Took (MarksTextOn n c.args.form c.args.pivots cert) (tight_status c.mark_certified.result) (g.K.Sink.taken out) (g.K.Sink.taken c.mark_certified.new.out))
    c.in-Ok.ensures.untouched c.mark_certified.ensures.took)

pub returns-in-Ok-clause-ends : goal.returns-in-Ok-clause-ends
returns-in-Ok-clause-ends g c = λ net before reads grows.
    ends-certified (g.S.Shelf.told c.args.shelf.now).files net c.args.cert.now c.args.network.now reads (shown_cert c.in-Ok.certificate) before
    (g.S.Shelf.told c.certified_under.new.shelf).taken c.mark_certified.result c.in-Ok.ensures.certified c.mark_certified.ensures.ends

pub returns-in-Ok-clause-read_fault : goal.returns-in-Ok-clause-read_fault
returns-in-Ok-clause-read_fault g c = λ e.
    absurd (tried-not-read (net_of c.args.network.now) (shown_cert c.in-Ok.certificate) c.mark_certified.result c.mark_certified.ensures.ends e)

pub returns-in-Ok-clause-quiet : goal.returns-in-Ok-clause-quiet
returns-in-Ok-clause-quiet g c = quiet_behind c.in-Ok.ensures.quiet (inr refl)

pub returns-in-Ok-clause-memory : goal.returns-in-Ok-clause-memory
returns-in-Ok-clause-memory g c = λ net reads e.
    wants-certified (g.S.Shelf.told c.args.shelf.now).files net c.args.cert.now c.args.network.now reads (shown_cert c.in-Ok.certificate) c.mark_certified.result
    c.in-Ok.ensures.certified c.mark_certified.ensures.ends e

-- ---- there is no certificate

pub returns-in-Err-clause-took : goal.returns-in-Err-clause-took
returns-in-Err-clause-took g c = λ net reads.
    took-uncertified (g.S.Shelf.told c.args.shelf.now).files net c.args.cert.now c.args.network.now reads c.args.form c.args.pivots (uncertified_status c.in-Err.why)
    (g.K.Sink.taken c.args.out.now) (g.K.Sink.taken c.certified_under.new.out) c.in-Err.ensures.took

pub returns-in-Err-clause-ends : goal.returns-in-Err-clause-ends
returns-in-Err-clause-ends g c = λ net before reads grows.
    ends-uncertified (g.S.Shelf.told c.args.shelf.now).files net c.args.cert.now c.args.network.now reads before (g.S.Shelf.told c.args.shelf.now)
    (g.S.Shelf.told c.certified_under.new.shelf) c.in-Err.why refl grows c.in-Err.ensures.uncertified

pub returns-in-Err-clause-read_fault : goal.returns-in-Err-clause-read_fault
returns-in-Err-clause-read_fault g c =
    uncertified-failed (net_of c.args.network.now) c.args.cert.now (g.S.Shelf.told c.args.shelf.now) (g.S.Shelf.told c.certified_under.new.shelf) c.in-Err.why c.in-Err.ensures.uncertified

pub returns-in-Err-clause-quiet : goal.returns-in-Err-clause-quiet
returns-in-Err-clause-quiet g c = failed_told (λ e. ap uncertified_status e) c.in-Err.ensures.quiet

pub returns-in-Err-clause-write_fault : goal.returns-in-Err-clause-write_fault
returns-in-Err-clause-write_fault g c = λ e. c.in-Err.ensures.write_fault (ap (λ why. Err why) (unwritten-is c.in-Err.why e))

pub returns-in-Err-clause-memory : goal.returns-in-Err-clause-memory
returns-in-Err-clause-memory g c = λ net reads e.
    wants-uncertified (g.S.Shelf.told c.args.shelf.now).files net c.args.cert.now c.args.network.now reads c.in-Err.why e
