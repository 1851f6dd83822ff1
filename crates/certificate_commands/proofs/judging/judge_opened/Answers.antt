use Rattle.std.proofs.Common.{Err, ap}
use Rattle.cert_format.specs.Views.{shown_claim}
use Rattle.certificate_commands.specs.CheckEnds.{told_text}
use Rattle.run_status.specs.declared.status.Status.TheVariants.{Accepted}
use Rattle.run_status.proofs.Quiet.{failed_told}
use Rattle.certificate_commands.proofs.Streamed.{accepted-reported, accepted-told}
use Rattle.certificate_commands.proofs.judging.judge_opened.Goals as goal

pub tell_claim-requires : goal.tell_claim-requires
tell_claim-requires g c = accepted-reported c.args.network.now (g.S.Shelf.told c.args.shelf.now).rest c.in-Ok.claim c.in-Ok.ensures.checked

pub returns-in-Ok-tell_claim-clause-took : goal.returns-in-Ok-tell_claim-clause-took
returns-in-Ok-tell_claim-clause-took g c =
    let told = accepted-told c.args.telling c.args.network.now (g.S.Shelf.told c.args.shelf.now).rest c.in-Ok.claim c.in-Ok.ensures.checked in
    (told_text c.args.telling c.args.network.now (shown_claim c.in-Ok.claim), told, c.in-Ok-tell_claim.ensures.wrote)

pub returns-in-Ok-clause-took : goal.returns-in-Ok-clause-took
returns-in-Ok-clause-took g c =
    let told = accepted-told c.args.telling c.args.network.now (g.S.Shelf.told c.args.shelf.now).rest c.in-Ok.claim c.in-Ok.ensures.checked in
    (told_text c.args.telling c.args.network.now (shown_claim c.in-Ok.claim), (Accepted, told), c.in-Err-tell_claim.ensures.wrote)

pub returns-clause-ends : goal.returns-clause-ends
returns-clause-ends g c =
    c.tell_refusal.ensures.ends c.args.network.now (g.S.Shelf.told c.args.shelf.now).rest (g.S.Shelf.told c.args.shelf.now).taken
    (g.S.Shelf.told c.check_stream.new.shelf).taken c.in-Err.ensures.checked (λ e. c.in-Err.ensures.too_long (ap (λ f. Err f) e))

pub returns-clause-quiet : goal.returns-clause-quiet
returns-clause-quiet g c = failed_told c.tell_refusal.ensures.failed c.in-Err.ensures.quiet
