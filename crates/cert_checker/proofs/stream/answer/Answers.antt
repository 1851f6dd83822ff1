-- The answer, from what was walked.
use Rattle.std.proofs.lemmas.Result.{err_from_is_err_and}
use Rattle.pool_model.specs.Network.{Net, net_of}
use Rattle.proof_lines.specs.Runs.{Moment, moment}
use Rattle.cert_checker.proofs.Answering.{walked-room, valid-answered, claim-answered}
use Rattle.cert_checker.proofs.stream.answer.Goals as goal

pub check_claim-requires : goal.check_claim-requires
check_claim-requires g c =
    let n : Net = net_of c.args.net.now in
    let m : Moment = moment c.args.reader.now (g.S.Shelf.told c.args.shelf.now) in
    let q : Moment = moment c.walk.new.reader (g.S.Shelf.told c.walk.new.shelf) in
    walked-room n m q c.in-Ok.found c.in-Ok.ensures.walked c.in-Ok.ensures.limited c.in-Ok.ensures.reach

pub at_the_end-requires : goal.at_the_end-requires
at_the_end-requires g c =
    let n : Net = net_of c.args.net.now in
    let m : Moment = moment c.args.reader.now (g.S.Shelf.told c.args.shelf.now) in
    (n, m, c.in-Err.ensures.walked)

pub returns-in_err-check_claim-in-Ok : goal.returns-in_err-check_claim-in-Ok
returns-in_err-check_claim-in-Ok g c =
    let n : Net = net_of c.args.net.now in
    let m : Moment = moment c.args.reader.now (g.S.Shelf.told c.args.shelf.now) in
    let q : Moment = moment c.walk.new.reader (g.S.Shelf.told c.walk.new.shelf) in
    let r = err_from_is_err_and c.from_residual.result c.from_residual.ensures.1 in
    rw (r.1, r.2) (λ most new. claim-answered n most m q c.in-Ok.found new c.in-Ok.ensures.walked c.in_err-check_claim-in-Ok.field-0.0 c.in_err-check_claim-in-Ok.ensures.refused)

pub returns-in_ok-check_claim-in-Ok : goal.returns-in_ok-check_claim-in-Ok
returns-in_ok-check_claim-in-Ok g c =
    let n : Net = net_of c.args.net.now in
    let m : Moment = moment c.args.reader.now (g.S.Shelf.told c.args.shelf.now) in
    let q : Moment = moment c.walk.new.reader (g.S.Shelf.told c.walk.new.shelf) in
    λ most new. valid-answered n most m q c.in-Ok.found new c.in-Ok.ensures.walked c.in-Ok.ensures.limited c.in_ok-check_claim-in-Ok.ensures.claimed

pub returns-in-Err : goal.returns-in-Err
returns-in-Err g c =
    let n : Net = net_of c.args.net.now in
    let m : Moment = moment c.args.reader.now (g.S.Shelf.told c.args.shelf.now) in
    λ most new. c.at_the_end.ensures n m most new c.in-Err.ensures.walked
