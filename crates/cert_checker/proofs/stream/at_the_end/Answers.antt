-- A refusal that waits for the end, where it is a cause.
use Rattle.std.proofs.Common.{subst}
use Rattle.cert_checker.specs.Parts.{IsRefusedFront}
use Rattle.proof_lines.specs.Runs.{Moment, moment, Halts}
use Rattle.cert_checker.proofs.Answering.{halts-answered, other-at-once}
use Rattle.cert_checker.proofs.stream.at_the_end.Goals as goal

pub wait_for_end-requires : goal.wait_for_end-requires
wait_for_end-requires g c =
    let k : Moment = moment c.args.reader.now (g.S.Shelf.told c.args.shelf.now) in
    (c.requires.0, c.requires.1, subst (Halts (IsRefusedFront c.requires.0) c.requires.1 k) c.in-Refused.is c.requires.2)

pub returns-in-Refused : goal.returns-in-Refused
returns-in-Refused g c =
    let k : Moment = moment c.args.reader.now (g.S.Shelf.told c.args.shelf.now) in
    λ n m most new halts. c.wait_for_end.ensures n m most new (subst (Halts (IsRefusedFront n) m k) c.in-Refused.is halts)

pub returns-in_default : goal.returns-in_default
returns-in_default g c =
    let k : Moment = moment c.args.reader.now (g.S.Shelf.told c.args.shelf.now) in
    λ n m most new halts. halts-answered n most m k c.args.refusal new halts (other-at-once c.args.refusal c.in_default.not-Refused)
