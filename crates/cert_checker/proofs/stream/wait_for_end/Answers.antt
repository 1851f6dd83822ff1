-- A cause that waits for the end.
use Rattle.std.proofs.Common.{Ok, Err, sym, subst}
use Rattle.proof_lines.specs.declared.refusal.Refusal.{Refusal}
use Rattle.proof_lines.specs.declared.stream_refusal.StreamRefusal.TheVariants.{Refused}
use Rattle.cert_checker.specs.Parts.{IsRefusedFront}
use Rattle.proof_lines.specs.Runs.{Moment, moment}
use Rattle.cert_checker.proofs.Answering.{halts-answered, IsAtOnce, cause-found, finish-answered}
use Rattle.cert_checker.proofs.stream.wait_for_end.Goals as goal

pub finish-requires : goal.finish-requires
finish-requires g c =
    let k : Moment = moment c.args.reader.now (g.S.Shelf.told c.args.shelf.now) in
    let found = cause-found (IsRefusedFront c.requires.0) c.requires.1 k c.args.cause c.in_default.not-Text c.requires.2.cause in
    record { used_up = found.0.used_up }

pub returns-in-Text : goal.returns-in-Text
returns-in-Text g c =
    let k : Moment = moment c.args.reader.now (g.S.Shelf.told c.args.shelf.now) in
    λ n m most new halts. halts-answered n most m k (Refused c.args.cause) new halts (subst (λ (r : Refusal). IsAtOnce (Refused r)) (sym c.in-Text.is) tt)

pub returns-in-Ok : goal.returns-in-Ok
returns-in-Ok g c =
    let k : Moment = moment c.args.reader.now (g.S.Shelf.told c.args.shelf.now) in
    let q : Moment = moment c.finish.new.self (g.S.Shelf.told c.finish.new.shelf) in
    λ n m most new halts. finish-answered n most m k q c.args.cause (Ok tt) new halts c.in_default.not-Text c.finish.ensures.kept c.in-Ok.ensures.finished (λ f x. absurd cc) (λ x. absurd cc)
    (λ x. absurd cc) (λ x. absurd cc) c.in-Ok.ensures.quiet

pub returns-in-Err : goal.returns-in-Err
returns-in-Err g c =
    let k : Moment = moment c.args.reader.now (g.S.Shelf.told c.args.shelf.now) in
    let q : Moment = moment c.finish.new.self (g.S.Shelf.told c.finish.new.shelf) in
    let fails = c.in-Err.ensures in
    rw c.from.ensures (λ n m most new halts. finish-answered n most m k q c.args.cause
    (Err c.in-Err.fault) new halts c.in_default.not-Text c.finish.ensures.kept tt fails.text fails.too_long fails.took_more fails.read fails.quiet)
