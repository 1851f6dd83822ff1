use Rattle.std.proofs.lemmas.Result.{err_from_is_err_and}
use Rattle.journal_format.specs.Reading.{numbers_at}
use Rattle.journal_format.proofs.Repeated.{numbers-goes_on, numbers-ends, numbers-done}
use Rattle.journal_format.proofs.reading.u64s.Goals as goal

pub returns-in_err-next : goal.returns-in_err-next
returns-in_err-next c =
    let p = err_from_is_err_and c.from_residual.result c.from_residual.ensures.1 in
    rw (p.1, p.2) (numbers-ends 8 c.in_err-next.field-0.0 c.loop.numbers.items c.args.count c.loop.counter c.loop.rest.now
    (numbers_at 8 c.args.count c.args.bytes.now) c.loop-test.true c.in_err-next.ensures c.loop.invariant)

pub loop-preserved : goal.loop-preserved
loop-preserved c =
    rw c.in_ok-push.ensures.items (numbers-goes_on 8 c.loop.numbers.items c.args.count c.loop.counter c.loop.rest.now c.in_ok-next.next
    c.in_ok-next.behind.now (numbers_at 8 c.args.count c.args.bytes.now) c.loop-test.true c.in_ok-next.ensures c.loop.invariant)

pub returns : goal.returns
returns c = numbers-done 8 c.loop.numbers.items c.args.count c.loop.counter c.loop.rest.now (numbers_at 8 c.args.count c.args.bytes.now) c.loop-test.false c.loop.invariant
