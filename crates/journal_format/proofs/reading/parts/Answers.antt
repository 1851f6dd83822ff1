use Rattle.std.proofs.Common.{◌≡◌, ◌++◌, ◌∷◌, [], map}
use Rattle.std.proofs.lemmas.Result.{err_from_is_err_and}
use Rattle.std.proofs.lemmas.List.{map_push}
use Rattle.box_space.specs.Views.{shown_part}
use Rattle.journal_format.specs.Reading.{parts_at}
use Rattle.journal_format.proofs.Repeated.{parts-goes_on, parts-ends, parts-done}
use Rattle.journal_format.proofs.reading.parts.Goals as goal

pub returns-in_err-next : goal.returns-in_err-next
returns-in_err-next c =
    let p = err_from_is_err_and c.from_residual.result c.from_residual.ensures.1 in
    rw (p.1, p.2) (parts-ends c.in_err-next.field-0.0 (map shown_part c.loop.parts.items) c.args.count c.loop.counter c.loop.rest.now
    (parts_at c.args.count c.args.bytes.now) c.loop-test.true c.in_err-next.ensures c.loop.invariant)

pub loop-preserved : goal.loop-preserved
loop-preserved c =
    let e : map shown_part c.push.new.self.items ≡ map shown_part c.loop.parts.items ++ shown_part c.in_ok-next.next ∷ [] =
    rw c.in_ok-push.ensures.items (map_push _ c.loop.parts.items c.in_ok-next.next) in
    rw e (parts-goes_on (map shown_part c.loop.parts.items) c.args.count c.loop.counter c.loop.rest.now
    (shown_part c.in_ok-next.next) c.in_ok-next.behind.now (parts_at c.args.count c.args.bytes.now) c.loop-test.true c.in_ok-next.ensures c.loop.invariant)

pub returns : goal.returns
returns c = parts-done (map shown_part c.loop.parts.items) c.args.count c.loop.counter c.loop.rest.now (parts_at c.args.count c.args.bytes.now) c.loop-test.false c.loop.invariant
