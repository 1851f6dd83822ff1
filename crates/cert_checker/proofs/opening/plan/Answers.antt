-- One number more.
use Rattle.std.proofs.Common.{◌<◌, arith}
use Rattle.std.proofs.lemmas.Result.{err_from_is_err_and}
use Rattle.pool_model.specs.Network.{Net, net_of}
use Rattle.plan_core.specs.Views.{shown_plan}
use Rattle.cert_stream.specs.Items.{shown_item}
use Rattle.cert_checker.specs.Parts.{Never}
use Rattle.proof_lines.specs.Runs.{Moment, moment}
use Rattle.proof_lines.proofs.Running.{failed-halts, failed-then, memory-halts, run-then}
use Rattle.cert_checker.proofs.Planning.{numbers_of, front-none, front-going, front-more, front-taken}
use Rattle.cert_checker.proofs.opening.plan.Goals as goal

pub loop-init : goal.loop-init
loop-init g c =
    let n : Net = net_of c.args.net.now in
    let m : Moment = moment c.args.reader.now (g.S.Shelf.told c.args.shelf.now) in
    let k : Moment = moment c.base_pair.new.reader (g.S.Shelf.told c.base_pair.new.shelf) in
    let counts = c.sizes-sizes.ensures.counts in (
      omega (arith, counts.feeds, counts.outs, counts.directs),
      front-none n m k
          (record { base = c.in_ok-base.base; flow_base = c.in_ok-base.flow_base; weights = c.new.result.items; outflows = c.new-2.result.items; direct = c.new-3.result.items })
          c.new.ensures.items c.new-2.ensures.items c.new-3.ensures.items c.requires.ready.at c.in_ok-base.ensures.0 c.in_ok-base.ensures.1,
    )

pub next-requires-clause-going : goal.next-requires-clause-going
next-requires-clause-going g c =
    let n : Net = net_of c.args.net.now in
    let m : Moment = moment c.args.reader.now (g.S.Shelf.told c.args.shelf.now) in
    let k : Moment = moment c.loop.reader (g.S.Shelf.told c.loop.shelf) in
    front-going n m k (shown_plan c.loop.plan) c.loop.counter c.loop.invariant.1

pub next-requires-clause-used_up : goal.next-requires-clause-used_up
next-requires-clause-used_up g c = c.loop.invariant.1.used_up

pub returns-in_err-number : goal.returns-in_err-number
returns-in_err-number g c =
    let m : Moment = moment c.args.reader.now (g.S.Shelf.told c.args.shelf.now) in
    let k : Moment = moment c.loop.reader (g.S.Shelf.told c.loop.shelf) in
    let l : Moment = moment c.next.new.reader (g.S.Shelf.told c.next.new.shelf) in
    let p = err_from_is_err_and c.from_residual-in_err-number.result c.from_residual-in_err-number.ensures.1 in
    rw (p.1, p.2) (failed-halts Never m l c.in_err-number.field-0.0 (failed-then m k l _ c.in_err-number.field-0.0 c.loop.invariant.1.run c.in_err-number.ensures))

pub returns-in_err-put : goal.returns-in_err-put
returns-in_err-put g c =
    let m : Moment = moment c.args.reader.now (g.S.Shelf.told c.args.shelf.now) in
    let k : Moment = moment c.loop.reader (g.S.Shelf.told c.loop.shelf) in
    let l : Moment = moment c.next.new.reader (g.S.Shelf.told c.next.new.shelf) in
    let p = err_from_is_err_and c.from_residual-in_err-put.result c.from_residual-in_err-put.ensures.1 in
    rw (p.1, p.2) (memory-halts Never m l _ (run-then m k l _ _ c.loop.invariant.1.run c.in_ok-number.ensures.0))

pub loop-preserved : goal.loop-preserved
loop-preserved g c =
    let n : Net = net_of c.args.net.now in
    let m : Moment = moment c.args.reader.now (g.S.Shelf.told c.args.shelf.now) in
    let k : Moment = moment c.loop.reader (g.S.Shelf.told c.loop.shelf) in
    let l : Moment = moment c.next.new.reader (g.S.Shelf.told c.next.new.shelf) in
    let inv = c.loop.invariant in
    let lt : c.loop.counter < numbers_of n = omega (arith, inv.0, c.loop-test.true) in
    let came = c.in_ok-number.ensures in
    (inv.0, front-more n m k (shown_plan c.loop.plan) c.loop.counter inv.1 l (shown_plan c.put.new.plan) (shown_item c.in_ok-number.number) lt c.in_ok-put.ensures came.1 came.0 came.2)

pub returns : goal.returns
returns g c =
    let n : Net = net_of c.args.net.now in
    let m : Moment = moment c.args.reader.now (g.S.Shelf.told c.args.shelf.now) in
    let k : Moment = moment c.loop.reader (g.S.Shelf.told c.loop.shelf) in
    front-taken n m k c.loop.plan c.loop.counter c.loop.invariant.1 (omega (arith, c.loop.invariant.0, c.loop-test.false))
