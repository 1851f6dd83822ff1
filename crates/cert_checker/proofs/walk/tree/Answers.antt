-- The splits, read and taken one after another.
use Rattle.std.proofs.Common.{◌-◌, ◌+◌, ap, subst, arith}
use Rattle.std.proofs.lemmas.Result.{err_from_is_err_and}
use Rattle.pool_model.specs.Network.{Net, net_of}
use Rattle.box_space.specs.Views.{shown_split}
use Rattle.split_tree.specs.Splits.{Splits}
use Rattle.cert_format.specs.declared.reading.Kind.{Kind}
use Rattle.cert_items.specs.declared.items.State.{State}
use Rattle.cert_stream.specs.Items.{cut, cuts_left}
use Rattle.proof_lines.specs.Grammar.{behind_item}
use Rattle.cert_checker.specs.Parts.{IsWrongSplitList}
use Rattle.proof_lines.specs.Runs.{Moment, moment, IsReady}
use Rattle.cert_checker.proofs.Cutting.{cut-asks, cut-more, cut-wrong, cut-all}
use Rattle.proof_lines.proofs.Running.{failed-halts, failed-then, memory-halts, run-then}
use Rattle.cert_checker.proofs.walk.tree.Goals as goal

pub cut-requires-clause-asks : goal.cut-requires-clause-asks
cut-requires-clause-asks g c =
    let m : Moment = moment c.args.reader.now (g.S.Shelf.told c.args.shelf.now) in
    let j : Moment = moment c.loop-t.reader (g.S.Shelf.told c.loop-t.shelf) in
    let kind : Kind = c.requires.asks.0 in
    let at = c.requires.asks.1.at in
    (kind, c.in_ok-count.count - (c.loop-t.t + 1), cut-asks (net_of c.args.net.now) kind m j c.in_ok-count.count c.loop-t.t c.loop-t.tree (c.loop-t.invariant kind at) c.loop-t-test.true)

pub judge-requires : goal.judge-requires
judge-requires g c = (c.loop-t.invariant c.requires.asks.0 c.requires.asks.1.at).is

pub returns-in_err-split : goal.returns-in_err-split
returns-in_err-split g c =
    let m : Moment = moment c.args.reader.now (g.S.Shelf.told c.args.shelf.now) in
    let j : Moment = moment c.loop-t.reader (g.S.Shelf.told c.loop-t.shelf) in
    let l : Moment = moment c.cut.new.reader (g.S.Shelf.told c.cut.new.shelf) in
    let n : Net = net_of c.args.net.now in
    let count = c.in_ok-count.count in
    let p = err_from_is_err_and c.from_residual-in_err-split.result c.from_residual-in_err-split.ensures.1 in
    rw (p.1, p.2) (λ kind at. failed-halts (IsWrongSplitList n) m l c.in_err-split.field-0.0 (failed-then m j l _ c.in_err-split.field-0.0 (c.loop-t.invariant kind at).run c.in_err-split.ensures))

pub returns-in_err-push-in-Ok : goal.returns-in_err-push-in-Ok
returns-in_err-push-in-Ok g c =
    let m : Moment = moment c.args.reader.now (g.S.Shelf.told c.args.shelf.now) in
    let j : Moment = moment c.loop-t.reader (g.S.Shelf.told c.loop-t.shelf) in
    let l : Moment = moment c.cut.new.reader (g.S.Shelf.told c.cut.new.shelf) in
    let n : Net = net_of c.args.net.now in
    let count = c.in_ok-count.count in
    let p = err_from_is_err_and c.from_residual-in_err-push-in-Ok.result c.from_residual-in_err-push-in-Ok.ensures.1 in
    rw (p.1, p.2) (λ kind at. memory-halts (IsWrongSplitList n) m l _ (run-then m j l _ _ (c.loop-t.invariant kind at).run c.in_ok-split.ensures.0))

pub returns-in-Err : goal.returns-in-Err
returns-in-Err g c =
    let m : Moment = moment c.args.reader.now (g.S.Shelf.told c.args.shelf.now) in
    let j : Moment = moment c.loop-t.reader (g.S.Shelf.told c.loop-t.shelf) in
    let l : Moment = moment c.cut.new.reader (g.S.Shelf.told c.cut.new.shelf) in
    let n : Net = net_of c.args.net.now in
    let count = c.in_ok-count.count in
    λ kind at.
    let are = c.loop-t.invariant kind at in
    let asks = cut-asks n kind m j count c.loop-t.t c.loop-t.tree are c.loop-t-test.true in
    let ready : IsReady l (cuts_left kind (count - (c.loop-t.t + 1))) = subst (λ (s : State). IsReady l (behind_item s (cut (shown_split c.in_ok-split.split)))) asks c.in_ok-split.ensures.1 in
    cut-wrong n kind m j l count c.loop-t.t c.loop-t.tree (shown_split c.in_ok-split.split) c.in-Err.field-0 are c.loop-t-test.true c.in_ok-split.ensures.0 ready c.in-Err.ensures.fault.holds

pub loop-t-preserved : goal.loop-t-preserved
loop-t-preserved g c =
    let m : Moment = moment c.args.reader.now (g.S.Shelf.told c.args.shelf.now) in
    let j : Moment = moment c.loop-t.reader (g.S.Shelf.told c.loop-t.shelf) in
    let l : Moment = moment c.cut.new.reader (g.S.Shelf.told c.cut.new.shelf) in
    let n : Net = net_of c.args.net.now in
    let count = c.in_ok-count.count in
    λ kind at.
    let are = c.loop-t.invariant kind at in
    let asks = cut-asks n kind m j count c.loop-t.t c.loop-t.tree are c.loop-t-test.true in
    let ready : IsReady l (cuts_left kind (count - (c.loop-t.t + 1))) = subst (λ (s : State). IsReady l (behind_item s (cut (shown_split c.in_ok-split.split)))) asks c.in_ok-split.ensures.1 in
    cut-more n kind m j l count c.loop-t.t c.loop-t.tree c.push.new.self (shown_split c.in_ok-split.split) are c.loop-t-test.true c.in_ok-split.ensures.0 ready
    (ap (λ (v : Splits). v.list) c.in_ok-push-in-Ok.ensures.pushed) (c.in_ok-push-in-Ok.ensures.tree n are.is c.in-Ok.ensures.cuts c.in-Ok.ensures.span)

pub returns : goal.returns
returns g c =
    let m : Moment = moment c.args.reader.now (g.S.Shelf.told c.args.shelf.now) in
    let j : Moment = moment c.loop-t.reader (g.S.Shelf.told c.loop-t.shelf) in
    λ kind at. cut-all (net_of c.args.net.now) kind m j c.in_ok-count.count c.loop-t.t c.loop-t.tree (c.loop-t.invariant kind at) (λ lt. omega (arith, lt, c.loop-t-test.false))
