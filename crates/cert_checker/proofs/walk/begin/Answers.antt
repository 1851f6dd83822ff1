-- The kind, and the network's counts.
use Rattle.std.proofs.Common.{◌≡◌, ◌≢◌, sym, subst, ◌∙◌, rules}
use Rattle.std.proofs.lemmas.Result.{err_from_is_err_and}
use Rattle.pool_model.specs.Network.{Net, net_of}
use Rattle.cert_items.specs.declared.items.State.{State}
use Rattle.cert_items.specs.declared.items.State.TheVariants as states
use Rattle.cert_stream.specs.Items.{kind, shape, shaped_state}
use Rattle.proof_lines.specs.Grammar.{behind_item}
use Rattle.cert_checker.specs.Parts.{IsRefusedFront}
use Rattle.proof_lines.specs.Runs.{Moment, moment, IsReady}
use Rattle.proof_lines.proofs.Running.{failed-halts, failed-then, run-then}
use Rattle.cert_checker.proofs.Walking.{shape-halts, begun}
use Rattle.cert_checker.proofs.walk.begin.Goals as goal

pub returns-in_err-kind-clause-begun : goal.returns-in_err-kind-clause-begun
returns-in_err-kind-clause-begun g c =
    let n : Net = net_of c.args.net.now in
    let m : Moment = moment c.args.reader.now (g.S.Shelf.told c.args.shelf.now) in
    let h : Moment = moment c.kind.new.reader (g.S.Shelf.told c.kind.new.shelf) in
    let p = err_from_is_err_and c.from_residual.result c.from_residual.ensures.1 in
    rw (p.1, p.2) (failed-halts (IsRefusedFront n) m h c.in_err-kind.field-0.0 c.in_err-kind.ensures)

pub shape-requires-clause-asks : goal.shape-requires-clause-asks
shape-requires-clause-asks g c =
    let h : Moment = moment c.kind.new.reader (g.S.Shelf.told c.kind.new.shelf) in
    let k = c.in_ok-kind.kind in
    let headed : IsReady h (states.Shape k) = subst (λ (s : State). IsReady h (behind_item s (kind k))) c.requires.ready.at c.in_ok-kind.ensures.1 in
    (k, headed.at)

pub returns-in_err-shape-clause-begun : goal.returns-in_err-shape-clause-begun
returns-in_err-shape-clause-begun g c =
    let n : Net = net_of c.args.net.now in
    let m : Moment = moment c.args.reader.now (g.S.Shelf.told c.args.shelf.now) in
    let h : Moment = moment c.kind.new.reader (g.S.Shelf.told c.kind.new.shelf) in
    let j : Moment = moment c.shape.new.reader (g.S.Shelf.told c.shape.new.shelf) in
    let p = err_from_is_err_and c.from_residual-in_err-shape.result c.from_residual-in_err-shape.ensures.1 in
    rw (p.1, p.2) (failed-halts (IsRefusedFront n) m j c.in_err-shape.field-0.0 (failed-then m h j _ c.in_err-shape.field-0.0 c.in_ok-kind.ensures.0 c.in_err-shape.ensures))

pub returns-then-ne-clause-begun : goal.returns-then-ne-clause-begun
returns-then-ne-clause-begun g c =
    let n : Net = net_of c.args.net.now in
    let m : Moment = moment c.args.reader.now (g.S.Shelf.told c.args.shelf.now) in
    let h : Moment = moment c.kind.new.reader (g.S.Shelf.told c.kind.new.shelf) in
    let j : Moment = moment c.shape.new.reader (g.S.Shelf.told c.shape.new.shelf) in
    let k = c.in_ok-kind.kind in
    let headed : IsReady h (states.Shape k) = subst (λ (s : State). IsReady h (behind_item s (kind k))) c.requires.ready.at c.in_ok-kind.ensures.1 in
    let counts = c.in_ok-shape.shape in
    let run = run-then m h j _ _ c.in_ok-kind.ensures.0 c.in_ok-shape.ensures.0 in
    let ready : IsReady j (shaped_state k counts) = subst (λ (s : State). IsReady j (behind_item s (shape counts))) headed.at c.in_ok-shape.ensures.1 in
    let other : c.in_ok-shape.shape ≢ c.counts.result = search rules in
    shape-halts n m j k counts run ready (λ same. other (same ∙ sym c.counts.ensures.counts))

pub returns-clause-begun : goal.returns-clause-begun
returns-clause-begun g c =
    let n : Net = net_of c.args.net.now in
    let m : Moment = moment c.args.reader.now (g.S.Shelf.told c.args.shelf.now) in
    let h : Moment = moment c.kind.new.reader (g.S.Shelf.told c.kind.new.shelf) in
    let j : Moment = moment c.shape.new.reader (g.S.Shelf.told c.shape.new.shelf) in
    let k = c.in_ok-kind.kind in
    let headed : IsReady h (states.Shape k) = subst (λ (s : State). IsReady h (behind_item s (kind k))) c.requires.ready.at c.in_ok-kind.ensures.1 in
    let counts = c.in_ok-shape.shape in
    let run = run-then m h j _ _ c.in_ok-kind.ensures.0 c.in_ok-shape.ensures.0 in
    let ready : IsReady j (shaped_state k counts) = subst (λ (s : State). IsReady j (behind_item s (shape counts))) headed.at c.in_ok-shape.ensures.1 in
    let same : c.in_ok-shape.shape ≡ c.counts.result = search rules in
    begun n m j k counts run ready (same ∙ c.counts.ensures.counts)
