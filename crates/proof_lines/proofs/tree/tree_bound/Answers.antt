-- The proofs of a tree, and its bound.
use Rattle.pool_model.specs.Starting.{least_below}
use Rattle.row_model.specs.Trees.{is_cut}
use Rattle.std.proofs.Common.{◌≡◌, ◌<◌, ◌^◌, List, length, get_or, Option, None, if◌then◌else◌, ℤ, sym, subst}
use Rattle.std.proofs.lemmas.Result.{err_from_is_err_and}
use Rattle.pool_model.specs.Network.{Net, net_of}
use Rattle.cert_format.specs.declared.reading.Kind.{Kind}
use Rattle.cert_items.specs.declared.items.State.{State}
use Rattle.cert_stream.specs.Items.{proofs, proofs_left}
use Rattle.proof_lines.specs.Grammar.{behind_item}
use Rattle.proof_lines.specs.Parts.{AreWrongProofs}
use Rattle.proof_lines.specs.Runs.{Moment, moment, IsReady}
use Rattle.proof_lines.proofs.Running.{failed-halts}
use Rattle.proof_lines.proofs.Bounding.{few-bounds, proofs-of, lines-halt}
use Rattle.proof_lines.proofs.tree.tree_bound.Goals as goal

pub returns-in_err-count-clause-bound : goal.returns-in_err-count-clause-bound
returns-in_err-count-clause-bound g c =
    let n : Net = net_of c.args.net.now in
    let m : Moment = moment c.args.reader.now (g.S.Shelf.told c.args.shelf.now) in
    let h : Moment = moment c.proofs.new.reader (g.S.Shelf.told c.proofs.new.shelf) in
    let p = err_from_is_err_and c.from_residual.result c.from_residual.ensures.1 in
    rw (p.1, p.2) (λ kind at. failed-halts (AreWrongProofs n c.args.tree.now.list) m h c.in_err-count.field-0.0 c.in_err-count.ensures)

pub node_bounds-requires-clause-asks : goal.node_bounds-requires-clause-asks
node_bounds-requires-clause-asks g c =
    let h : Moment = moment c.proofs.new.reader (g.S.Shelf.told c.proofs.new.shelf) in
    let kind : Kind = c.requires.asks.0 in
    (kind, subst (λ (s : State). IsReady h (behind_item s (proofs c.in_ok-count.count))) c.requires.asks.1.at c.in_ok-count.ensures.1)

pub returns-in_err-bounds-clause-bound : goal.returns-in_err-bounds-clause-bound
returns-in_err-bounds-clause-bound g c =
    let n : Net = net_of c.args.net.now in
    let m : Moment = moment c.args.reader.now (g.S.Shelf.told c.args.shelf.now) in
    let h : Moment = moment c.proofs.new.reader (g.S.Shelf.told c.proofs.new.shelf) in
    let q : Moment = moment c.node_bounds.new.reader (g.S.Shelf.told c.node_bounds.new.shelf) in
    let p = err_from_is_err_and c.from_residual-in_err-bounds.result c.from_residual-in_err-bounds.ensures.1 in
    rw (p.1, p.2) (λ kind at.
    let ready : IsReady h (proofs_left kind c.in_ok-count.count) = subst (λ (s : State). IsReady h (behind_item s (proofs c.in_ok-count.count))) at c.in_ok-count.ensures.1 in
    lines-halt n c.args.tree.now.list m h q c.in_ok-count.count c.in_err-bounds.field-0.0 c.in_ok-count.ensures.0 (c.in_err-bounds.ensures kind ready.at))

pub least_bound-requires : goal.least_bound-requires
least_bound-requires g c =
    let n : Net = net_of c.args.net.now in
    let h : Moment = moment c.proofs.new.reader (g.S.Shelf.told c.proofs.new.shelf) in
    let q : Moment = moment c.node_bounds.new.reader (g.S.Shelf.told c.node_bounds.new.shelf) in
    let kind : Kind = c.requires.asks.0 in
    let ready : IsReady h (proofs_left kind c.in_ok-count.count) = subst (λ (s : State). IsReady h (behind_item s (proofs c.in_ok-count.count))) c.requires.asks.1.at c.in_ok-count.ensures.1 in
    subst (λ (b : List (Option ℤ)). length b < 2 ^ 32) (sym c.as_slice.ensures.value)
    (few-bounds n c.args.tree.now kind h q c.in_ok-count.count c.in_ok-bounds.bounds c.requires.tree (c.in_ok-bounds.ensures kind ready.at))

pub returns-clause-bound : goal.returns-clause-bound
returns-clause-bound g c =
    let n : Net = net_of c.args.net.now in
    let m : Moment = moment c.args.reader.now (g.S.Shelf.told c.args.shelf.now) in
    let h : Moment = moment c.proofs.new.reader (g.S.Shelf.told c.proofs.new.shelf) in
    let q : Moment = moment c.node_bounds.new.reader (g.S.Shelf.told c.node_bounds.new.shelf) in
    λ kind at.
    let ready : IsReady h (proofs_left kind c.in_ok-count.count) = subst (λ (s : State). IsReady h (behind_item s (proofs c.in_ok-count.count))) at c.in_ok-count.ensures.1 in
    proofs-of n c.args.tree.now kind m h q c.in_ok-count.count c.in_ok-bounds.bounds c.least_bound.result c.requires.tree c.in_ok-count.ensures.0 (c.in_ok-bounds.ensures kind ready.at)
    (subst (λ (b : List (Option ℤ)). c.least_bound.result ≡ least_below (λ node. if is_cut c.args.tree.now.list node then None else get_or b node None) (length b))
    c.as_slice.ensures.value c.least_bound.ensures)
