-- The parts of a certificate, one after another.
use Rattle.std.proofs.Common.{Option, sym, subst}
use Rattle.std.proofs.lemmas.Result.{err_from_is_err_and}
use Rattle.pool_model.specs.Network.{Net, net_of}
use Rattle.plan_core.specs.declared.plan.Cost.{Cost}
use Rattle.cert_checker.specs.Parts.{IsWalked, opening_kind}
use Rattle.proof_lines.specs.Runs.{Moment, moment, IsReady}
use Rattle.cert_checker.proofs.Walking.{open-to, plan-refused-front, split-halts, cut-to, proof-halts, proved-to, claim-halts, end-halts, walked}
use Rattle.cert_checker.proofs.walk.walk.Goals as goal

pub returns-in_err-kind-clause-walked : goal.returns-in_err-kind-clause-walked
returns-in_err-kind-clause-walked g c =
    let r = err_from_is_err_and c.from_residual.result c.from_residual.ensures.1 in
    rw (r.1, r.2) c.in_err-kind.ensures.begun

pub read_opening-requires : goal.read_opening-requires
read_opening-requires g c =
    let h : Moment = moment c.begin.new.reader (g.S.Shelf.told c.begin.new.shelf) in
    let begun = c.in_ok-kind.ensures.begun in
    record { ready = subst (IsReady h) begun.is.next_is begun.ready }

pub returns-in_err-opening-clause-walked : goal.returns-in_err-opening-clause-walked
returns-in_err-opening-clause-walked g c =
    let n : Net = net_of c.args.net.now in
    let m : Moment = moment c.args.reader.now (g.S.Shelf.told c.args.shelf.now) in
    let h : Moment = moment c.begin.new.reader (g.S.Shelf.told c.begin.new.shelf) in
    let j : Moment = moment c.read_opening.new.reader (g.S.Shelf.told c.read_opening.new.shelf) in
    let r = err_from_is_err_and c.from_residual-in_err-opening.result c.from_residual-in_err-opening.ensures.1 in
    rw (r.1, r.2) (plan-refused-front n m h j c.in_ok-kind.kind c.in_err-opening.field-0.0 c.in_ok-kind.ensures.begun c.in_err-opening.ensures)

pub tree-requires : goal.tree-requires
tree-requires g c =
    let n : Net = net_of c.args.net.now in
    let m : Moment = moment c.args.reader.now (g.S.Shelf.told c.args.shelf.now) in
    let h : Moment = moment c.begin.new.reader (g.S.Shelf.told c.begin.new.shelf) in
    let j : Moment = moment c.read_opening.new.reader (g.S.Shelf.told c.read_opening.new.shelf) in
    let opening = c.in_ok-opening.opening in
    let opened = open-to n m h j c.in_ok-kind.kind opening c.in_ok-kind.ensures.begun c.in_ok-opening.ensures in
    record { asks = (opening_kind opening, opened.ready) }

pub returns-in_err-tree-clause-walked : goal.returns-in_err-tree-clause-walked
returns-in_err-tree-clause-walked g c =
    let n : Net = net_of c.args.net.now in
    let m : Moment = moment c.args.reader.now (g.S.Shelf.told c.args.shelf.now) in
    let h : Moment = moment c.begin.new.reader (g.S.Shelf.told c.begin.new.shelf) in
    let j : Moment = moment c.read_opening.new.reader (g.S.Shelf.told c.read_opening.new.shelf) in
    let l : Moment = moment c.tree.new.reader (g.S.Shelf.told c.tree.new.shelf) in
    let opening = c.in_ok-opening.opening in
    let opened = open-to n m h j c.in_ok-kind.kind opening c.in_ok-kind.ensures.begun c.in_ok-opening.ensures in
    let r = err_from_is_err_and c.from_residual-in_err-tree.result c.from_residual-in_err-tree.ensures.1 in
    rw (r.1, r.2) (split-halts n m j opening opened l c.in_err-tree.field-0.0 (c.in_err-tree.ensures (opening_kind opening) opened.ready.at))

pub tree_bound-requires-clause-tree : goal.tree_bound-requires-clause-tree
tree_bound-requires-clause-tree g c =
    let n : Net = net_of c.args.net.now in
    let m : Moment = moment c.args.reader.now (g.S.Shelf.told c.args.shelf.now) in
    let h : Moment = moment c.begin.new.reader (g.S.Shelf.told c.begin.new.shelf) in
    let j : Moment = moment c.read_opening.new.reader (g.S.Shelf.told c.read_opening.new.shelf) in
    let l : Moment = moment c.tree.new.reader (g.S.Shelf.told c.tree.new.shelf) in
    let opening = c.in_ok-opening.opening in
    let opened = open-to n m h j c.in_ok-kind.kind opening c.in_ok-kind.ensures.begun c.in_ok-opening.ensures in
    let tree = c.in_ok-tree.tree in
    let grown = cut-to n m j l opening tree opened (c.in_ok-tree.ensures (opening_kind opening) opened.ready.at) in
    grown.is

pub tree_bound-requires-clause-asks : goal.tree_bound-requires-clause-asks
tree_bound-requires-clause-asks g c =
    let n : Net = net_of c.args.net.now in
    let m : Moment = moment c.args.reader.now (g.S.Shelf.told c.args.shelf.now) in
    let h : Moment = moment c.begin.new.reader (g.S.Shelf.told c.begin.new.shelf) in
    let j : Moment = moment c.read_opening.new.reader (g.S.Shelf.told c.read_opening.new.shelf) in
    let l : Moment = moment c.tree.new.reader (g.S.Shelf.told c.tree.new.shelf) in
    let opening = c.in_ok-opening.opening in
    let opened = open-to n m h j c.in_ok-kind.kind opening c.in_ok-kind.ensures.begun c.in_ok-opening.ensures in
    let tree = c.in_ok-tree.tree in
    let grown = cut-to n m j l opening tree opened (c.in_ok-tree.ensures (opening_kind opening) opened.ready.at) in
    (opening_kind opening, grown.ready)

pub returns-in_err-bound-clause-walked : goal.returns-in_err-bound-clause-walked
returns-in_err-bound-clause-walked g c =
    let n : Net = net_of c.args.net.now in
    let m : Moment = moment c.args.reader.now (g.S.Shelf.told c.args.shelf.now) in
    let h : Moment = moment c.begin.new.reader (g.S.Shelf.told c.begin.new.shelf) in
    let j : Moment = moment c.read_opening.new.reader (g.S.Shelf.told c.read_opening.new.shelf) in
    let l : Moment = moment c.tree.new.reader (g.S.Shelf.told c.tree.new.shelf) in
    let q : Moment = moment c.tree_bound.new.reader (g.S.Shelf.told c.tree_bound.new.shelf) in
    let opening = c.in_ok-opening.opening in
    let opened = open-to n m h j c.in_ok-kind.kind opening c.in_ok-kind.ensures.begun c.in_ok-opening.ensures in
    let tree = c.in_ok-tree.tree in
    let grown = cut-to n m j l opening tree opened (c.in_ok-tree.ensures (opening_kind opening) opened.ready.at) in
    let r = err_from_is_err_and c.from_residual-in_err-bound.result c.from_residual-in_err-bound.ensures.1 in
    rw (r.1, r.2) (proof-halts n m l opening tree grown q c.in_err-bound.field-0.0 (c.in_err-bound.ensures.bound (opening_kind opening) grown.ready.at))

pub claim-requires : goal.claim-requires
claim-requires g c =
    let n : Net = net_of c.args.net.now in
    let m : Moment = moment c.args.reader.now (g.S.Shelf.told c.args.shelf.now) in
    let h : Moment = moment c.begin.new.reader (g.S.Shelf.told c.begin.new.shelf) in
    let j : Moment = moment c.read_opening.new.reader (g.S.Shelf.told c.read_opening.new.shelf) in
    let l : Moment = moment c.tree.new.reader (g.S.Shelf.told c.tree.new.shelf) in
    let q : Moment = moment c.tree_bound.new.reader (g.S.Shelf.told c.tree_bound.new.shelf) in
    let opening = c.in_ok-opening.opening in
    let opened = open-to n m h j c.in_ok-kind.kind opening c.in_ok-kind.ensures.begun c.in_ok-opening.ensures in
    let tree = c.in_ok-tree.tree in
    let grown = cut-to n m j l opening tree opened (c.in_ok-tree.ensures (opening_kind opening) opened.ready.at) in
    let bound = c.in_ok-bound.bound in
    let proved = proved-to n m l q opening tree bound grown (c.in_ok-bound.ensures.bound (opening_kind opening) grown.ready.at) in
    record { ready = proved.ready }

pub returns-in_err-claim-clause-walked : goal.returns-in_err-claim-clause-walked
returns-in_err-claim-clause-walked g c =
    let n : Net = net_of c.args.net.now in
    let m : Moment = moment c.args.reader.now (g.S.Shelf.told c.args.shelf.now) in
    let h : Moment = moment c.begin.new.reader (g.S.Shelf.told c.begin.new.shelf) in
    let j : Moment = moment c.read_opening.new.reader (g.S.Shelf.told c.read_opening.new.shelf) in
    let l : Moment = moment c.tree.new.reader (g.S.Shelf.told c.tree.new.shelf) in
    let q : Moment = moment c.tree_bound.new.reader (g.S.Shelf.told c.tree_bound.new.shelf) in
    let p : Moment = moment c.claim.new.reader (g.S.Shelf.told c.claim.new.shelf) in
    let opening = c.in_ok-opening.opening in
    let opened = open-to n m h j c.in_ok-kind.kind opening c.in_ok-kind.ensures.begun c.in_ok-opening.ensures in
    let tree = c.in_ok-tree.tree in
    let grown = cut-to n m j l opening tree opened (c.in_ok-tree.ensures (opening_kind opening) opened.ready.at) in
    let bound = c.in_ok-bound.bound in
    let proved = proved-to n m l q opening tree bound grown (c.in_ok-bound.ensures.bound (opening_kind opening) grown.ready.at) in
    let r = err_from_is_err_and c.from_residual-in_err-claim.result c.from_residual-in_err-claim.ensures.1 in
    rw (r.1, r.2) (claim-halts n m q opening tree bound proved p c.in_err-claim.field-0.0 c.in_err-claim.ensures)

pub end-requires-clause-asks : goal.end-requires-clause-asks
end-requires-clause-asks g c = c.in_ok-claim.ensures.ready.at

pub end-requires-clause-used_up : goal.end-requires-clause-used_up
end-requires-clause-used_up g c = c.in_ok-claim.ensures.ready.used_up

pub returns-in_err-end-clause-walked : goal.returns-in_err-end-clause-walked
returns-in_err-end-clause-walked g c =
    let n : Net = net_of c.args.net.now in
    let m : Moment = moment c.args.reader.now (g.S.Shelf.told c.args.shelf.now) in
    let h : Moment = moment c.begin.new.reader (g.S.Shelf.told c.begin.new.shelf) in
    let j : Moment = moment c.read_opening.new.reader (g.S.Shelf.told c.read_opening.new.shelf) in
    let l : Moment = moment c.tree.new.reader (g.S.Shelf.told c.tree.new.shelf) in
    let q : Moment = moment c.tree_bound.new.reader (g.S.Shelf.told c.tree_bound.new.shelf) in
    let p : Moment = moment c.claim.new.reader (g.S.Shelf.told c.claim.new.shelf) in
    let e : Moment = moment c.end.new.reader (g.S.Shelf.told c.end.new.shelf) in
    let opening = c.in_ok-opening.opening in
    let opened = open-to n m h j c.in_ok-kind.kind opening c.in_ok-kind.ensures.begun c.in_ok-opening.ensures in
    let tree = c.in_ok-tree.tree in
    let grown = cut-to n m j l opening tree opened (c.in_ok-tree.ensures (opening_kind opening) opened.ready.at) in
    let bound = c.in_ok-bound.bound in
    let proved = proved-to n m l q opening tree bound grown (c.in_ok-bound.ensures.bound (opening_kind opening) grown.ready.at) in
    let r = err_from_is_err_and c.from_residual-in_err-end.result c.from_residual-in_err-end.ensures.1 in
    rw (r.1, r.2) (end-halts n m q opening tree bound proved p c.in_ok-claim.claim c.in_ok-claim.ensures e c.in_err-end.field-0.0 c.in_err-end.ensures)

pub returns-clause-walked : goal.returns-clause-walked
returns-clause-walked g c =
    let n : Net = net_of c.args.net.now in
    let m : Moment = moment c.args.reader.now (g.S.Shelf.told c.args.shelf.now) in
    let h : Moment = moment c.begin.new.reader (g.S.Shelf.told c.begin.new.shelf) in
    let j : Moment = moment c.read_opening.new.reader (g.S.Shelf.told c.read_opening.new.shelf) in
    let l : Moment = moment c.tree.new.reader (g.S.Shelf.told c.tree.new.shelf) in
    let q : Moment = moment c.tree_bound.new.reader (g.S.Shelf.told c.tree_bound.new.shelf) in
    let p : Moment = moment c.claim.new.reader (g.S.Shelf.told c.claim.new.shelf) in
    let e : Moment = moment c.end.new.reader (g.S.Shelf.told c.end.new.shelf) in
    let opening = c.in_ok-opening.opening in
    let opened = open-to n m h j c.in_ok-kind.kind opening c.in_ok-kind.ensures.begun c.in_ok-opening.ensures in
    let tree = c.in_ok-tree.tree in
    let grown = cut-to n m j l opening tree opened (c.in_ok-tree.ensures (opening_kind opening) opened.ready.at) in
    let bound = c.in_ok-bound.bound in
    let proved = proved-to n m l q opening tree bound grown (c.in_ok-bound.ensures.bound (opening_kind opening) grown.ready.at) in
    subst (λ (x : Option Cost). IsWalked n m e record { claim = c.in_ok-claim.claim; cost = x; bound = bound }) (sym c.cost-cost.ensures)
    (walked n m q opening tree bound proved p c.in_ok-claim.claim c.in_ok-claim.ensures e c.in_ok-end.ensures.0 c.in_ok-end.ensures.1 c.in_ok-end.ensures.2)
