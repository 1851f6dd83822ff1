-- The lines, one after another, and the nodes behind the last.
use Rattle.std.proofs.Common.{◌≡◌, ◌≤◌, ℕ, List, [], length, sym, ap, subst, ◌∙◌, arith, rules, FitsSigned, to_z-of_z}
use mir.Syntax.{w128}
use Rattle.std.proofs.lemmas.Result.{err_from_is_err_and}
use Rattle.pool_model.specs.Network.{Net, net_of}
use Rattle.row_model.specs.Trees.{Split}
use Rattle.proof_lines.specs.declared.judge.Judge.{Judge}
use Rattle.proof_lines.specs.Judging.{AreJudged}
use Rattle.proof_lines.specs.Refusals.{node_at}
use Rattle.proof_lines.specs.Lines.{AreLinesTaken}
use Rattle.proof_lines.specs.Parts.{IsWrongLineList}
use Rattle.proof_lines.specs.Runs.{Moment, moment}
use Rattle.proof_lines.proofs.Judged.{lines-none, lines-all}
use Rattle.proof_lines.proofs.Running.{memory-halts, run-none}
use Rattle.proof_lines.proofs.line_judge.node_bounds.Goals as goal

pub loop-k-init : goal.loop-k-init
loop-k-init g c =
    let n : Net = net_of c.args.net.now in
    let m : Moment = moment c.args.reader.now (g.S.Shelf.told c.args.shelf.now) in
    let new = c.in_ok-judge.ensures in (
      ap length new.none,
      new.unread,
      new.room,
      new.fits,
      omega arith,
      omega arith,
      λ kind at. lines-none n c.args.tree.now.list kind m c.args.count c.in_ok-judge.judge.judge record { at = at; used_up = c.requires.asks.1.used_up } new.none new.unread new.fits,
    )

pub next_line-requires-clause-asks : goal.next_line-requires-clause-asks
next_line-requires-clause-asks g c =
    (c.requires.asks.0, (c.loop-k.invariant.6 c.requires.asks.0 c.requires.asks.1.at).ready)

pub returns-in_err-judge : goal.returns-in_err-judge
returns-in_err-judge g c =
    let n : Net = net_of c.args.net.now in
    let m : Moment = moment c.args.reader.now (g.S.Shelf.told c.args.shelf.now) in
    let p = err_from_is_err_and c.from_residual.result c.from_residual.ensures.1 in
    rw (p.1, p.2, c.in_err-judge.ensures.memory) (λ kind at. memory-halts (IsWrongLineList n c.args.tree.now.list c.args.count) m m [] (run-none m c.requires.asks.1.used_up))

pub returns-in_err-least : goal.returns-in_err-least
returns-in_err-least g c =
    let n : Net = net_of c.args.net.now in
    let m : Moment = moment c.args.reader.now (g.S.Shelf.told c.args.shelf.now) in
    let p = err_from_is_err_and c.from_residual-in_err-least.result c.from_residual-in_err-least.ensures.1 in
    rw (p.1, p.2) (λ kind at. c.in_err-least.ensures.taken kind m (c.loop-k.invariant.6 kind at))

pub loop-k-preserved : goal.loop-k-preserved
loop-k-preserved g c =
    let m : Moment = moment c.args.reader.now (g.S.Shelf.told c.args.shelf.now) in
    let is = c.in_ok-least.ensures in (
      is.bounds,
      is.next,
      is.room,
      is.fits,
      omega (arith, c.loop-k-test.true),
      is.known,
      λ kind at. is.taken kind m (c.loop-k.invariant.6 kind at),
    )

pub returns-in_err-go_on : goal.returns-in_err-go_on
returns-in_err-go_on g c =
    let n : Net = net_of c.args.net.now in
    let m : Moment = moment c.args.reader.now (g.S.Shelf.told c.args.shelf.now) in
    let q : Moment = moment c.loop-k.reader (g.S.Shelf.told c.loop-k.shelf) in
    let p = err_from_is_err_and c.from_residual-in_err-go_on.result c.from_residual-in_err-go_on.ensures.1 in
    rw (p.1, p.2) (λ kind at. memory-halts (IsWrongLineList n c.args.tree.now.list c.args.count) m q _ (c.loop-k.invariant.6 kind at).run)

pub returns : goal.returns
returns g c =
    let n : Net = net_of c.args.net.now in
    let m : Moment = moment c.args.reader.now (g.S.Shelf.told c.args.shelf.now) in
    let q : Moment = moment c.loop-k.reader (g.S.Shelf.told c.loop-k.shelf) in
    let list : List Split = c.args.tree.now.list in
    let count = c.args.count in
    let inv = c.loop-k.invariant in
    let before : Judge = c.loop-k.judge.judge in
    let f : FitsSigned w128 c.args.reach = search rules in
    let reach = to_z-of_z f ∙ c.requires.reach in
    let last : c.loop-k.k ≡ count = omega (arith, inv.4, c.loop-k-test.false) in
    let all_nodes = c.node_count.ensures in
    λ kind at.
    lines-all n list kind m q count c.loop-k.least before c.go_on.new.self (subst (λ (i : ℕ). AreLinesTaken n list kind m q count i c.loop-k.least before) last (inv.6 kind at))
    (λ all rising judged low. subst (λ (i : ℕ). AreJudged n list all i c.go_on.new.self) all_nodes (c.in_ok-go_on.ensures.judged n all c.requires.tree reach rising
    (subst (λ (i : ℕ). AreJudged n list all i before) (sym inv.0) judged) (λ lt. subst (λ (i : ℕ). i ≤ node_at all before.next) (sym all_nodes) (low lt))))
    (inv.1 ∙ last)
