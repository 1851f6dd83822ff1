-- One line more, in its place or not.
use Rattle.std.proofs.Common.{◌≡◌, ◌-◌, ◌+◌, ◌<◌, ◌≤◌, ℕ, sym, subst, ◌∙◌, arith}
use Rattle.std.proofs.lemmas.Result.{err_from_is_err_and}
use Rattle.row_model.specs.Trees.{nodes}
use Rattle.cert_items.specs.declared.items.State.{State}
use Rattle.cert_stream.specs.Items.{parts_left}
use Rattle.proof_lines.specs.Grammar.{head_item, behind_item}
use Rattle.proof_lines.specs.Lines.{IsLaterPlace}
use Rattle.proof_lines.specs.Runs.{Moment, moment, IsReady}
use Rattle.proof_lines.proofs.States.{head-left}
use Rattle.proof_lines.proofs.Placing.{AreGone, gone-none, gone-more, gone-wrong, gone-all}
use Rattle.proof_lines.proofs.Running.{failed-halts, failed-then, run-then}
use Rattle.proof_lines.proofs.line_judge.check_places.Goals as goal

pub loop-k-init : goal.loop-k-init
loop-k-init g c =
    let m : Moment = moment c.args.reader.now (g.S.Shelf.told c.args.shelf.now) in (
      omega arith,
      c.requires.order,
      λ kind at. record { at = at; used_up = c.requires.asks.1.used_up },
      λ kind list before at those long placed. gone-none list kind before m c.args.count c.args.first c.args.least record { at = at; used_up = c.requires.asks.1.used_up } long placed,
    )

pub returns-in_err-line : goal.returns-in_err-line
returns-in_err-line g c =
    let m : Moment = moment c.args.reader.now (g.S.Shelf.told c.args.shelf.now) in
    let j : Moment = moment c.loop-k.reader (g.S.Shelf.told c.loop-k.shelf) in
    let h : Moment = moment c.head.new.reader (g.S.Shelf.told c.head.new.shelf) in
    let count = c.args.count in
    let k = c.loop-k.k in
    let inv = c.loop-k.invariant in
    let lt : k < count = c.loop-k-test.true in
    let p = err_from_is_err_and c.from_residual.result c.from_residual.ensures.1 in
    rw (p.1, p.2) (λ kind list before at those long placed.
    failed-halts (IsLaterPlace list count before) m h c.in_err-line.field-0.0 (failed-then m j h _ c.in_err-line.field-0.0 (inv.3 kind list before at those long placed).run c.in_err-line.ensures))

pub returns-in_err-least : goal.returns-in_err-least
returns-in_err-least g c =
    let m : Moment = moment c.args.reader.now (g.S.Shelf.told c.args.shelf.now) in
    let j : Moment = moment c.loop-k.reader (g.S.Shelf.told c.loop-k.shelf) in
    let h : Moment = moment c.head.new.reader (g.S.Shelf.told c.head.new.shelf) in
    let count = c.args.count in
    let k = c.loop-k.k in
    let inv = c.loop-k.invariant in
    let lt : k < count = c.loop-k-test.true in
    let p = err_from_is_err_and c.from_residual-in_err-least.result c.from_residual-in_err-least.ensures.1 in
    rw (p.1, p.2, c.in_err-least.ensures.place) (λ kind list before at those long placed.
    let line = c.in_ok-line.line in
    let asks = (inv.2 kind at).at ∙ head-left kind count k lt in
    let headed : IsReady h (parts_left kind line.count (count - (k + 1))) = subst (λ (s : State). IsReady h (behind_item s (head_item line))) asks c.in_ok-line.ensures.1 in
    let wrong = λ (x : (c.loop-k.least ≤ line.node) × (line.node < nodes list)). c.in_err-least.ensures.wrong (x.0, subst (λ (i : ℕ). line.node < i) (sym those) x.1) in
    gone-wrong list kind before m j h count k c.loop-k.least line.node line.scale line.count (inv.3 kind list before at those long placed) lt c.in_ok-line.ensures.0 headed wrong)

pub returns-in_err-skip_parts : goal.returns-in_err-skip_parts
returns-in_err-skip_parts g c =
    let m : Moment = moment c.args.reader.now (g.S.Shelf.told c.args.shelf.now) in
    let j : Moment = moment c.loop-k.reader (g.S.Shelf.told c.loop-k.shelf) in
    let h : Moment = moment c.head.new.reader (g.S.Shelf.told c.head.new.shelf) in
    let count = c.args.count in
    let k = c.loop-k.k in
    let inv = c.loop-k.invariant in
    let lt : k < count = c.loop-k-test.true in
    let l : Moment = moment c.skip_parts.new.reader (g.S.Shelf.told c.skip_parts.new.shelf) in
    let p = err_from_is_err_and c.from_residual-in_err-skip_parts.result c.from_residual-in_err-skip_parts.ensures.1 in
    rw (p.1, p.2) (λ kind list before at those long placed.
    let line = c.in_ok-line.line in
    let asks = (inv.2 kind at).at ∙ head-left kind count k lt in
    let headed : IsReady h (parts_left kind line.count (count - (k + 1))) = subst (λ (s : State). IsReady h (behind_item s (head_item line))) asks c.in_ok-line.ensures.1 in
    failed-halts (IsLaterPlace list count before) m l c.in_err-skip_parts.field-0.0
    (failed-then m h l _ c.in_err-skip_parts.field-0.0 (run-then m j h _ _ (inv.3 kind list before at those long placed).run c.in_ok-line.ensures.0)
    (c.in_err-skip_parts.ensures kind (count - (k + 1)) headed.at)))

pub loop-k-preserved : goal.loop-k-preserved
loop-k-preserved g c =
    let m : Moment = moment c.args.reader.now (g.S.Shelf.told c.args.shelf.now) in
    let j : Moment = moment c.loop-k.reader (g.S.Shelf.told c.loop-k.shelf) in
    let h : Moment = moment c.head.new.reader (g.S.Shelf.told c.head.new.shelf) in
    let count = c.args.count in
    let k = c.loop-k.k in
    let inv = c.loop-k.invariant in
    let lt : k < count = c.loop-k-test.true in
    let l : Moment = moment c.skip_parts.new.reader (g.S.Shelf.told c.skip_parts.new.shelf) in (
      omega (arith, inv.0),
      omega (arith, lt),
      λ kind at.
          let line = c.in_ok-line.line in
          let asks = (inv.2 kind at).at ∙ head-left kind count k lt in
          let headed : IsReady h (parts_left kind line.count (count - (k + 1))) = subst (λ (s : State). IsReady h (behind_item s (head_item line))) asks c.in_ok-line.ensures.1 in
          (c.in_ok-skip_parts.ensures kind (count - (k + 1)) headed.at).ready,
      λ kind list before at those long placed.
          let line = c.in_ok-line.line in
          let asks = (inv.2 kind at).at ∙ head-left kind count k lt in
          let headed : IsReady h (parts_left kind line.count (count - (k + 1))) = subst (λ (s : State). IsReady h (behind_item s (head_item line))) asks c.in_ok-line.ensures.1 in
          let skipped = c.in_ok-skip_parts.ensures kind (count - (k + 1)) headed.at in
          let right = c.in_ok-least.ensures.placed in
          subst (λ (i : ℕ). AreGone list kind before m l count (k + 1) i) (sym c.in_ok-least.ensures.next)
          (gone-more list kind before m j h count k c.loop-k.least line.node line.scale line.count
          (inv.3 kind list before at those long placed) lt c.in_ok-line.ensures.0 l skipped.parts skipped.long skipped.run skipped.ready
          right.0 (subst (λ (i : ℕ). line.node < i) those right.1)),
    )

pub returns : goal.returns
returns g c =
    let m : Moment = moment c.args.reader.now (g.S.Shelf.told c.args.shelf.now) in
    let j : Moment = moment c.loop-k.reader (g.S.Shelf.told c.loop-k.shelf) in
    let inv = c.loop-k.invariant in
    let last : c.loop-k.k ≡ c.args.count = omega (arith, inv.1, c.loop-k-test.false) in
    λ kind list before at those long placed. gone-all list kind before m j c.args.count c.loop-k.least
    (subst (λ (i : ℕ). AreGone list kind before m j c.args.count i c.loop-k.least) last (inv.3 kind list before at those long placed))
