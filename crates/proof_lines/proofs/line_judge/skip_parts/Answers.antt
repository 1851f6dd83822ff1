-- One part more.
use Rattle.std.proofs.Common.{◌≡◌, ◌-◌, ◌+◌, ◌<◌, ℕ, ap, subst, ◌∙◌, arith}
use Rattle.std.proofs.lemmas.Result.{err_from_is_err_and}
use Rattle.box_space.specs.Views.{shown_part}
use Rattle.cert_items.specs.declared.items.State.{State}
use Rattle.cert_stream.specs.Items.{parts_left}
use Rattle.proof_lines.specs.Grammar.{part_item, behind_item}
use Rattle.proof_lines.specs.Runs.{Moment, moment, IsReady}
use Rattle.proof_lines.proofs.States.{part-left}
use Rattle.proof_lines.proofs.Placing.{skipped-none, skipped-more}
use Rattle.proof_lines.proofs.Running.{failed-then}
use Rattle.proof_lines.proofs.line_judge.skip_parts.Goals as goal

pub loop-init : goal.loop-init
loop-init g c =
    let m : Moment = moment c.args.reader.now (g.S.Shelf.told c.args.shelf.now) in
    let count = c.args.count in
    let more : count ≡ count - 0 = omega arith in (
      omega arith,
      λ kind behind at. skipped-none m (parts_left kind count behind) (parts_left kind (count - 0) behind) (ap (λ (i : ℕ). parts_left kind i behind) more)
          record { at = at; used_up = c.requires.asks.2.used_up },
    )

pub part-requires-clause-asks : goal.part-requires-clause-asks
part-requires-clause-asks g c =
    let kind = c.requires.asks.0 in
    let behind = c.requires.asks.1 in
    let are = c.loop.invariant.1 kind behind c.requires.asks.2.at in
    (kind, c.args.count - (c.loop.counter + 1), behind, are.ready.at ∙ part-left kind c.args.count c.loop.counter behind c.loop-test.true)

pub part-requires-clause-used_up : goal.part-requires-clause-used_up
part-requires-clause-used_up g c = (c.loop.invariant.1 c.requires.asks.0 c.requires.asks.1 c.requires.asks.2.at).ready.used_up

pub returns-in_err-part : goal.returns-in_err-part
returns-in_err-part g c =
    let m : Moment = moment c.args.reader.now (g.S.Shelf.told c.args.shelf.now) in
    let j : Moment = moment c.loop.reader (g.S.Shelf.told c.loop.shelf) in
    let l : Moment = moment c.part.new.reader (g.S.Shelf.told c.part.new.shelf) in
    let p = err_from_is_err_and c.from_residual.result c.from_residual.ensures.1 in
    rw (p.1, p.2) (λ kind behind at. failed-then m j l _ c.in_err-part.field-0.0 (c.loop.invariant.1 kind behind at).run c.in_err-part.ensures)

pub loop-preserved : goal.loop-preserved
loop-preserved g c =
    let m : Moment = moment c.args.reader.now (g.S.Shelf.told c.args.shelf.now) in
    let j : Moment = moment c.loop.reader (g.S.Shelf.told c.loop.shelf) in
    let l : Moment = moment c.part.new.reader (g.S.Shelf.told c.part.new.shelf) in
    let count = c.args.count in
    let i = c.loop.counter in
    let lt : i < count = c.loop-test.true in (
      omega (arith, lt),
      λ kind behind at.
          let are = c.loop.invariant.1 kind behind at in
          let asks = are.ready.at ∙ part-left kind count i behind lt in
          let ready : IsReady l (parts_left kind (count - (i + 1)) behind) = subst (λ (s : State). IsReady l (behind_item s (part_item c.in_ok-part.field-0))) asks c.in_ok-part.ensures.1 in
          skipped-more m j l i (parts_left kind (count - i) behind) (parts_left kind (count - (i + 1)) behind) (shown_part c.in_ok-part.field-0) are c.in_ok-part.ensures.0 ready,
    )

pub returns : goal.returns
returns g c =
    let m : Moment = moment c.args.reader.now (g.S.Shelf.told c.args.shelf.now) in
    let j : Moment = moment c.loop.reader (g.S.Shelf.told c.loop.shelf) in
    let count = c.args.count in
    let last : c.loop.counter ≡ count = omega (arith, c.loop.invariant.0, c.loop-test.false) in
    let none : count - c.loop.counter ≡ 0 = omega (arith, last) in
    λ kind behind at.
    let are = c.loop.invariant.1 kind behind at in
    record { parts = are.parts; run = are.run; ready = subst (λ (i : ℕ). IsReady j (parts_left kind i behind)) none are.ready; long = are.long ∙ last }
