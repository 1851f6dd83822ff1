-- One part more, and what all of them are.
use Rattle.std.proofs.Common.{◌≡◌, ◌+◌, ◌-◌, ◌<◌, ◌≤◌, ℕ, IsTrue, refl, sym, subst, ◌∙◌, arith, rules}
use Rattle.std.proofs.lemmas.Result.{err_from_is_err_and}
use Rattle.cert_items.specs.declared.items.State.{State}
use Rattle.cert_stream.specs.Items.{parts_left}
use Rattle.proof_lines.specs.Grammar.{part_item, behind_item}
use Rattle.proof_lines.specs.Runs.{Moment, moment, IsReady}
use Rattle.proof_lines.proofs.States.{part-left}
use Rattle.proof_lines.proofs.Parting.{ArePartsRead, true-or-not, parts-none, parts-more, parts-unknown, parts-order}
use Rattle.proof_lines.proofs.Running.{failed-then}
use Rattle.proof_lines.proofs.line_judge.LineJudge.read_parts.Goals as goal

pub loop-i-init : goal.loop-i-init
loop-i-init g c =
    let m : Moment = moment c.args.reader.now (g.S.Shelf.told c.args.shelf.now) in (
      refl,
      refl,
      refl,
      refl,
      c.clear.ensures.capacity,
      λ kind behind at. parts-none kind behind m c.args.line.count c.args.self.now.rows c.args.line.scale _ _ _
          record { at = at; used_up = c.requires.asks.2.used_up } c.clear.ensures.items refl refl refl,
    )

pub returns-in_err-part-clause-read : goal.returns-in_err-part-clause-read
returns-in_err-part-clause-read g c =
    let m : Moment = moment c.args.reader.now (g.S.Shelf.told c.args.shelf.now) in
    let j : Moment = moment c.loop-i.reader (g.S.Shelf.told c.loop-i.shelf) in
    let inv = c.loop-i.invariant in
    let count = c.args.line.count in
    let most = c.args.self.now.rows in
    let l : Moment = moment c.part.new.reader (g.S.Shelf.told c.part.new.shelf) in
    let p = err_from_is_err_and c.from_residual.result c.from_residual.ensures.1 in
    rw (p.1, p.2) (λ kind behind at. failed-then m j l _ c.in_err-part.field-0.0 (inv.5 kind behind at).run c.in_err-part.ensures)

pub loop-i-preserved : goal.loop-i-preserved
loop-i-preserved g c =
    let m : Moment = moment c.args.reader.now (g.S.Shelf.told c.args.shelf.now) in
    let j : Moment = moment c.loop-i.reader (g.S.Shelf.told c.loop-i.shelf) in
    let inv = c.loop-i.invariant in
    let count = c.args.line.count in
    let most = c.args.self.now.rows in
    let l : Moment = moment c.part.new.reader (g.S.Shelf.told c.part.new.shelf) in
    let i = c.loop-i.i in
    let part = c.in_ok-part.part in (
      c.keep.ensures.judge ∙ inv.0,
      c.keep.ensures.same_root ∙ inv.1,
      c.keep.ensures.ends ∙ inv.2,
      c.keep.ensures.rows ∙ inv.3,
      c.keep.ensures.capacity ∙ inv.4,
      λ kind behind at.
          let are = inv.5 kind behind at in
          let asks = are.ready.at ∙ part-left kind count i behind c.loop-i-test.true in
          let ready : IsReady l (parts_left kind (count - (i + 1)) behind) = subst (λ (s : State). IsReady l (behind_item s (part_item part))) asks c.in_ok-part.ensures.1 in
          subst (λ (row : ℕ). ArePartsRead kind behind m l count (i + 1) most c.args.line.scale c.keep.new.self.proof c.goes_on-rise.result (row + 1)) (sym c.from-least.ensures)
          (parts-more kind behind m j l count i most c.args.line.scale c.loop-i.self.proof c.keep.new.self.proof c.loop-i.rise c.goes_on-rise.result c.loop-i.least part are c.loop-i-test.true
          c.in_ok-part.ensures.0 ready (λ h. c.keep.ensures.kept (subst (λ (r : ℕ). i < r) (sym inv.3) h)) (λ h. c.keep.ensures.past (subst (λ (r : ℕ). r ≤ i) (sym inv.3) h)) c.keep.ensures.scale
          c.goes_on-rise.ensures (true-or-not c.loop-i.rise)),
    )

pub returns-then-rise-clause-read : goal.returns-then-rise-clause-read
returns-then-rise-clause-read g c =
    let m : Moment = moment c.args.reader.now (g.S.Shelf.told c.args.shelf.now) in
    let j : Moment = moment c.loop-i.reader (g.S.Shelf.told c.loop-i.shelf) in
    let inv = c.loop-i.invariant in
    let count = c.args.line.count in
    let most = c.args.self.now.rows in
    λ kind behind at.
    let are = inv.5 kind behind at in
    let last : c.loop-i.i ≡ count = let few = are.few in omega (arith, few, c.loop-i-test.false) in
    let over : most < count = omega (arith, inv.3, c.if-line-self.false) in
    let whole = subst (λ (i : ℕ). ArePartsRead kind behind m j count i most c.args.line.scale c.loop-i.self.proof c.loop-i.rise c.loop-i.least) last are in
    parts-unknown kind behind m j count most c.args.line.scale c.loop-i.self.proof c.loop-i.rise c.loop-i.least whole over c.if-rise.true

pub returns-else-rise-clause-read : goal.returns-else-rise-clause-read
returns-else-rise-clause-read g c =
    let m : Moment = moment c.args.reader.now (g.S.Shelf.told c.args.shelf.now) in
    let j : Moment = moment c.loop-i.reader (g.S.Shelf.told c.loop-i.shelf) in
    let inv = c.loop-i.invariant in
    let count = c.args.line.count in
    let most = c.args.self.now.rows in
    λ kind behind at.
    let are = inv.5 kind behind at in
    let last : c.loop-i.i ≡ count = let few = are.few in omega (arith, few, c.loop-i-test.false) in
    let whole = subst (λ (i : ℕ). ArePartsRead kind behind m j count i most c.args.line.scale c.loop-i.self.proof c.loop-i.rise c.loop-i.least) last are in
    let down : ¬ IsTrue c.loop-i.rise = search rules in
    parts-order kind behind m j count most c.args.line.scale c.loop-i.self.proof c.loop-i.rise c.loop-i.least whole down
