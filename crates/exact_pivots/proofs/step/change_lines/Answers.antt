use Rattle.std.proofs.Common.{◌<◌, ◌≡◌, ◌∙◌, arith, length, subst}
use Rattle.exact_num.specs.Views.{shown_frac}
use Rattle.exact_pivots.specs.Factors.{factors_of}
use Rattle.exact_pivots.specs.Lines.{IsWrittenChanging}
use Rattle.exact_pivots.specs.Views.{Shown, shown_line, line_at}
use Rattle.exact_pivots.proofs.Memory.{line_is}
use Rattle.exact_pivots.proofs.Stepping.{changed_step, AnyChanging}
use Rattle.exact_pivots.proofs.Told.{handed_same, stops_as}
use Rattle.exact_pivots.proofs.step.change_lines.Goals as goal

pub returns-in_err-change-clause-stops : goal.returns-in_err-change-clause-stops
returns-in_err-change-clause-stops c =
    let change = c.args.change.now in
    let number = c.loop-number.number in
    let lines = c.args.lines.now.items in
    let own = factors_of change.own in
    let moved = shown_frac change.moved in
    let below : number < length c.loop-number.lines.items = omega (arith, c.loop-number-test.true, c.len-number-end.ensures, c.loop-number.invariant.length) in
    let still : number < length lines = omega (arith, c.loop-number-test.true, c.len-number-end.ensures) in
    let is : shown_line c.index_mut.result.now ≡ line_at lines number =
    line_is c.loop-number.lines.items number c.index_mut.result.now below c.index_mut.ensures.value ∙ c.loop-number.invariant.rest number (omega arith) in
    handed_same c.from_residual.result c.in_err-change.field-0.0 (AnyChanging c.args.place change.entering moved own lines) c.from_residual.ensures.1
    (stops_as c.in_err-change.field-0.0 (IsWrittenChanging change.entering moved own (shown_line c.index_mut.result.now)) (AnyChanging c.args.place change.entering moved own lines)
    (λ o a b h. (number, still, c.if-number-place.false, subst (λ (x : Shown). IsWrittenChanging change.entering moved own x o a b) is h))
    c.in_err-change.ensures.stops)

pub loop-number-preserved : goal.loop-number-preserved
loop-number-preserved c =
    let change = c.args.change.now in
    let below : c.loop-number.number < length c.loop-number.lines.items = omega (arith, c.loop-number-test.true, c.len-number-end.ensures, c.loop-number.invariant.length) in
    changed_step c.args.place change.entering (shown_frac change.moved) (factors_of change.own) c.args.lines.now.items c.loop-number.lines.items c.loop-number.number
    c.index_mut.result.now c.change.new.self c.loop-number.invariant below c.if-number-place.false c.index_mut.ensures.value c.in_ok-change.ensures.changed
