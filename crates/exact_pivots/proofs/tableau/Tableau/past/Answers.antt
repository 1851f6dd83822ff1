use Rattle.std.proofs.Common.{◌∙◌, ap, refl, sym, to_z, of_z}
use mir.Syntax.{w128}
use Rattle.exact_num.specs.Views.{shown_frac}
use Rattle.exact_run.specs.Operations.{whole}
use Rattle.exact_run.specs.Steps.{IsBelow}
use Rattle.exact_pivots.specs.Views.{program_of}
use Rattle.exact_pivots.proofs.Memory.{past_high, past_none, read_is, not_true}
use Rattle.exact_pivots.proofs.tableau.Tableau.past.Goals as goal

pub returns-then-is_below-2 : goal.returns-then-is_below-2
returns-then-is_below-2 c =
    let p = program_of c.args.program.now in
    let line = c.line-line.result.now in
    let high = c.in_ok-high.high in (
      refl,
      past_high p c.args.self.now c.args.place line c.line-line.ensures high (to_z w128 (of_z w128 high)) (shown_frac c.whole-2.result) (sym c.in_ok-high.ensures.value) (read_is high c.in_ok-high.ensures.short)
          c.whole-2.ensures (c.is_below-2.ensures.0 c.if-is_below-2.true),
    )

pub returns : goal.returns
returns c =
    let p = program_of c.args.program.now in
    let line = c.line-line.result.now in
    let high = c.in_ok-high.high in
    past_none p c.args.self.now c.args.place line c.line-line.ensures c.low_end-low.result high (to_z w128 (of_z w128 high)) (shown_frac c.whole.result) (shown_frac c.whole-2.result) c.low_end-low.ensures.value (c.whole.ensures ∙ ap whole (read_is c.low_end-low.result c.low_end-low.ensures.short))
    (not_true c.is_below.result (IsBelow (shown_frac line.value) (shown_frac c.whole.result)) c.is_below.ensures c.if-is_below.false)
    (sym c.in_ok-high.ensures.value) (read_is high c.in_ok-high.ensures.short) c.whole-2.ensures
    (not_true c.is_below-2.result (IsBelow (shown_frac c.whole-2.result) (shown_frac line.value)) c.is_below-2.ensures c.if-is_below-2.false)
