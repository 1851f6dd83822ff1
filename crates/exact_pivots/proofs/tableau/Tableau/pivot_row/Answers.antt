use Rattle.std.proofs.Common.{◌≡◌, ◌∙◌, ap, sym, subst, Err, arith, ℤ}
use Rattle.exact_num.specs.Fraction.{Fraction, sum_of, difference_of, quotient_of}
use Rattle.exact_num.specs.Views.{shown_frac}
use Rattle.exact_run.specs.Operations.{whole, IsReduced}
use Rattle.exact_run.specs.Programs.{end_value}
use Rattle.exact_run.specs.declared.operations.Operation.TheVariants.{Add}
use Rattle.exact_pivots.specs.Choices.{IsWrittenFrom}
use Rattle.exact_pivots.specs.Factors.{factors_of}
use Rattle.exact_pivots.specs.Lines.{IsWrittenMoving}
use Rattle.exact_pivots.specs.Stops.{IsTooWideBy}
use Rattle.exact_pivots.specs.Views.{program_of, stands_at, state_of}
use Rattle.exact_pivots.proofs.Memory.{state_low, stands_is, read_is}
use Rattle.exact_pivots.proofs.Writing.{entered_written}
use Rattle.exact_pivots.proofs.Rowing.{row_by, row_moved, row_stops_moving, row_stops_solving, row_is}
use Rattle.exact_pivots.proofs.Told.{told_as, handed_on, handed_same}
use Rattle.exact_pivots.proofs.tableau.Tableau.pivot_row.Goals as goal

pub returns-in_err-moved-clause-stops : goal.returns-in_err-moved-clause-stops
returns-in_err-moved-clause-stops c =
    let p = program_of c.args.program.now in
    let s = state_of c.args.self.now in
    handed_on c.from_residual.result c.in_err-moved.field-0.0 (IsWrittenFrom p s) c.from_residual.ensures.1
    (row_stops_moving p c.args.self.now c.args.leaving c.args.entering c.requires.leaves c.requires.enters c.line-line.result.now c.line-line.ensures (shown_frac c.at.result) c.at.ensures
    c.in_err-moved.field-0.0
    (subst (λ (z : ℤ). IsTooWideBy (IsWrittenMoving (whole z) (shown_frac c.line-line.result.now.value) (shown_frac c.at.result)) c.in_err-moved.field-0.0) (read_is c.args.leaving.end c.args.leaving.short) c.in_err-moved.ensures.wide))

pub returns-in_err-value-clause-stops : goal.returns-in_err-value-clause-stops
returns-in_err-value-clause-stops c =
    let p = program_of c.args.program.now in
    let t = c.args.self.now in
    let k = c.args.entering in
    let w = c.in_err-value.field-0.0 in
    let moved = shown_frac c.in_ok-moved.moved in
    let stood_is : shown_frac c.whole-stood.result ≡ whole (end_value p k (stands_at t.stands.items k)) =
    c.whole-stood.ensures ∙ ap whole (read_is c.end_value.result c.end_value.ensures.short ∙ c.end_value.ensures.value ∙ ap (end_value p k) (stands_is t.stands.items k c.index.result.now (omega (arith, c.requires.enters.candidate.free.among, c.requires.fits.stands)) c.index.ensures)) in
    let written : IsWrittenFrom p (state_of t) Add (shown_frac c.whole-stood.result) moved =
    subst (λ (x : Fraction). IsWrittenFrom p (state_of t) Add x moved) (sym stood_is)
    (entered_written p (state_of t) c.args.leaving k (state_low t) c.requires.leaves c.requires.enters moved
    (row_moved p t c.args.leaving k c.requires.leaves c.requires.enters c.line-line.result.now c.line-line.ensures (shown_frac c.at.result) moved c.at.ensures
    (subst (λ (z : ℤ). IsReduced (quotient_of (difference_of (whole z) (shown_frac c.line-line.result.now.value)) (shown_frac c.at.result)) moved) (read_is c.args.leaving.end c.args.leaving.short) c.in_ok-moved.ensures.moved))) in
    handed_on c.from_residual-in_err-value.result w (IsWrittenFrom p (state_of t)) c.from_residual-in_err-value.ensures.1
    (told_as (Err w) (IsWrittenFrom p (state_of t)) Add c.whole-stood.result c.in_ok-moved.moved written c.in_err-value.ensures.wide c.in_err-value.ensures.told)

pub solved-requires : goal.solved-requires
solved-requires c =
    record { entering = λ z. row_by (program_of c.args.program.now) c.args.self.now c.args.leaving c.args.entering c.requires.leaves c.requires.enters c.line-line.result.now c.line-line.ensures z }

pub returns-in_err-own-clause-stops : goal.returns-in_err-own-clause-stops
returns-in_err-own-clause-stops c =
    let p = program_of c.args.program.now in
    let s = state_of c.args.self.now in
    handed_same c.from_residual-in_err-own.result c.in_err-own.field-0.0 (IsWrittenFrom p s) c.from_residual-in_err-own.ensures.1
    (row_stops_solving p c.args.self.now c.args.leaving c.args.entering c.requires.leaves c.requires.enters c.line-line.result.now c.line-line.ensures c.requires.fits.tidy
    c.in_err-own.field-0.0 c.in_err-own.ensures.stops)

pub returns-clause-row : goal.returns-clause-row
returns-clause-row c =
    let p = program_of c.args.program.now in
    let t = c.args.self.now in
    let k = c.args.entering in
    let moved = shown_frac c.in_ok-moved.moved in
    let value = shown_frac c.in_ok-value.value in
    let stood_is : shown_frac c.whole-stood.result ≡ whole (end_value p k (stands_at t.stands.items k)) =
    c.whole-stood.ensures ∙ ap whole (read_is c.end_value.result c.end_value.ensures.short ∙ c.end_value.ensures.value ∙ ap (end_value p k) (stands_is t.stands.items k c.index.result.now (omega (arith, c.requires.enters.candidate.free.among, c.requires.fits.stands)) c.index.ensures)) in
    row_is p t c.args.leaving k c.requires.leaves c.requires.enters c.line-line.result.now c.line-line.ensures moved value (factors_of c.in_ok-own.own)
    (row_moved p t c.args.leaving k c.requires.leaves c.requires.enters c.line-line.result.now c.line-line.ensures (shown_frac c.at.result) moved c.at.ensures
    (subst (λ (z : ℤ). IsReduced (quotient_of (difference_of (whole z) (shown_frac c.line-line.result.now.value)) (shown_frac c.at.result)) moved) (read_is c.args.leaving.end c.args.leaving.short) c.in_ok-moved.ensures.moved))
    c.in_ok-own.ensures.factors
    (subst (λ (x : Fraction). IsReduced (sum_of x moved) value) stood_is c.in_ok-value.ensures.answer)
