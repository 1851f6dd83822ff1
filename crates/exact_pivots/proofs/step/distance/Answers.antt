use Rattle.std.proofs.Common.{◌≡◌, ◌∙◌, ap, refl, subst, Err}
use Rattle.std.proofs.lemmas.Int.{to_z-of_z}
use mir.Syntax.{w128}
use Rattle.std.proofs.lemmas.Result.{IfOk-weaker}
use Rattle.exact_num.specs.Fraction.{Fraction, difference_of}
use Rattle.exact_num.specs.Views.{shown_frac}
use Rattle.exact_run.specs.Operations.{whole, IsReduced}
use Rattle.exact_run.specs.declared.operations.Operation.TheVariants.{Sub, Div}
use Rattle.exact_pivots.specs.Lines.{IsWrittenMoving}
use Rattle.exact_pivots.proofs.Reduced.{quotient-of_reduced}
use Rattle.exact_pivots.proofs.Told.{told_as, handed_wide}
use Rattle.exact_pivots.proofs.step.distance.Goals as goal

pub returns-in_err-past-clause-wide : goal.returns-in_err-past-clause-wide
returns-in_err-past-clause-wide c =
    let W = IsWrittenMoving (whole c.args.end) (shown_frac c.args.value) (shown_frac c.args.by) in
    let w = c.in_err-past.field-0.0 in
    let is : shown_frac c.whole.result ≡ whole c.args.end = c.whole.ensures ∙ ap whole (to_z-of_z w128 c.args.end c.ranges.end) in
    handed_wide c.from_residual.result w W c.from_residual.ensures.1
    (told_as (Err w) W Sub c.whole.result c.args.value (is, refl) c.in_err-past.ensures.wide c.in_err-past.ensures.told)

pub returns-clause-moved : goal.returns-clause-moved
returns-clause-moved c =
    let value = shown_frac c.args.value in
    let past = shown_frac c.in_ok-past.past in
    let end_is : shown_frac c.whole.result ≡ whole c.args.end = c.whole.ensures ∙ ap whole (to_z-of_z w128 c.args.end c.ranges.end) in
    let is : IsReduced (difference_of (whole c.args.end) value) past =
    subst (λ (x : Fraction). IsReduced (difference_of x value) past) end_is c.in_ok-past.ensures.answer in
    IfOk-weaker c.worked-2.result _ _
    (λ f h. quotient-of_reduced (difference_of (whole c.args.end) value) past (shown_frac c.args.by) (shown_frac f) c.requires.by is h)
    c.worked-2.ensures.answer

pub returns-clause-wide : goal.returns-clause-wide
returns-clause-wide c =
    let value = shown_frac c.args.value in
    let past = shown_frac c.in_ok-past.past in
    let end_is : shown_frac c.whole.result ≡ whole c.args.end = c.whole.ensures ∙ ap whole (to_z-of_z w128 c.args.end c.ranges.end) in
    let is : IsReduced (difference_of (whole c.args.end) value) past =
    subst (λ (x : Fraction). IsReduced (difference_of x value) past) end_is c.in_ok-past.ensures.answer in
    told_as c.worked-2.result (IsWrittenMoving (whole c.args.end) value (shown_frac c.args.by)) Div c.in_ok-past.past c.args.by (is, refl) c.worked-2.ensures.wide c.worked-2.ensures.told
