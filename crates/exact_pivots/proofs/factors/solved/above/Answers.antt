use Rattle.std.proofs.Common.{refl, subst}
use Rattle.std.proofs.lemmas.Result.{IfOk-weaker}
use Rattle.exact_num.specs.Fraction.{Fraction, difference_of}
use Rattle.exact_num.specs.Views.{shown_frac}
use Rattle.exact_run.specs.Operations.{IsReduced}
use Rattle.exact_run.specs.declared.operations.Operation.TheVariants.{Sub}
use Rattle.exact_pivots.specs.Stops.{IsWrittenAbove}
use Rattle.exact_pivots.proofs.Reduced.{less-reduced}
use Rattle.exact_pivots.proofs.Told.{told_as}
use Rattle.exact_pivots.proofs.factors.solved.above.Goals as goal

pub returns-clause-others : goal.returns-clause-others
returns-clause-others c =
    IfOk-weaker c.worked.result _ _
    (λ f h ne. less-reduced (shown_frac c.args.entry.value) (shown_frac f) c.args.entry.value.positive
    (subst (λ (z : Fraction). IsReduced (difference_of z (shown_frac c.args.entry.value)) (shown_frac f)) c.whole-2.ensures h))
    c.worked.ensures.answer

pub returns-clause-wide : goal.returns-clause-wide
returns-clause-wide c =
    told_as c.worked.result (IsWrittenAbove c.args.leaving c.args.entry.column (shown_frac c.args.entry.value)) Sub c.whole-2.result c.args.entry.value
    (c.if-entry-leaving.false, c.whole-2.ensures, refl) c.worked.ensures.wide c.worked.ensures.told
