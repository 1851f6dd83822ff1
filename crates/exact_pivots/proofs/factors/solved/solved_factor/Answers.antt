use Rattle.std.proofs.Common.{subst}
use Rattle.std.proofs.lemmas.Result.{IfOk-weaker}
use Rattle.exact_num.specs.Fraction.{Fraction, quotient_of, negative_of}
use Rattle.exact_num.specs.Views.{shown_frac}
use Rattle.exact_num.specs.declared.frac.Frac.{Frac}
use Rattle.exact_run.specs.Operations.{IsReduced}
use Rattle.exact_pivots.specs.Stops.{IsSolvedFactor}
use Rattle.exact_pivots.proofs.Reduced.{quotient-of_reduced}
use Rattle.exact_pivots.proofs.factors.solved.solved_factor.Goals as goal

pub returns-clause-factor : goal.returns-clause-factor
returns-clause-factor c =
    let entry = c.args.entry in
    let found = c.in_ok-numerator.numerator in
    IfOk-weaker c.worked.result
    (λ (f : Frac). IsReduced (quotient_of (shown_frac found) (shown_frac c.args.by)) (shown_frac f))
    (λ (f : Frac). IsSolvedFactor (shown_frac c.args.by) c.args.entering c.args.leaving entry.column (shown_frac entry.value) (shown_frac f))
    (λ f h. record {
      entering = λ e. absurd (c.if-entry-entering.false e);
      leaving = λ ne e nz. subst (λ (z : Fraction). IsReduced (quotient_of z (shown_frac c.args.by)) (shown_frac f)) (c.in_ok-numerator.ensures.leaving e) h;
      others = λ ne nl nz. quotient-of_reduced (negative_of (shown_frac entry.value)) (shown_frac found) (shown_frac c.args.by) (shown_frac f) c.requires.by (c.in_ok-numerator.ensures.others nl) h;
      zero = λ ne z. absurd (c.requires.entry z);
    })
    c.worked.ensures.answer
