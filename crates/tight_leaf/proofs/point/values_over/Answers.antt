use Rattle.std.proofs.Common.{inr, List, map}
use Rattle.std.proofs.lemmas.Result.{err_from_is_err_and}
use Rattle.exact_num.specs.Views.{shown_frac}
use Rattle.exact_num.specs.declared.frac.Frac.{Frac}
use Rattle.common_denominators.specs.Multiples.{StandsIn}
use Rattle.common_denominators.proofs.Least.{outside-fewer}
use Rattle.tight_leaf.proofs.Multiples.{coarse-itself}
use Rattle.tight_leaf.proofs.Values.{shown-at}
use Rattle.tight_leaf.proofs.point.values_over.Goals as goal

pub returns-in_err-times-clause-stop : goal.returns-in_err-times-clause-stop
returns-in_err-times-clause-stop c =
    let fs : List Frac = c.args.fractions.now in
    let f : Frac = c.fraction-item.result in
    let exit = err_from_is_err_and c.from_residual.result c.from_residual.ensures.1 in
    let told = c.in_err-times.ensures.told in
    let outside = c.in_err-times.ensures.outside in
    let at = shown-at fs c.loop-fraction.fraction-index f c.loop-fraction-test.true c.fraction-item.is in
    rw (exit.1, exit.2, told.0, told.1) (
      record { positive = c.requires.positive; coarse = inr (outside-fewer c.args.base (shown_frac f) outside) },
      (outside, coarse-itself (StandsIn (map shown_frac fs)) c.args.base c.loop-fraction.fraction-index (shown_frac f) at c.requires),
    )
