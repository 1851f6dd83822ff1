use Rattle.std.proofs.Common.{◌<◌, inr, List, length, map, subst, arith}
use Rattle.std.proofs.lemmas.Result.{err_from_is_err_and}
use Rattle.exact_num.specs.Views.{shown_frac}
use Rattle.exact_num.specs.declared.frac.Frac.{Frac}
use Rattle.common_denominators.specs.Multiples.{StandsIn}
use Rattle.tight_leaf.specs.Parts.{shown_multipliers}
use Rattle.tight_leaf.proofs.Multiples.{coarse-itself}
use Rattle.tight_leaf.proofs.Values.{shown-at}
use Rattle.tight_leaf.proofs.proof.parts_over.Goals as goal

pub returns-in_err-short_times-clause-stop : goal.returns-in_err-short_times-clause-stop
returns-in_err-short_times-clause-stop c =
    let ms = c.args.multipliers.now in
    let x : Frac = c.index-values-number.result in
    let number = c.loop-number.number in
    let below : number < length c.as_slice-values.result.now = omega (arith, c.loop-number-test.true, c.as_slice-rows.ensures, c.as_slice-values.ensures, c.requires.rows) in
    let at : StandsIn (shown_multipliers ms) number (shown_frac x) =
    subst (λ (fs : List Frac). StandsIn (map shown_frac fs) number (shown_frac x)) c.as_slice-values.ensures.value
    (shown-at c.as_slice-values.result.now number x below c.index-values-number.is) in
    let exit = err_from_is_err_and c.from_residual.result c.from_residual.ensures.1 in
    let told = c.in_err-short_times.ensures.told in
    let outside = c.in_err-short_times.ensures.outside in
    rw (exit.1, exit.2, told.0, told.1) (
      record { positive = c.requires.common.positive; coarse = inr outside },
      coarse-itself (StandsIn (shown_multipliers ms)) c.args.scale number (shown_frac x) at c.requires.common,
    )
