use Rattle.std.proofs.Common.{inl, inr, rules, arith, FitsSigned}
use Rattle.std.proofs.lemmas.Int.{ints}
use Rattle.std.proofs.lemmas.Result.{err_from_is_err_and}
use mir.Syntax.{w128}
use Rattle.exact_num.specs.Views.{shown_frac}
use Rattle.common_denominators.proofs.Least.{outside-fewer, outside-of}
use Rattle.common_denominators.proofs.multiples.short_times.Goals as goal
use Rattle.common_denominators.proofs.multiples.short_times.Goals.{else-from-number-via-then-from-number+else-number-from, else-from-number-via-else-from-number}

pub returns-else-from-number-clause-outside : goal.returns-else-from-number-clause-outside
returns-else-from-number-clause-outside c =
    let number : FitsSigned w128 c.in_ok-number.number = search rules in
    outside-of 63 c.args.count (shown_frac c.args.fraction) c.in_ok-number.number c.args.fraction.positive c.in_ok-number.ensures.value
    (elim c.else-from-number.branch [
      | else-from-number-via-then-from-number+else-number-from w ↦ inr (omega (arith, ints))
      | else-from-number-via-else-from-number w ↦ inl (omega (arith, ints))
    ])

pub returns-in_err-number-clause-outside : goal.returns-in_err-number-clause-outside
returns-in_err-number-clause-outside c =
    let exit = err_from_is_err_and c.from_residual.result c.from_residual.ensures.1 in
    rw exit.1 (outside-fewer c.args.count (shown_frac c.args.fraction) c.in_err-number.ensures.outside)
