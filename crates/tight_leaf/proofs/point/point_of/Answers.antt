use Rattle.std.proofs.Common.{◌≡◌, ◌∙◌, List, map, sym, subst}
use Rattle.std.proofs.lemmas.Result.{err_from_is_err_and}
use Rattle.exact_num.specs.Views.{shown_frac}
use Rattle.exact_num.specs.declared.frac.Frac.{Frac}
use Rattle.exact_pivots.specs.Views.{program_of, state_of}
use Rattle.common_denominators.specs.Multiples.{IsCoarseIn, IsOutside, StandsIn}
use Rattle.tight_leaf.specs.Points.{AreTimes, AreValues, IsCoarseValue}
use Rattle.tight_leaf.proofs.Stops.{stops-coarse}
use Rattle.tight_leaf.proofs.Values.{coarse-common, coarse-outside, point-is}
use Rattle.tight_leaf.proofs.point.point_of.Goals as goal

pub returns-in_err-base-clause-stop : goal.returns-in_err-base-clause-stop
returns-in_err-base-clause-stop c =
    let p = program_of c.args.program.now in
    let s = state_of c.args.tableau.now in
    let xs = map shown_frac c.as_slice.result.now in
    let values : AreValues p s xs = subst (λ (fs : List Frac). AreValues p s (map shown_frac fs)) (sym c.as_slice.ensures.value) c.in_ok-fractions.ensures in
    let e = c.in_err-base.field-0.0 in
    let exit = err_from_is_err_and c.from_residual-in_err-base.result c.from_residual-in_err-base.ensures.1 in
    rw (exit.1, exit.2) (
      c.in_err-base.ensures.coarse,
      coarse-common p s xs values e.times (shown_frac e.fraction) c.in_err-base.ensures.listed c.in_err-base.ensures.large,
    )

pub returns-in_err-values-clause-stop : goal.returns-in_err-values-clause-stop
returns-in_err-values-clause-stop c =
    let p = program_of c.args.program.now in
    let s = state_of c.args.tableau.now in
    let xs = map shown_frac c.as_slice-2.result.now in
    let values : AreValues p s xs = subst (λ (fs : List Frac). AreValues p s (map shown_frac fs)) (sym c.as_slice-2.ensures.value) c.in_ok-fractions.ensures in
    let exit = err_from_is_err_and c.from_residual-in_err-values.result c.from_residual-in_err-values.ensures.1 in
    rw (exit.1, exit.2)
    (stops-coarse (λ n x. IsOutside 127 n x × IsCoarseIn (StandsIn xs) n x) (IsCoarseValue p s) (λ n x h. coarse-outside p s xs values n x h.1 h.0)
    c.in_err-values.field-0.0 c.in_err-values.ensures.stop)

pub returns-clause-point : goal.returns-clause-point
returns-clause-point c =
    let p = program_of c.args.program.now in
    let s = state_of c.args.tableau.now in
    let base = c.in_ok-base.base in
    let zs = c.in_ok-values.values.items in
    let xs = map shown_frac c.as_slice.result.now in
    let values : AreValues p s xs = subst (λ (fs : List Frac). AreValues p s (map shown_frac fs)) (sym c.as_slice.ensures.value) c.in_ok-fractions.ensures in
    let same : c.as_slice-2.result.now ≡ c.as_slice.result.now = c.as_slice-2.ensures.value ∙ sym c.as_slice.ensures.value in
    point-is p s xs values base zs c.in_ok-base.ensures.common
    (subst (λ (fs : List Frac). AreTimes base (map shown_frac fs) zs) same c.in_ok-values.ensures.times)
