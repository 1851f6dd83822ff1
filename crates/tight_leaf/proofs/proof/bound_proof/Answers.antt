use Rattle.std.proofs.Common.{false, List, map, subst, arith}
use Rattle.std.proofs.lemmas.Result.{err_from_is_err_and}
use Rattle.exact_num.specs.Views.{shown_frac}
use Rattle.exact_num.specs.declared.frac.Frac.{Frac}
use Rattle.exact_pivots.specs.Factors.{factors_of}
use Rattle.exact_pivots.specs.Views.{program_of, state_of}
use Rattle.exact_pivots.proofs.Memory.{state_low}
use Rattle.common_denominators.specs.Multiples.{IsCoarseIn, IsCommonOf, StandsIn}
use Rattle.tight_leaf.specs.Parts.{shown_multipliers}
use Rattle.tight_leaf.specs.Proofs.{IsMultiplier}
use Rattle.tight_leaf.proofs.EndFactors.{solved-has, solved-none, solved-only}
use Rattle.tight_leaf.proofs.Parts.{coarse-is, least-is, parts-are, same-count}
use Rattle.tight_leaf.proofs.Stops.{stops-coarse}
use Rattle.tight_leaf.proofs.proof.bound_proof.Goals as goal

pub listed-requires-clause-under : goal.listed-requires-clause-under
listed-requires-clause-under c = λ j nz. (c.requires.fits.tidy.cost j nz).among

pub parts_over-requires-clause-common : goal.parts_over-requires-clause-common
parts_over-requires-clause-common c = subst (λ (fs : List Frac). IsCommonOf (map shown_frac fs) c.in_ok-scale.scale) c.as_slice.ensures.value c.in_ok-scale.ensures.common

pub parts_over-requires-clause-rows : goal.parts_over-requires-clause-rows
parts_over-requires-clause-rows c =
    same-count c.args.leaf.now.rows.items (program_of c.args.leaf.now.program).variables false (factors_of c.args.tableau.now.cost) c.in_ok-multipliers.multipliers c.in_ok-multipliers.ensures

pub returns-in_err-scale-clause-stop : goal.returns-in_err-scale-clause-stop
returns-in_err-scale-clause-stop c =
    let p = program_of c.args.leaf.now.program in
    let s = state_of c.args.tableau.now in
    let ms = c.in_ok-multipliers.multipliers in
    let e = c.in_err-scale.field-0.0 in
    let exit = err_from_is_err_and c.from_residual-in_err-scale.result c.from_residual-in_err-scale.ensures.1 in
    let listed : IsCoarseIn (StandsIn (shown_multipliers ms)) e.times (shown_frac e.fraction) =
    subst (λ (fs : List Frac). IsCoarseIn (StandsIn (map shown_frac fs)) e.times (shown_frac e.fraction)) c.as_slice.ensures.value c.in_err-scale.ensures.listed in
    rw (exit.1, exit.2) (
      c.in_err-scale.ensures.coarse,
      coarse-is c.args.leaf.now.rows.items p.variables false (factors_of c.args.tableau.now.cost) ms (IsMultiplier p s) c.in_ok-multipliers.ensures
          (λ r lt nz. solved-has p s c.requires.fits.tidy (state_low c.args.tableau.now) r (omega (arith, lt, c.requires.rows)) nz)
          (λ r x h nz. let o = solved-only p s c.requires.fits.tidy (state_low c.args.tableau.now) r x h nz in (omega (arith, o.0, c.requires.rows), o.1, o.2))
          (solved-none p s c.requires.fits.tidy (state_low c.args.tableau.now)) e.times (shown_frac e.fraction) listed,
    )

pub returns-in_err-parts-clause-stop : goal.returns-in_err-parts-clause-stop
returns-in_err-parts-clause-stop c =
    let p = program_of c.args.leaf.now.program in
    let s = state_of c.args.tableau.now in
    let ms = c.in_ok-multipliers.multipliers in
    let exit = err_from_is_err_and c.from_residual-in_err-parts.result c.from_residual-in_err-parts.ensures.1 in
    rw (exit.1, exit.2)
    (stops-coarse (IsCoarseIn (StandsIn (shown_multipliers ms))) (IsCoarseIn (IsMultiplier p s))
    (λ times x listed.
    coarse-is c.args.leaf.now.rows.items p.variables false (factors_of c.args.tableau.now.cost) ms (IsMultiplier p s) c.in_ok-multipliers.ensures
    (λ r lt nz. solved-has p s c.requires.fits.tidy (state_low c.args.tableau.now) r (omega (arith, lt, c.requires.rows)) nz)
    (λ r x h nz. let o = solved-only p s c.requires.fits.tidy (state_low c.args.tableau.now) r x h nz in (omega (arith, o.0, c.requires.rows), o.1, o.2))
    (solved-none p s c.requires.fits.tidy (state_low c.args.tableau.now)) times x listed)
    c.in_err-parts.field-0.0 c.in_err-parts.ensures.stop)

pub returns-clause-proof : goal.returns-clause-proof
returns-clause-proof c n form is =
    let p = program_of c.args.leaf.now.program in
    let s = state_of c.args.tableau.now in
    let ms = c.in_ok-multipliers.multipliers in
    let common : IsCommonOf (shown_multipliers ms) c.in_ok-scale.scale =
    subst (λ (fs : List Frac). IsCommonOf (map shown_frac fs) c.in_ok-scale.scale) c.as_slice.ensures.value c.in_ok-scale.ensures.common in
    record {
      least = least-is c.args.leaf.now.rows.items p.variables false (factors_of c.args.tableau.now.cost) ms (IsMultiplier p s) c.in_ok-multipliers.ensures
          (λ r lt nz. solved-has p s c.requires.fits.tidy (state_low c.args.tableau.now) r (omega (arith, lt, c.requires.rows)) nz)
          (λ r x h nz. let o = solved-only p s c.requires.fits.tidy (state_low c.args.tableau.now) r x h nz in (omega (arith, o.0, c.requires.rows), o.1, o.2))
          (solved-none p s c.requires.fits.tidy (state_low c.args.tableau.now)) c.in_ok-scale.scale common;
      parts = parts-are c.args.leaf.now.rows.items p.variables false (factors_of c.args.tableau.now.cost) ms (IsMultiplier p s) c.in_ok-multipliers.ensures
          (λ r lt nz. solved-has p s c.requires.fits.tidy (state_low c.args.tableau.now) r (omega (arith, lt, c.requires.rows)) nz)
          (λ r x h nz. let o = solved-only p s c.requires.fits.tidy (state_low c.args.tableau.now) r x h nz in (omega (arith, o.0, c.requires.rows), o.1, o.2))
          (solved-none p s c.requires.fits.tidy (state_low c.args.tableau.now)) n form is c.in_ok-scale.scale c.in_ok-parts.parts.items c.in_ok-parts.ensures.parts c.in_ok-scale.scale;
    }
