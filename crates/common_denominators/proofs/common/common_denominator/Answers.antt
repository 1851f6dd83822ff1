use Rattle.std.proofs.Common.{◌≡◌, ◌∙◌, ap, sym, refl, arith, map, get_or, length, pos, ◌<◌, ℕ, List}
use Rattle.std.proofs.lemmas.List.{get_or-map, length-map}
use Rattle.std.proofs.lemmas.Result.{err_from_is_err_and}
use Rattle.exact_num.specs.Fraction.{Fraction}
use Rattle.exact_num.specs.Views.{shown_frac}
use Rattle.exact_num.specs.declared.frac.Frac.{Frac}
use Rattle.common_denominators.proofs.Lists.{none-below, more-below, all-below, coarse-in, coarse-next}
use Rattle.common_denominators.proofs.common.common_denominator.Goals as goal

-- the fraction of a place, as the list of fractions has it
shown_at : (fs : List Frac) (k : ℕ) (f : Frac) → k < length fs → f ≡ get_or fs k f → shown_frac f ≡ get_or (map shown_frac fs) k record { num = pos 0; den = 1 }
shown_at fs k f lt is = ap shown_frac is ∙ sym (get_or-map shown_frac fs k f record { num = pos 0; den = 1 } lt)

-- a place of the list is one of the fractions
place : (fs : List Frac) (k : ℕ) → k < length fs → k < length (map shown_frac fs)
place fs k lt = omega (arith, lt, length-map fs shown_frac)

pub loop-fraction-init : goal.loop-fraction-init
loop-fraction-init c = none-below (map shown_frac c.args.fractions.now)

pub loop-fraction-preserved : goal.loop-fraction-preserved
loop-fraction-preserved c =
    let fs : List Frac = c.args.fractions.now in
    let k = c.loop-fraction.fraction-index in
    let f : Frac = c.fraction-item.result in
    let is : f ≡ get_or fs k f = c.fraction-item.is in
    more-below (map shown_frac fs) k c.loop-fraction.common f.den c.in_ok-common.common (ap (λ (x : Fraction). x.den) (shown_at fs k f c.loop-fraction-test.true is))
    c.loop-fraction.invariant c.in_ok-common.ensures.least

pub returns-in_err-common-clause-listed : goal.returns-in_err-common-clause-listed
returns-in_err-common-clause-listed c =
    let fs : List Frac = c.args.fractions.now in
    let k = c.loop-fraction.fraction-index in
    let f : Frac = c.fraction-item.result in
    let is : f ≡ get_or fs k f = c.fraction-item.is in
    let exit = err_from_is_err_and c.from_residual.result c.from_residual.ensures.1 in
    let told = c.in_err-common.ensures.told in
    rw (exit.1, exit.2, told.0, told.1)
    (coarse-in (map shown_frac fs) k c.loop-fraction.common f.den (shown_frac f) (place fs k c.loop-fraction-test.true) (shown_at fs k f c.loop-fraction-test.true is) refl
    c.loop-fraction.invariant c.in_err-common.ensures.large)

pub returns-clause-common : goal.returns-clause-common
returns-clause-common c =
    let fs : List Frac = c.args.fractions.now in
    let whole : c.loop-fraction.fraction-index ≡ length fs = omega arith in
    all-below (map shown_frac fs) c.loop-fraction.fraction-index c.loop-fraction.common (whole ∙ sym (length-map fs shown_frac)) c.loop-fraction.invariant

pub returns-in_err-common-clause-coarse : goal.returns-in_err-common-clause-coarse
returns-in_err-common-clause-coarse c =
    let exit = err_from_is_err_and c.from_residual.result c.from_residual.ensures.1 in
    let told = c.in_err-common.ensures.told in
    rw (exit.1, exit.2, told.0, told.1)
    (coarse-next c.loop-fraction.common c.fraction-item.result.den (shown_frac c.fraction-item.result) c.loop-fraction.invariant.positive refl c.in_err-common.ensures.large)

pub returns-in_err-common-clause-large : goal.returns-in_err-common-clause-large
returns-in_err-common-clause-large c =
    let exit = err_from_is_err_and c.from_residual.result c.from_residual.ensures.1 in
    let told = c.in_err-common.ensures.told in
    rw (exit.1, exit.2, told.0, told.1) (λ m h. c.in_err-common.ensures.large m h.positive h.common)
